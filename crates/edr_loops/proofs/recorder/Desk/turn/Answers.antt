use Rattle.std.proofs.Common.{arith}
use Rattle.edr_loops.proofs.LaterLemmas.{later-again, later-raised, later-twice}
use Rattle.edr_loops.proofs.recorder.Desk.turn.Goals as goal

pub returns-then-not-send_held-clause-later : goal.returns-then-not-send_held-clause-later
returns-then-not-send_held-clause-later c = later-raised 0 c.args.horizon _ _ (omega arith) c.send_held.ensures.on.later

pub returns-clause-later : goal.returns-clause-later
returns-clause-later c =
    later-again 0 c.args.horizon c.args.horizon _ _ _ (omega arith) (omega arith) (later-twice _ _ _ c.send_held.ensures.on.later c.post_closed.ensures.later) c.advance-moved.ensures.later
