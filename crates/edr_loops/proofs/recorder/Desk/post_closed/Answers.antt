use Rattle.std.proofs.Common.{refl}
use Rattle.edr_loops.proofs.LaterLemmas.{later-by, recording-later}
use Rattle.edr_loops.proofs.CloseLemmas.{stands-beside}
use Rattle.edr_loops.proofs.recorder.Desk.post_closed.Goals as goal

pub returns-then-self-closed-clause-later : goal.returns-then-self-closed-clause-later
returns-then-self-closed-clause-later c = later-by 0 c.args.self.now _ refl refl refl refl c.post_closed.ensures.board refl (λ n e low s. stands-beside n e c.args.self.now c.post_closed.new.self c.closed-closed.result c.args.self.now.watch s)

pub returns-then-self-closed-clause-stands : goal.returns-then-self-closed-clause-stands
returns-then-self-closed-clause-stands c = recording-later 0 c.args.self.now _ (returns-then-self-closed-clause-later c) c.requires.stands
