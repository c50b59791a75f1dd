use Rattle.std.proofs.Common.{arith, ◌+◌}
use Rattle.edr_loops.proofs.LaterLemmas.{going-on, later-raised}
use Rattle.edr_loops.proofs.recorder.Desk.close_below.Goals as goal

pub returns-then-closed-horizon : goal.returns-then-closed-horizon
returns-then-closed-horizon c =
    let s = c.requires.2 in
    let closed = c.closed.ensures s.history s.told.core_is in
    let is = s.told.core_is.closed_is in
    let below = c.if-closed-horizon.true in
    going-on c.args.horizon c.args.self.now _ c.requires
    (later-raised (c.args.self.now.core.closed + 1) c.args.horizon c.args.self.now c.close_next.new.self (omega (arith, closed, is, below)) c.close_next.ensures.later) c.close_next.ensures.seat
