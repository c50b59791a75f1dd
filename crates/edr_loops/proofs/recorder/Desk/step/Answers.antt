use Rattle.std.proofs.Common.{arith}
use Rattle.edr_loops.proofs.LaterLemmas.{holding-again, on-again}
use Rattle.edr_loops.proofs.recorder.Desk.step.Goals as goal

pub returns : goal.returns
returns c =
    on-again c.args.horizon c.args.horizon _ _ _ (omega arith) c.pass_next.ensures.0
    (on-again 0 c.args.horizon _ _ _ (omega arith)
    (holding-again 0 _ _ _ c.take_due-along.ensures (holding-again 0 _ _ _ c.take_due-across.ensures c.take_due-restraint.ensures)).0 c.close_below-closed.ensures)
