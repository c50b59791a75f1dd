use Rattle.std.proofs.Common.{arith}
use Rattle.edr_loops.proofs.LaterLemmas.{holding-again, on-again}
use Rattle.edr_loops.proofs.recorder.Desk.advance.Goals as goal

pub returns : goal.returns
returns c =
    on-again 0 c.args.horizon _ _ _ (omega arith)
    (holding-again 0 _ _ _ c.grant.ensures (holding-again 0 _ _ _ c.load_marks-marks.ensures c.take_parts-parts.ensures)).0 c.step_on-steps.ensures
