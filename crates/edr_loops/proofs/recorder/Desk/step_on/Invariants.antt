use Rattle.edr_loops.specs.Recorders.{RecordsOn}
use Rattle.edr_loops.proofs.recorder.Desk.step_on.Given as goal

abbrev pub invariant-loop : goal.invariant-loop
invariant-loop l = RecordsOn l.horizon l.fn.self l.self
