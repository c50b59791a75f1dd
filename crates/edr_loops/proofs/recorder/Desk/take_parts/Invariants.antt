use Rattle.edr_loops.specs.Recorders.{RecordsOnHolding}
use Rattle.edr_loops.proofs.recorder.Desk.take_parts.Given as goal

abbrev pub invariant-loop-sensor : goal.invariant-loop-sensor
invariant-loop-sensor l = RecordsOnHolding 0 l.fn.self l.self
