use Rattle.std.specs.Prelude.{ℕ, length}
use Rattle.edr_items.specs.PerSensor.{total_of}
use Rattle.edr_definitions.specs.Schedule.{Progress}
use Rattle.edr_core.specs.StandsFor.{CoreIsFor}
use Rattle.edr_cycle.specs.Rest.{PassesOn}
use Rattle.edr_cycle.proofs.cycle_run.pass_on.Given as goal

abbrev pub invariant-loop : goal.invariant-loop
invariant-loop l = (n : ℕ) (p : Progress) → CoreIsFor l.fn.core n p → PassesOn n p l.core l.fn.left l.left

abbrev pub decreases-loop : goal.decreases-loop
decreases-loop l = total_of length l.left
