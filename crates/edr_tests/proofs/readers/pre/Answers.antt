use Rattle.std.proofs.Common.{arith, refl, Some}
use Rattle.std.proofs.lemmas.List.Elements.{All-replicate}
use Rattle.edr_record.specs.Bounds.{IsUpTo}
use Rattle.edr_tests.proofs.readers.pre.Goals as goal

pub invariant_of-result : goal.invariant_of-result
invariant_of-result c = record {
  cycle_from = omega arith;
  cycle_to = omega arith;
  zero_from = omega arith;
  zero_to = omega arith;
  place = tt;
  speeds = refl;
  speed = All-replicate (IsUpTo 300) 201 (Some 50) (omega arith);
  throttles = refl;
  throttle = All-replicate (IsUpTo 100) 201 (Some 20) (omega arith);
  brakes = refl;
}
