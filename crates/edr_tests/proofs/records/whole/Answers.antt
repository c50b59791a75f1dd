use Rattle.std.proofs.Common.{arith, refl, pos, None, Some}
use Rattle.std.specs.Prelude.{replicate}
use Rattle.std.proofs.lemmas.List.Elements.{All-replicate}
use Rattle.edr_record.specs.Bounds.{IsUpTo, IsChange, ArePoints, IsExtreme}
use Rattle.edr_tests.proofs.records.whole.Goals as goal

no_points : ArePoints 6 (replicate 26 (pos 0))
no_points = record { room = refl; first = refl; changes = All-replicate IsChange 26 (pos 0) (omega arith); past = refl }

no_change : IsExtreme 50 (record { kmh = pos 0; at = 0 })
no_change = record { change = omega arith; time = omega arith }

pub invariant_of-result-2 : goal.invariant_of-result-2
invariant_of-result-2 c = record {
  cycle_from = omega arith;
  cycle_to = omega arith;
  zero_from = omega arith;
  zero_to = omega arith;
  place = tt;
  speeds = refl;
  speed = All-replicate (IsUpTo 300) 201 (Some 50) (omega arith);
  throttles = refl;
  throttle = All-replicate (IsUpTo 100) 201 (Some 20) (omega arith);
  brakes = refl;
}

pub invariant_of-result : goal.invariant_of-result
invariant_of-result c = record {
  end_from = omega arith;
  end_to = omega arith;
  along = no_points;
  across = no_points;
  max_along = no_change;
  max_across = no_change;
  result_at = omega arith;
  missing_along = omega arith;
  missing_across = omega arith;
  restraints = refl;
  fired = All-replicate (IsUpTo 50) 8 None tt;
}
