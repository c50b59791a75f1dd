use Rattle.std.proofs.Common.{arith, refl, None, Some}
use Rattle.std.proofs.lemmas.List.Elements.{All-replicate}
use Rattle.edr_record.specs.Bounds.{IsUpTo}
use Rattle.edr_tests.proofs.records.a_record_is_complete_with_all_slots_of_its_profile.Goals as goal

pub invariant_of-long-2 : goal.invariant_of-long-2
invariant_of-long-2 g c = record {
  cycle_from = c.long.invariant.cycle_from;
  cycle_to = c.long.invariant.cycle_to;
  zero_from = c.long.invariant.zero_from;
  zero_to = c.long.invariant.zero_to;
  place = c.long.invariant.place;
  speeds = refl;
  speed = All-replicate (IsUpTo 300) 201 None tt;
  throttles = refl;
  throttle = All-replicate (IsUpTo 100) 201 (Some 20) (omega arith);
  brakes = refl;
}
