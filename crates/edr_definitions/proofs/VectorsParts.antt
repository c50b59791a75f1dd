-- Slots and the two parts of a record.
use Rattle.std.proofs.Common.{refl, ◌≡◌, ◌+◌, ℕ, pos, negsuc, true, false, Some, None, [], ◌∷◌, ◌++◌, map}
use Rattle.std.specs.Prelude.{replicate}
use Rattle.std.specs.List.{range_with_len}
use Rattle.edr_items.specs.SensorLists.{SensorLists, no_items}
use Rattle.edr_record.specs.declared.Place.TheVariants.{First}
use Rattle.edr_record.specs.declared.Profile.TheVariants.{Long}
use Rattle.edr_definitions.specs.Ticks.{first_tick, greatest}
use Rattle.edr_definitions.specs.Windows.{delta_v}
use Rattle.edr_definitions.specs.Parts.{slot, slots_before, numbers, switch, pre_part, kmh_of, first_greatest, points, extreme, result_at, missing_count, first_firing, firings, crash_part}
use Rattle.edr_definitions.proofs.VectorPulses.{pulse, both, nothing, firing, only_along, only_fired, no_firing, sample, silence, each_100}

-- ---- slots
-- a sample serves the 100 ms from its moment on
slot_at_100 : slot (sample 100 (pos 50) ∷ []) 200 ≡ Some (pos 50)
unfolding slot
slot_at_100 = refl

slot_at_101 : slot (sample 100 (pos 50) ∷ []) 201 ≡ None
unfolding slot
slot_at_101 = refl

-- and not an earlier slot
slot_before_it : slot (sample 100 (pos 50) ∷ []) 99 ≡ None
unfolding slot
slot_before_it = refl

-- the latest counts, and a silent moment after it takes nothing away
slot_latest : slot (sample 50 (pos 7) ∷ sample 100 (pos 50) ∷ silence 150 ∷ []) 150 ≡ Some (pos 50)
unfolding slot
slot_latest = refl

-- a sample past the slot doesn't count, though it is the newest
slot_not_newest : slot (sample 100 (pos 50) ∷ sample 150 (pos 60) ∷ []) 149 ≡ Some (pos 50)
unfolding slot
slot_not_newest = refl

-- with a sample each 100 ms the slots of time zero 26,003 are those of 6,000 to 26,000
long_slots : numbers (slots_before (each_100 (λ k. pos k) 270) 26_003) ≡ map (λ v. Some v) (range_with_len 60 201)
unfolding slots_before slot
long_slots = refl

-- with power on at tick 1, time zero 3,000 has no slots before it: at -20.0 to -3.0 s they are absent
before_power_on : numbers (slots_before (each_100 (λ k. pos 50) 40) 3000) ≡ replicate 171 None ++ replicate 30 (Some 50)
unfolding slots_before slot
before_power_on = refl

-- 1 is on, 0 is off
switch_on : switch (Some (pos 1)) ≡ Some true
switch_on = refl

switch_off : switch (Some (pos 0)) ≡ Some false
switch_off = refl

-- a belt that is let go and a lamp that comes on within the last second
abbrev driver : SensorLists
driver = record no_items { belt = sample 4950 (pos 1) ∷ sample 5001 (pos 0) ∷ []; lamp = sample 4901 (pos 0) ∷ sample 5500 (pos 1) ∷ []; brake = sample 6000 (pos 1) ∷ [] }

-- belt and lamp are those of 1 s before time zero, the brake's last slot is that of time zero
pre_part_of_driver : pre_part driver 7 First 6000 ≡ record {
  key = record { cycle = 7; zero = 6000 };
  place = First;
  profile = Long;
  speed = replicate 201 None;
  throttle = replicate 201 None;
  brake = replicate 200 None ++ Some true ∷ [];
  belt = Some true;
  lamp = Some false;
}
unfolding pre_part slots_before slot
pre_part_of_driver = refl

-- ---- whole km/h
-- half a km/h is rounded away from zero, on both sides
kmh_4999 : kmh_of (pos 4999) ≡ pos 0
kmh_4999 = refl

kmh_5000 : kmh_of (pos 5000) ≡ pos 1
kmh_5000 = refl

kmh_minus_4999 : kmh_of (negsuc 4998) ≡ pos 0
kmh_minus_4999 = refl

kmh_minus_5000 : kmh_of (negsuc 4999) ≡ negsuc 0
kmh_minus_5000 = refl

kmh_14999 : kmh_of (pos 14999) ≡ pos 1
kmh_14999 = refl

kmh_minus_15000 : kmh_of (negsuc 14999) ≡ negsuc 1
kmh_minus_15000 = refl

-- the greatest change that 300 ticks can give isn't clamped
kmh_greatest : kmh_of (negsuc 29999999) ≡ negsuc 2999
kmh_greatest = refl

-- ---- the crash part
-- points of -0.4 km/h a tick from time zero 3 on, up to 145 ms: the last sample is that of tick 100, 97 ms past it
points_of_crash : points (pulse 1 100 (negsuc 3999)) 3 118 ≡ pos 0 ∷ negsuc 3 ∷ negsuc 7 ∷ negsuc 11 ∷ negsuc 15 ∷ negsuc 19 ∷ negsuc 23 ∷ negsuc 27 ∷ negsuc 31 ∷ negsuc 35 ∷ negsuc 38 ∷ negsuc 38 ∷ negsuc 38 ∷ negsuc 38 ∷ negsuc 38 ∷ []
unfolding points delta_v
points_of_crash = refl

-- an end 20 ms past time zero gives 6 points, one 220 ms past it all 26, with the last at 250 ms
points_of_20 : points nothing 1000 1020 ≡ replicate 6 (pos 0)
unfolding points delta_v
points_of_20 = refl

points_of_219 : points nothing 1000 1219 ≡ replicate 25 (pos 0)
unfolding points delta_v
points_of_219 = refl

points_of_220 : points nothing 1000 1220 ≡ replicate 26 (pos 0)
unfolding points delta_v
points_of_220 = refl

points_of_500 : points nothing 1000 1500 ≡ replicate 26 (pos 0)
unfolding points delta_v
points_of_500 = refl

-- the same size twice: the earlier tick counts, with the sign that it had there
extreme_tie : extreme (both (pulse 11 11 (pos 20000)) (pulse 12 12 (negsuc 39999))) 10 15 ≡ record { kmh = pos 2; at = 1 }
unfolding extreme first_greatest first_tick greatest delta_v
extreme_tie = refl

-- a greater size on the other side counts
extreme_other_side : extreme (both (pulse 11 11 (pos 20000)) (pulse 12 12 (negsuc 49999))) 10 15 ≡ record { kmh = negsuc 2; at = 2 }
unfolding extreme first_greatest first_tick greatest delta_v
extreme_other_side = refl

-- with no change the greatest is 0 at time zero, and the sample of time zero itself is before it
extreme_of_none : extreme (pulse 10 10 (pos 20000)) 10 15 ≡ record { kmh = pos 0; at = 0 }
unfolding extreme first_greatest first_tick greatest delta_v
extreme_of_none = refl

-- the greatest is that of steps, not of whole km/h: 2.0001 km/h at 2 ms is more than 2 km/h at 1 ms
extreme_in_steps : extreme (both (pulse 11 11 (pos 20000)) (pulse 12 12 (pos 1))) 10 15 ≡ record { kmh = pos 2; at = 2 }
unfolding extreme first_greatest first_tick greatest delta_v
extreme_in_steps = refl

-- of two resultants of the same size the earlier counts: 3 and 4 km/h, and then 5 km/h along alone
resultant_tie : result_at (record { along = both (pulse 11 11 (pos 30000)) (pulse 12 12 (pos 20000)); across = both (pulse 11 11 (pos 40000)) (pulse 12 12 (negsuc 39999)); fired = no_firing }) 10 15 ≡ 1
unfolding result_at first_greatest first_tick greatest delta_v
resultant_tie = refl

-- the ticks 11 to 14 without a sample, of which 12 and 13 have one
missing_two : missing_count (pulse 12 13 (pos 0)) 11 15 ≡ 2
unfolding missing_count
missing_two = refl

-- the driver's frontal air bag at time zero and again, its curtain 3 ms later, the passenger's frontal at the close, its side past it
abbrev four_firings : ℕ → ℕ
four_firings t = firing 2 1 t + firing 5 17 t + firing 52 2 t + firing 53 8 t

first_firings : firings (only_fired four_firings) 2 53 ≡ Some 0 ∷ Some 50 ∷ None ∷ None ∷ Some 3 ∷ None ∷ None ∷ None ∷ []
unfolding firings first_firing first_tick
first_firings = refl

-- a deployment alone: six points of 0, and no sample at any of the 50 ticks past time zero
crash_part_of_deployment : crash_part (only_fired (firing 2 1)) 2 22 ≡ record {
  end = 20;
  along = replicate 26 (pos 0);
  across = replicate 26 (pos 0);
  max_along = record { kmh = pos 0; at = 0 };
  max_across = record { kmh = pos 0; at = 0 };
  result_at = 0;
  missing_along = 50;
  missing_across = 50;
  fired = Some 0 ∷ replicate 7 None;
}
unfolding crash_part points extreme result_at missing_count firings first_firing first_greatest first_tick greatest delta_v
crash_part_of_deployment = refl

-- the trigger that reached back: longitudinal points up to 57 ms, the greatest at 8 ms, and no lateral samples
crash_part_of_second_pulse : crash_part (only_along (both (pulse 1 10 (pos 5000)) (pulse 71 80 (pos 5000)))) 72 99 ≡ record {
  end = 27;
  along = pos 0 ∷ replicate 5 (pos 4) ++ replicate 20 (pos 0);
  across = replicate 26 (pos 0);
  max_along = record { kmh = pos 4; at = 8 };
  max_across = record { kmh = pos 0; at = 0 };
  result_at = 8;
  missing_along = 49;
  missing_across = 57;
  fired = replicate 8 None;
}
unfolding crash_part points extreme result_at missing_count firings first_firing first_greatest first_tick greatest delta_v
crash_part_of_second_pulse = refl
