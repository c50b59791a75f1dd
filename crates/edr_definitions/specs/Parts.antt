-- The two parts of an event's record.
use Rattle.std.specs.Prelude.{ℕ, ◌+◌, ◌-◌, ◌*◌, ◌/◌, ℤ, pos, negsuc, neg_ℤ, ◌&&◌, nat_eq, nat_le, Option, None, unwrap_or, option_map, is_none, List, [], ◌∷◌, map, filter, count_by, suc, Bool, unsigned_abs, ◌++◌, replicate}
use Rattle.std.specs.Option.{option_or}
use Rattle.std.specs.Int.{bit_at}
use Rattle.std.specs.List.{range_with_len}
use Rattle.edr_items.specs.declared.Item.{Item}
use Rattle.edr_items.specs.SensorLists.{SensorLists}
use Rattle.edr_record.specs.declared.TheConstants.{LONG_SLOTS, POINT_STEP, SINGLE_REACH, SLOT_REACH, SLOT_STEP}
use Rattle.edr_record.specs.declared.Place.{Place}
use Rattle.edr_record.specs.declared.Profile.TheVariants.{Long}
use Rattle.edr_record.specs.declared.Extreme.{Extreme}
use Rattle.edr_record.specs.Parts.{PrePart, CrashPart}
use Rattle.edr_record.specs.Bounds.{point_count, most_points}
use Rattle.edr_definitions.specs.declared.limits.TheConstants.{LONGEST_AGE, STEPS_OF_KMH}
use Rattle.edr_definitions.specs.Ticks.{ticks, first_tick, greatest}
use Rattle.edr_definitions.specs.Signals.{Signals}
use Rattle.edr_definitions.specs.Windows.{delta_v, size_of_change, squares}
use Rattle.edr_definitions.specs.Selection.{window_of, close_of}

-- ---- slots

-- the value of the last item that has one
abbrev pub latest_value : List Item → Option ℤ
latest_value [] = None
latest_value (x ∷ xs) = option_or (latest_value xs) x.value

-- the slot of a sensor at the tick t: the value of its latest sample of the 100 ms up to t, or absent
unfoldable pub slot : List Item → ℕ → Option ℤ
slot xs t = latest_value (filter (λ x. nat_le t (x.moment + LONGEST_AGE) && nat_le x.moment t) xs)

-- the slots at each tenth of a second from 20 s before z up to z; a time before the cycle counts as its tick 0, where no feed has a slot (563.7 Table I)
unfoldable pub slots_before : List Item → ℕ → List (Option ℤ)
slots_before xs z = map (λ k. slot xs (z + SLOT_STEP * k - SLOT_REACH)) (range_with_len 0 LONG_SLOTS)

-- slots of a sensor that gives numbers from 0 on
abbrev pub numbers : List (Option ℤ) → List (Option ℕ)
numbers slots = map (λ s. option_map unsigned_abs s) slots

-- a slot of a sensor that gives 0 for off and 1 for on
abbrev pub switch : Option ℤ → Option Bool
switch s = option_map (λ v. nat_eq (unsigned_abs v) 1) s

-- slots of such a sensor
abbrev pub switches : List (Option ℤ) → List (Option Bool)
switches slots = map switch slots

-- ---- the pre part

-- the long pre part of the event with time zero z of cycle n; belt and lamp are those of 1 s before z (563.7 Table I)
unfoldable pub pre_part : SensorLists → ℕ → Place → ℕ → PrePart
pre_part f n place z = record {
  key = record { cycle = n; zero = z };
  place = place;
  profile = Long;
  speed = numbers (slots_before f.speed z);
  throttle = numbers (slots_before f.throttle z);
  brake = switches (slots_before f.brake z);
  belt = switch (slot f.belt (z - SINGLE_REACH));
  lamp = switch (slot f.lamp (z - SINGLE_REACH));
}

-- ---- changes of speed

-- steps of 0.0001 km/h in whole km/h, rounded half away from zero (563.8, resolution of delta-V)
abbrev pub kmh_of : ℤ → ℤ
kmh_of (pos n) = pos ((n + STEPS_OF_KMH / 2) / STEPS_OF_KMH)
kmh_of (negsuc n) = neg_ℤ (pos ((suc n + STEPS_OF_KMH / 2) / STEPS_OF_KMH))

-- the first of the ticks `a..b` at which f is greatest
unfoldable pub first_greatest : (ℕ → ℕ) → ℕ → ℕ → ℕ
first_greatest f a b = unwrap_or (first_tick (λ t. nat_eq (f t) (greatest f a b)) a b) a

-- delta-V from z at each tenth tick, up to 30 ms past the end and to 250 ms (563.7 Tables I and II, delta-V)
unfoldable pub points : (ℕ → Option ℤ) → ℕ → ℕ → List ℤ
points axis z e = map (λ k. kmh_of (delta_v axis z (z + POINT_STEP * k))) (range_with_len 0 (point_count (e - z)))

-- the points, and 0 past them, as far as a crash part has room
abbrev pub all_points : (ℕ → Option ℤ) → ℕ → ℕ → List ℤ
all_points axis z e = points axis z e ++ replicate (most_points - point_count (e - z)) (pos 0)

-- the greatest delta-V from z over the ticks `z..b`, either way, and when it comes first (563.7 Tables I and II, maximum delta-V)
unfoldable pub extreme : (ℕ → Option ℤ) → ℕ → ℕ → Extreme
extreme axis z b =
    let t = first_greatest (size_of_change axis z) z b in
    record { kmh = kmh_of (delta_v axis z t); at = t - z }

-- when the resultant of the two changes since z is first greatest over the ticks `z..b` (563.7 Table II, time of maximum resultant delta-V)
unfoldable pub result_at : Signals → ℕ → ℕ → ℕ
result_at m z b = first_greatest (λ t. squares (delta_v m.along z t) (delta_v m.across z t)) z b - z

-- ---- missing samples and firings

-- how many of the ticks `a..b` have no sample
unfoldable pub missing_count : (ℕ → Option ℤ) → ℕ → ℕ → ℕ
missing_count axis a b = count_by (λ t. is_none (axis t)) (ticks a b)

-- when the restraint of a bit first fires in the ticks `z..b` (563.7 Tables I and II, deployment)
unfoldable pub first_firing : Signals → ℕ → ℕ → ℕ → Option ℕ
first_firing m z b bit = option_map (λ t. t - z) (first_tick (λ t. nat_eq (bit_at (m.fired t) bit) 1) z b)

-- when each of the eight restraints first fires in those ticks
unfoldable pub firings : Signals → ℕ → ℕ → List (Option ℕ)
firings m z b = map (first_firing m z b) (range_with_len 0 8)

-- ---- the crash part

-- the crash part of the event with time zero z and end e: extremes and missing ticks up to the end of the window, firings up to the close
unfoldable pub crash_part : Signals → ℕ → ℕ → CrashPart
crash_part m z e =
    let past = z + window_of z e + 1 in record {
      end = e - z;
      along = all_points m.along z e;
      across = all_points m.across z e;
      max_along = extreme m.along z past;
      max_across = extreme m.across z past;
      result_at = result_at m z past;
      missing_along = missing_count m.along (z + 1) past;
      missing_across = missing_count m.across (z + 1) past;
      fired = firings m z (close_of z e + 1);
    }
