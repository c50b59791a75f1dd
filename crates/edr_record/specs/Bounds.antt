-- Which values the fields of a record may have.
use Rattle.std.specs.Prelude.{◌≡◌, ℕ, ◌+◌, ◌-◌, ◌/◌, ◌≤◌, min, max, ℤ, pos, unsigned_abs, Option, Some, IfSome, List, length, drop, replicate, slice_get, All}
use Rattle.edr_items.specs.declared.TheConstants.{LATEST_MOMENT}
use Rattle.edr_record.specs.declared.TheConstants.{EARLIEST_END, GREATEST_CHANGE, LAST_POINT, LONG_SLOTS, LONGEST_PAIR, LONGEST_WINDOW, POINT_STEP, POINTS, RESET, SHORT_SLOTS, TIME_PAST_END}
use Rattle.edr_record.specs.declared.Place.{Place}
use Rattle.edr_record.specs.declared.Place.TheVariants.{First, Second}
use Rattle.edr_record.specs.declared.Extreme.{Extreme}
use Rattle.edr_record.specs.declared.Profile.{Profile}
use Rattle.edr_record.specs.declared.Profile.TheVariants.{Short, Long}
use Rattle.edr_record.specs.Parts.{PrePart, CrashPart}

-- ---- the pre part

-- a second event begins at most five seconds after the first (563.5, multi-event crash)
abbrev pub IsPlace : Place → Type 0
IsPlace First = Unit {0}
IsPlace (Second after) = (1 ≤ after) × (after ≤ LONGEST_PAIR)

-- a slot or a time is absent, or at most this number
abbrev pub IsUpTo : ℕ → Option ℕ → Type 0
IsUpTo highest slot = IfSome slot (λ v. v ≤ highest)

-- how many slots each list of a pre part of this profile has
abbrev pub slots_in : Profile → ℕ
slots_in Short = SHORT_SLOTS
slots_in Long = LONG_SLOTS

-- the bounds of a pre part with n slots in each list: km/h, per cent, ticks of 1 ms
pub record IsPreWithSlots (n : ℕ) (p : PrePart) : Type 0 where
  pub cycle_from : 1 ≤ p.key.cycle
  pub cycle_to : p.key.cycle ≤ 4_294_967_295
  pub zero_from : 1 ≤ p.key.zero
  pub zero_to : p.key.zero ≤ LATEST_MOMENT
  pub place : IsPlace p.place
  pub speeds : length p.speed ≡ n
  pub speed : All (IsUpTo 300) p.speed
  pub throttles : length p.throttle ≡ n
  pub throttle : All (IsUpTo 100) p.throttle
  pub brakes : length p.brake ≡ n

-- the bounds of the pre part of a record
abbrev pub IsPre : PrePart → Type 0
IsPre p = IsPreWithSlots (slots_in p.profile) p

-- ---- the window and the points

-- how long after time zero extremes and missing samples are looked for: 300 ms, or 30 ms past the end if that is shorter (563.7 Table I, maximum delta-V)
abbrev pub window_from_end : ℕ → ℕ
window_from_end end = min LONGEST_WINDOW (end + TIME_PAST_END)

-- how many points a crash part has: one at time zero and at each tenth tick after it (563.7 Table I, delta-V)
abbrev pub point_count : ℕ → ℕ
point_count end = min LAST_POINT (end + TIME_PAST_END) / POINT_STEP + 1

-- how many points a crash part has room for
abbrev pub most_points : ℕ
most_points = POINTS

-- ---- the crash part

-- a change of speed in whole km/h that samples in range can give
abbrev pub IsChange : ℤ → Type 0
IsChange z = unsigned_abs z ≤ GREATEST_CHANGE

-- the points of an axis: 0 at time zero, changes, and 0 past the number of points
pub record ArePoints (count : ℕ) (points : List ℤ) : Type 0 where
  pub room : length points ≡ most_points
  pub first : slice_get points 0 ≡ Some (pos 0)
  pub changes : All IsChange points
  pub past : drop count points ≡ replicate (most_points - count) (pos 0)

-- the greatest change of an axis, and its time
pub record IsExtreme (window : ℕ) (x : Extreme) : Type 0 where
  pub change : IsChange x.kmh
  pub time : x.at ≤ window

-- the bounds of a crash part: each follows from its end
pub record IsCrash (c : CrashPart) : Type 0 where
  pub end_from : EARLIEST_END ≤ c.end
  pub end_to : c.end ≤ RESET
  pub along : ArePoints (point_count c.end) c.along
  pub across : ArePoints (point_count c.end) c.across
  pub max_along : IsExtreme (window_from_end c.end) c.max_along
  pub max_across : IsExtreme (window_from_end c.end) c.max_across
  pub result_at : c.result_at ≤ window_from_end c.end
  pub missing_along : c.missing_along ≤ window_from_end c.end
  pub missing_across : c.missing_across ≤ window_from_end c.end
  pub restraints : length c.fired ≡ 8
  pub fired : All (IsUpTo (max c.end (window_from_end c.end))) c.fired
