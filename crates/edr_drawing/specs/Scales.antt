-- What a crash part has of an axis of the car, and where values stand in a chart.
use Rattle.std.specs.Prelude.{ℕ, zero, suc, ◌+◌, ◌-◌, ◌*◌, ◌/◌, ℤ, pos, negsuc, List, [], ◌∷◌, ◌++◌, take, if◌then◌else◌, nat_le, ◌≤◌, max, Bool, ◌&&◌, nat_eq, Option, unwrap_or}
use Rattle.std.specs.{List.list_all, Int.{div_ceil, next_multiple_of}}
use Rattle.edr_record.specs.{Parts.CrashPart, Bounds.{point_count, window_from_end}}
use Rattle.edr_record.specs.declared.{Extreme.Extreme, Profile.Profile, Profile.TheVariants.{Short, Long}}
use Rattle.edr_report.specs.Words.{extreme_words}
use Rattle.edr_drawing.specs.declared.scales.{Scale.Scale, CarAxis.CarAxis, CarAxis.TheVariants.{Along, Across}, Direction.Direction, Direction.TheVariants.{Up, Down}}
use Rattle.edr_drawing.specs.declared.scales.TheConstants.{NO_SAMPLE, FIRST_TIME, TIME_SLOTS, TIME_STEP, CHANGE_LINES, CHANGE_STEPS, EARLY_SPAN, WHOLE_SPAN, BELOW_TOP, HEIGHT, LEFT, WIDTH}

-- that of an axis
abbrev pub of_axis : {A : Type 0} → CarAxis → A → A → A
of_axis Along along across = along
of_axis Across along across = across

-- its points that the end of the event allows
abbrev pub points_of : CrashPart → CarAxis → List ℤ
points_of c Along = take (point_count c.end) c.along
points_of c Across = take (point_count c.end) c.across

-- its greatest change of speed
abbrev pub extreme_of : CrashPart → CarAxis → Extreme
extreme_of c a = of_axis a c.max_along c.max_across

-- how many milliseconds of the window have no sample of it
abbrev pub missing_of : CrashPart → CarAxis → ℕ
missing_of c a = of_axis a c.missing_along c.missing_across

-- whether it has no sample at all
abbrev pub is_silent : CrashPart → CarAxis → Bool
is_silent c a = nat_le (window_from_end c.end) (missing_of c a)

-- its greatest change with its time, or that there is no sample
abbrev pub greatest_words : CrashPart → CarAxis → List ℕ
greatest_words c a = if is_silent c a then NO_SAMPLE.now else extreme_words (extreme_of c a)

-- across: slot k of a profile, the newest at time zero; a long one has more slots from one time to the next
abbrev pub slot_x : Profile → ℕ → ℕ
slot_x Short k = FIRST_TIME + TIME_STEP * k
slot_x Long k = FIRST_TIME + TIME_STEP * k / TIME_SLOTS

-- the least of these steps with which both parts of a scale have at most `most` intervals, or else the last one, after the one before
abbrev pub least_step : ℕ → List ℕ → ℕ → ℕ → ℕ → ℕ
least_step last [] most up down = last
least_step last (s ∷ steps) most up down =
    if nat_le (div_ceil up s + div_ceil down s) most then s else least_step s steps most up down

-- how far a change of speed is from 0 that way
abbrev pub reach_of : Direction → ℤ → ℕ
reach_of Up (pos n) = n
reach_of Up (negsuc n) = 0
reach_of Down (pos n) = 0
reach_of Down (negsuc n) = n + 1

-- how far a change of speed stands below the top of its scale
abbrev pub below_top : ℕ → ℤ → ℕ
below_top top (pos n) = top - n
below_top top (negsuc n) = top + (n + 1)

-- what the numbers below n give, one after the other
abbrev pub flat_map_below : (ℕ → List ℕ) → ℕ → List ℕ
flat_map_below f zero = []
flat_map_below f (suc n) = flat_map_below f n ++ f n

-- how far points reach that way, and the points and the greatest changes of both axes
abbrev pub furthest : Direction → List ℤ → ℕ
furthest way [] = 0
furthest way (v ∷ vs) = max (reach_of way v) (furthest way vs)

abbrev pub reach : Direction → CrashPart → ℕ
reach way c = max (max (max (furthest way c.along) (furthest way c.across)) (reach_of way c.max_along.kmh)) (reach_of way c.max_across.kmh)

-- the last time across: the early one where the end and all firings are at most that
abbrev pub is_early : Option ℕ → Bool
is_early fired = nat_le (unwrap_or fired 0) EARLY_SPAN

abbrev pub span_of : CrashPart → ℕ
span_of c = if nat_le c.end EARLY_SPAN && list_all is_early c.fired then EARLY_SPAN else WHOLE_SPAN

-- the step between the lines
abbrev pub step_of : ℕ → ℕ → ℕ
step_of up down = least_step 1 CHANGE_STEPS CHANGE_LINES up down

-- one step both ways where nothing changes
abbrev pub part_of : Bool → ℕ → ℕ → ℕ
part_of flat step value = if flat then step else next_multiple_of value step

abbrev pub scale_with : ℕ → ℕ → ℕ → Scale
scale_with up down span = record {
  top = part_of (nat_eq up 0 && nat_eq down 0) (step_of up down) up;
  bottom = part_of (nat_eq up 0 && nat_eq down 0) (step_of up down) down;
  step = step_of up down;
  span = span;
}

abbrev pub scale_of : CrashPart → Scale
scale_of c = scale_with (reach Up c) (reach Down c) (span_of c)

-- up: a change of speed between the top of its scale and as much below 0 as the bottom says
abbrev pub change_y : Scale → ℤ → ℕ
change_y s v = BELOW_TOP + below_top s.top v * HEIGHT / (s.top + s.bottom)

-- across: a time in milliseconds
abbrev pub time_x : Scale → ℕ → ℕ
time_x s t = LEFT + t * (WIDTH / s.span)

-- what the scale of a crash part keeps to: a step, no reach that a chart can't have, some room up, and a span across
pub record IsScale (s : Scale) : Type 0 where
  pub step : (1 ≤ s.step) × (s.step ≤ 1_000)
  pub range : (s.top ≤ 40_000) × (s.bottom ≤ 40_000)
  pub some : 1 ≤ s.top + s.bottom
  pub span : (300 ≤ s.span) × (s.span ≤ 500)
