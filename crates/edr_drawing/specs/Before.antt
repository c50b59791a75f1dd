-- The chart of the seconds before time zero, five of a short profile and twenty of a long one: lanes of slots, each a path through those that are there, their marks, and fields in the place of those that are absent.
use Rattle.std.specs.Prelude.{◌≤◌, ℕ, ◌+◌, ◌-◌, ◌*◌, ◌/◌, Bool, true, false, ◌&&◌, if◌then◌else◌, nat_eq, nat_le, nat_lt, Option, Some, None, List, [], ◌∷◌, ◌++◌, decimal, fold, max, unwrap_or}
use Rattle.std.specs.{Bool.beq, Int.next_multiple_of, Option.option_eq}
use Rattle.edr_record.specs.{Parts.PrePart, declared.Profile.{Profile, TheVariants.{Short, Long}}}
use Rattle.edr_drawing.specs.declared.template.Shape.{Shape}
use Rattle.edr_drawing.specs.declared.template.Shape.TheVariants as shape
use Rattle.edr_drawing.specs.declared.template.TheConstants.{FIELD_CLASSES, PATH, PATH_END, RADII, SWITCH_WORDS}
use Rattle.edr_drawing.specs.declared.before.{Band.Band, ChartLane.ChartLane}
use Rattle.edr_drawing.specs.declared.before.TheConstants.{BEFORE_END, BEFORE_HEAD, BELT, BRAKE_BAND, BRAKE_NAME, GRID_LINE, LAMP, LONGEST_RUNS, MOMENT, PAST_SLOTS, ROOM_FOR_WORD, SECOND_SLOTS, SLOTS_APART, SPANS, SPEED, SPEED_LINES, SPEED_STEPS, TENTHS_APART, THROTTLE, THROTTLE_NAME, TIME_LINE, TIMES, ZERO_LINE}
use Rattle.edr_drawing.specs.Template.{filled, fixed, of_profile, of_switch, seconds, shapes_bytes}
use Rattle.edr_drawing.specs.{declared.scales.TheConstants.AXIS_DIGITS, Scales.{flat_map_below, least_step, slot_x}}

-- up: a value between the foot and the top of a lane
abbrev pub lane_y : ChartLane → ℕ → ℕ
lane_y l value = l.gap.y + l.gap.height - value * l.rise / l.top

-- the line of a value, with its number
abbrev pub grid_line : ChartLane → ℕ → List ℕ
grid_line l value = filled GRID_LINE.now (decimal (lane_y l value) ∷ decimal (lane_y l value + 9) ∷ decimal value ∷ [])

-- a line at each step from 0 to the top
abbrev pub grid : ChartLane → List ℕ
grid l = flat_map_below (λ i. grid_line l (l.step * i)) (l.top / l.step + 1)

-- a point of a path: joined to the slot before it where that is there, and else a new beginning
abbrev pub point : Profile → ChartLane → ℕ → Bool → ℕ → List ℕ
point f l k before value = shapes_bytes (shape.Joint before (slot_x f k) (lane_y l value) ∷ [])

-- the points of these slots, the first of which has the number k
abbrev pub points : Profile → ChartLane → ℕ → Bool → List (Option ℕ) → List ℕ
points f l k before [] = []
points f l k before (None ∷ vs) = points f l (k + 1) false vs
points f l k before (Some v ∷ vs) = point f l k before v ++ points f l (k + 1) true vs

-- the mark of a slot, of a short profile with its number
abbrev pub mark : Profile → ChartLane → ℕ → ℕ → Shape
mark f l k value = shape.Dot (slot_x f k) (lane_y l value) (of_profile f RADII)

abbrev pub marked : Profile → ChartLane → ℕ → ℕ → List Shape
marked Short l k value = mark Short l k value ∷ shape.Value (slot_x Short k) (lane_y l value - 17) value ∷ []
marked Long l k value = mark Long l k value ∷ []

-- the field of the slots from k to m, with its word if there is room for it
abbrev pub field_shapes : Profile → ℕ → ℕ → Band → Option Bool → Bool → List Shape
field_shapes f k m b v has_room =
    shape.Field (slot_x f k - of_profile f PAST_SLOTS) b.y (slot_x f m + 2 * of_profile f PAST_SLOTS - slot_x f k) b.height v
    ∷ (if has_room then shape.Word ((slot_x f k + slot_x f m) / 2) (b.y + b.height / 2 + 9) v ∷ [] else [])

-- the field of n slots from k on, if there are any
abbrev pub run_shapes : Profile → ℕ → ℕ → Band → Option Bool → List Shape
run_shapes f k n b v = if nat_eq n 0 then [] else field_shapes f k (k + n - 1) b v (nat_le (of_profile f ROOM_FOR_WORD) n)

abbrev pub run_bytes : Profile → ℕ → ℕ → Band → Option Bool → List ℕ
run_bytes f k n b v = shapes_bytes (run_shapes f k n b v)

-- these slots after n absent ones, the first of which has the number k: a mark for each that is there, and a field for each run of
-- absent ones, which has as many as a run of the profile may have
abbrev pub cells : Profile → ChartLane → ℕ → ℕ → List (Option ℕ) → List ℕ
cells f l k n [] = run_bytes f k n l.gap None
cells f l k n (None ∷ vs) =
    if nat_lt n (of_profile f LONGEST_RUNS)
    then cells f l k (n + 1) vs
    else run_bytes f k n l.gap None ++ cells f l (k + n) 1 vs
cells f l k n (Some v ∷ vs) = run_bytes f k n l.gap None ++ shapes_bytes (marked f l (k + n) v) ++ cells f l (k + n + 1) 0 vs

unfoldable pub drawn_lane : Profile → ChartLane → List (Option ℕ) → List ℕ
drawn_lane f l vs =
    grid l ++ filled PATH.now (decimal AXIS_DIGITS.0 ∷ []) ++ points f l 0 false vs ++ fixed PATH_END.now ++ cells f l 0 0 vs

-- what fields keep to
pub record IsBand (b : Band) : Type 0 where
  pub y : b.y ≤ 1_000
  pub height : b.height ≤ 1_000

-- what a lane keeps to: a greatest value above 0, a step, and a place within its chart
pub record IsChartLane (l : ChartLane) : Type 0 where
  pub top : (1 ≤ l.top) × (l.top ≤ 100_000)
  pub step : 1 ≤ l.step
  pub rise : l.rise ≤ 1_000
  pub gap : IsBand l.gap

-- the lane of speed: its top is at least 1 km/h, and it has few steps
abbrev pub lane_up_to : ℕ → ChartLane
lane_up_to most =
    let step = least_step 1 SPEED_STEPS SPEED_LINES most 0 in
    record SPEED { top = next_multiple_of most step; step = step }

abbrev pub speed_lane : List (Option ℕ) → ChartLane
speed_lane slots = lane_up_to (max (fold (λ most v. max most (unwrap_or v 0)) 0 slots) 1)

-- the line of a time, with how long before time zero it is
abbrev pub time_line : Profile → ℕ → List ℕ
time_line f k = filled TIME_LINE.now (decimal (slot_x Short k) ∷ seconds (of_profile f TENTHS_APART * (TIMES - k)) ∷ [])

unfoldable pub time_lines : Profile → ℕ → List ℕ
time_lines f count = flat_map_below (time_line f) count

-- the service brake: these slots after n that are all u, the first of which has the number k, with a field for each run
abbrev pub brake_runs : Profile → ℕ → ℕ → Option Bool → List (Option Bool) → List ℕ
brake_runs f k n u [] = run_bytes f k n BRAKE_BAND u
brake_runs f k n u (v ∷ vs) =
    if option_eq beq v u && nat_lt n (of_profile f LONGEST_RUNS)
    then brake_runs f k (n + 1) u vs
    else run_bytes f k n BRAKE_BAND u ++ brake_runs f (k + n) 1 v vs

-- the name of belt or lamp, and what it is 1 s before time zero, which stands at x
abbrev pub switch_moment : ℕ → List ℕ → ℕ → Option Bool → List ℕ
switch_moment x name y v =
    filled MOMENT.now
    (decimal x
    ∷ decimal y
    ∷ (of_switch v FIELD_CLASSES).now
    ∷ decimal (x - 18)
    ∷ decimal (y + 25)
    ∷ (of_switch v SWITCH_WORDS).now
    ∷ decimal (y + 24)
    ∷ name
    ∷ [])

abbrev pub second_x : Profile → ℕ
second_x f = slot_x f (of_profile f SECOND_SLOTS)

-- the whole chart
unfoldable pub before_chart : ℕ → PrePart → List ℕ
before_chart n p =
    filled BEFORE_HEAD.now (decimal n ∷ (of_profile p.profile SPANS).now ∷ (of_profile p.profile SLOTS_APART).now ∷ [])
    ++ time_lines p.profile TIMES
    ++ filled ZERO_LINE.now (decimal (slot_x Short TIMES) ∷ [])
    ++ drawn_lane p.profile (speed_lane p.speed) p.speed
    ++ fixed THROTTLE_NAME.now
    ++ drawn_lane p.profile THROTTLE p.throttle
    ++ fixed BRAKE_NAME.now
    ++ brake_runs p.profile 0 0 None p.brake
    ++ switch_moment (second_x p.profile) BELT.0.now BELT.1 p.belt
    ++ switch_moment (second_x p.profile) LAMP.0.now LAMP.1 p.lamp
    ++ fixed BEFORE_END.now
