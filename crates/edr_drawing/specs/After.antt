-- The chart of the time after time zero: changes of speed, and on the same time axis what happened when.
use Rattle.std.specs.Prelude.{ℕ, Bool, ◌+◌, ◌-◌, ◌*◌, ◌/◌, ℤ, pos, not, if◌then◌else◌, nat_lt, nat_le, nat_eq, List, [], ◌∷◌, ◌++◌, decimal, ◌&&◌, ◌||◌, Option, Some, None}
use Rattle.std.specs.{Fmt.signed_decimal, Int.abs_diff, Ordering.int_eq}
use Rattle.edr_record.specs.{declared.TheConstants.POINT_STEP, declared.Extreme.Extreme, Parts.CrashPart, Bounds.window_from_end}
use Rattle.edr_report.specs.Words.{milliseconds}
use Rattle.edr_drawing.specs.declared.after.TheConstants.{CENTRED_OR_ENDING, DIAMOND, DIAMOND_UP, END_LINE, FAR_RIGHT, GAPPED, GAPS_Y, LEGEND, LEGEND_GAPS, LEVEL, LEVEL_CLASSES, MAXIMUM_NUMBER, NEXT_LINE, NOT_RECORDED, NUMBER_FROM, PAST_WINDOW, ROOM_NOT_RECORDED, SILENT_CURVE, SILENT_FROM, TIME_LINES, TIMES_APART, ZERO_LINES, AFTER_HEAD, BESIDE_CLASSES, BESIDE_FLAG, CHART_END, EMPTY_ROW, FIRST_RESTRAINT, FLAG_DOWN, FLAG_FAR_RIGHT, NAME_CLASSES, ROW, ROWS, ROWS_Y, ROW_HEIGHT, RULE, WITHOUT_PART, WORDS_CLASSES, WORDS_DOWN}
use Rattle.edr_drawing.specs.declared.after.{ChartRow.ChartRow, ChartRow.TheVariants.{End, Greatest, Resultant, Fired}}
use Rattle.edr_drawing.specs.declared.scales.{CarAxis.CarAxis, CarAxis.TheVariants.{Along, Across}, Scale.Scale, TheConstants.{AXIS_DIGITS, AXIS_NAMES, BELOW_TOP, HEIGHT, NO_SAMPLE, RIGHT}}
use Rattle.edr_drawing.specs.declared.template.{Shape.Shape, TheConstants.{MINUS, PATH, PATH_END, NONE, RADII}}
use Rattle.edr_drawing.specs.declared.template.Shape.TheVariants as shape
use Rattle.edr_drawing.specs.Template.{either, filled, filled_if, fixed, shapes_bytes}
use Rattle.edr_drawing.specs.Scales.{flat_map_below, change_y, time_x, scale_of, extreme_of, is_silent, missing_of, of_axis, points_of, greatest_words}
use Rattle.edr_drawing.specs.Tables.{slot_at}

-- ---- the frame

-- the line of a time in both parts of the chart, with its number
abbrev pub time_line : Scale → ℕ → List ℕ
time_line s t = filled TIME_LINES.now (decimal (time_x s t) ∷ decimal t ∷ [])

-- the line of time zero, and of each time after it
unfoldable pub time_lines : Scale → List ℕ
time_lines s = fixed ZERO_LINES.now ++ flat_map_below (λ i. time_line s (TIMES_APART * (i + 1))) (s.span / TIMES_APART)

-- up: what is so far above the bottom of the scale
abbrev pub level_y : Scale → ℕ → ℕ
level_y s above = BELOW_TOP + (s.top + s.bottom - above) * HEIGHT / (s.top + s.bottom)

-- the line there, with its number
unfoldable pub level : Scale → ℕ → List ℕ
level s above =
    filled LEVEL.now
    (either (nat_eq above s.bottom) LEVEL_CLASSES.0.now LEVEL_CLASSES.1.now
    ∷ decimal (level_y s above)
    ∷ decimal (level_y s above + 9)
    ∷ either (nat_lt above s.bottom) MINUS.0.now MINUS.1.now
    ∷ decimal (abs_diff above s.bottom)
    ∷ [])

-- a line at each step
unfoldable pub levels : Scale → List ℕ
levels s = flat_map_below (λ i. level s (s.step * i)) ((s.top + s.bottom) / s.step + 1)

-- the line at the end of the event, and the words past the window, if there is room for them
unfoldable pub end_line : ℕ → ℕ → List ℕ
end_line end past =
    filled END_LINE.now (decimal end ∷ either (nat_lt end FAR_RIGHT) CENTRED_OR_ENDING.0.now CENTRED_OR_ENDING.1.now ∷ [])
    ++ filled_if (nat_le (past + ROOM_NOT_RECORDED) RIGHT) NOT_RECORDED.now (decimal ((past + RIGHT) / 2) ∷ [])

-- ---- the curves

-- a joint of its path at each point of an axis, or its mark
abbrev pub shape_at : Option CarAxis → Bool → ℕ → ℕ → Shape
shape_at None joined x y = shape.Joint joined x y
shape_at (Some Along) joined x y = shape.Dot x y RADII.0
shape_at (Some Across) joined x y = shape.Square x y

-- these at the points of an axis, the first of which is that of i times 10 ms
abbrev pub axis_shapes : Scale → Option CarAxis → ℕ → List ℤ → List ℕ
axis_shapes s mark i [] = []
axis_shapes s mark i (v ∷ vs) =
    shapes_bytes (shape_at mark (nat_lt 0 i) (time_x s (POINT_STEP * i)) (change_y s v) ∷ []) ++ axis_shapes s mark (i + 1) vs

-- the digit that ends the classes of an axis
abbrev pub digit : CarAxis → List ℕ
digit a = decimal (of_axis a AXIS_DIGITS.0 AXIS_DIGITS.1)

-- the curve of an axis that has samples
unfoldable pub drawn_curve : Scale → CrashPart → CarAxis → List ℕ
drawn_curve s c a =
    filled_if (nat_lt 0 (missing_of c a)) GAPPED.0.now []
    ++ filled PATH.now (digit a ∷ [])
    ++ axis_shapes s None 0 (points_of c a)
    ++ fixed PATH_END.now
    ++ axis_shapes s (Some a) 0 (points_of c a)
    ++ filled_if (nat_lt 0 (missing_of c a)) GAPPED.1.now []

-- where words stand for an axis: so far below a place for that along, and so far above it for that across
abbrev pub beside_place : CarAxis → ℕ → ℕ × ℕ → ℕ
beside_place a y from = of_axis a (y + from.0) (y - from.1)

-- what stands in its place where the axis has none
abbrev pub silent_curve : Scale → CarAxis → List ℕ
silent_curve s a =
    filled SILENT_CURVE.now
    (decimal (beside_place a (change_y s (pos 0)) SILENT_FROM) ∷ digit a ∷ (of_axis a AXIS_NAMES.0 AXIS_NAMES.1).now ∷ NO_SAMPLE.now ∷ [])

unfoldable pub curve : Scale → CrashPart → CarAxis → List ℕ
curve s c a = if is_silent c a then silent_curve s a else drawn_curve s c a

-- how many samples of an axis are lacking, if any is, in the legend
abbrev pub gaps_y : CarAxis → ℕ
gaps_y a = of_axis a GAPS_Y.0 GAPS_Y.1

abbrev pub legend_gaps : CrashPart → CarAxis → List ℕ
legend_gaps c a =
    filled_if (nat_lt 0 (missing_of c a)) LEGEND_GAPS.now
    (decimal (gaps_y a) ∷ decimal (missing_of c a) ∷ decimal (window_from_end c.end) ∷ decimal (gaps_y a + NEXT_LINE) ∷ [])

-- ---- the greatest changes

-- a diamond at the greatest change of an axis that has samples, and its number, unless it is 0
abbrev pub diamond : Scale → CarAxis → Extreme → List ℕ
diamond s a e =
    filled DIAMOND.now (digit a ∷ decimal (time_x s e.at) ∷ decimal (change_y s e.kmh - DIAMOND_UP) ∷ [])
    ++ filled_if (not (int_eq e.kmh (pos 0))) MAXIMUM_NUMBER.now
    (decimal (time_x s e.at) ∷ decimal (beside_place a (change_y s e.kmh) NUMBER_FROM) ∷ digit a ∷ signed_decimal e.kmh ∷ [])

unfoldable pub maximum : Scale → CrashPart → CarAxis → List ℕ
maximum s c a = if is_silent c a then [] else diamond s a (extreme_of c a)

-- ---- the whole chart

-- across: the end of the window
abbrev pub past : Scale → CrashPart → ℕ
past s c = time_x s (window_from_end c.end)

unfoldable pub changes_chart : Scale → CrashPart → List ℕ
changes_chart s c =
    filled_if (nat_lt (window_from_end c.end) s.span) PAST_WINDOW.now (decimal (past s c) ∷ decimal (RIGHT - past s c) ∷ [])
    ++ time_lines s
    ++ fixed LEGEND.now
    ++ legend_gaps c Along
    ++ legend_gaps c Across
    ++ levels s
    ++ end_line (time_x s c.end) (past s c)
    ++ curve s c Across
    ++ curve s c Along
    ++ maximum s c Across
    ++ maximum s c Along

-- ---- one row

-- where words beside a flag stand: right of it, and left of one far to the right
abbrev pub beside : ℕ → ℕ
beside x = if nat_lt x FLAG_FAR_RIGHT then x + BESIDE_FLAG else x - BESIDE_FLAG

-- when that was which a row shows, if it was
abbrev pub row_time : CrashPart → ChartRow → Option ℕ
row_time c End = Some c.end
row_time c (Greatest a) = if is_silent c a then None else Some (extreme_of c a).at
row_time c Resultant = if is_silent c Along && is_silent c Across then None else Some c.result_at
row_time c (Fired place) = slot_at c.fired place

-- the words beside its flag, or those that it isn't there
abbrev pub time_words : Option ℕ → List ℕ → List ℕ
time_words (Some t) none = milliseconds t
time_words None none = none

abbrev pub row_words : CrashPart → ChartRow → List ℕ
row_words c (Greatest a) = greatest_words c a
row_words c (Fired place) = time_words (slot_at c.fired place) NONE.now
row_words c r = time_words (row_time c r) NO_SAMPLE.now

abbrev pub row_y : ℕ → ℕ
row_y k = ROWS_Y + ROW_HEIGHT * k

-- row k with this name and these words, with a flag at this time
abbrev pub flag_row : Scale → ℕ → List ℕ → List ℕ → Option ℕ → List ℕ
flag_row s k name words None = filled EMPTY_ROW.now (decimal (row_y k + WORDS_DOWN) ∷ name ∷ words ∷ [])
flag_row s k name words (Some t) =
    filled ROW.now
    (decimal (row_y k + WORDS_DOWN)
    ∷ name
    ∷ words
    ∷ decimal (time_x s t)
    ∷ decimal (row_y k + FLAG_DOWN)
    ∷ decimal (beside (time_x s t))
    ∷ either (nat_lt (time_x s t) FLAG_FAR_RIGHT) BESIDE_CLASSES.0.now BESIDE_CLASSES.1.now
    ∷ either (nat_lt k FIRST_RESTRAINT) NAME_CLASSES.0.now NAME_CLASSES.1.now
    ∷ either (nat_lt k FIRST_RESTRAINT) WORDS_CLASSES.0.now WORDS_CLASSES.1.now
    ∷ [])

-- the row after the line that stands above the first one of its part
unfoldable pub chart_row : Scale → CrashPart → ℕ → List ℕ → ChartRow → List ℕ
chart_row s c k name r =
    filled_if (nat_eq k 0 || nat_eq k FIRST_RESTRAINT) RULE.now (decimal (row_y k) ∷ [])
    ++ flag_row s k name (row_words c r) (row_time c r)

-- rows with these names, from row k on
abbrev pub chart_rows : {L : Type 0} → (L → List ℕ) → (L → ChartRow) → Scale → CrashPart → ℕ → List L → List ℕ
chart_rows name shown s c k [] = []
chart_rows name shown s c k (l ∷ ls) = chart_row s c k (name l) (shown l) ++ chart_rows name shown s c (k + 1) ls

-- ---- the whole chart

-- the chart, or what stands in its place where nothing after time zero is recorded
unfoldable pub after_chart : ℕ → Option CrashPart → List ℕ
after_chart n None = filled WITHOUT_PART.now (decimal n ∷ [])
after_chart n (Some c) =
    filled AFTER_HEAD.now (decimal n ∷ greatest_words c Along ∷ greatest_words c Across ∷ decimal c.end ∷ [])
    ++ changes_chart (scale_of c) c
    ++ chart_rows (λ l. l.0.now) (λ l. l.1) (scale_of c) c 0 ROWS
    ++ fixed CHART_END.now
