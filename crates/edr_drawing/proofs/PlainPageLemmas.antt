-- The charts, the sheets and the whole page have plain texts.
use Rattle.std.proofs.Common.{ℕ, nat_lt, ◌≡◌, ◌+◌, ◌*◌, ℤ, Bool, true, false, Option, Some, None, List, [], ◌∷◌, refl}
use Rattle.std.specs.List.{list_all}
use Rattle.std.proofs.lemmas.Bool.{and_parts}
use Rattle.edr_record.specs.{Parts.{PrePart, CrashPart}, declared.Profile.Profile}
use Rattle.edr_drawing.specs.{declared.scales.CarAxis.CarAxis, declared.after.ChartRow.ChartRow}
use Rattle.edr_drawing.specs.{declared.after.ChartRow.TheVariants.Greatest, declared.scales.Scale.Scale}
use Rattle.edr_drawing.specs.{declared.before.ChartLane.ChartLane, declared.template.Shape.Shape}
use Rattle.edr_drawing.specs.declared.template.Shape.TheVariants as shape
use Rattle.edr_drawing.specs.declared.template.TheConstants.{NONE}
use Rattle.edr_record.specs.declared.TheConstants.{POINT_STEP}
use Rattle.edr_drawing.specs.{Template.{shape_bytes, shapes_bytes}, Scales.{change_y, slot_x, time_x}}
use Rattle.edr_drawing.specs.Before.{before_chart, brake_runs, cells, drawn_lane, lane_y, marked, points, run_shapes, time_lines}
use Rattle.edr_drawing.specs.After.{axis_shapes, changes_chart, curve, drawn_curve, end_line, level, levels, maximum, shape_at, time_lines as later_lines, after_chart, chart_row, flag_row, row_time, chart_rows, row_words, time_words}
use Rattle.edr_drawing.proofs.PlainLemmas.{Plain, all_low, plain_nil, plain_append, plain_if, plain_fixed, plain_flat_map, plains, plain_decimal, plain_digest}
use Rattle.edr_record.specs.{declared.Key.Key, declared.Place.Place, declared.Place.TheVariants.{First, Second}}
use Rattle.edr_image.specs.{declared.BankView.BankView, declared.BankView.TheVariants.Damaged, declared.Found.Found}
use Rattle.edr_image.specs.Reports.{Report}
use Rattle.edr_drawing.specs.declared.Origin.{Origin}
use Rattle.edr_drawing.specs.Tables.{points_table, elements_table, run_table, block, by_time, number_word, slot_row}
use Rattle.edr_drawing.specs.Page.{NumberedRecord, crash_reasons, damaged_item, damaged_list, event_row, events_table, firsts_words, greatest_or_none, others_words, page_bytes, place_fact, place_told, pre_reasons, reasons, sheet}
use Rattle.edr_drawing.proofs.PlainLineLemmas.{plain_event_lines, plain_run_lines}

plain_shape : (s : Shape) → Plain (shape_bytes s)
plain_shape (shape.Joint true x y) = search plains depth 20
plain_shape (shape.Joint false x y) = search plains depth 20
plain_shape s = search plains depth 20

plain_shapes : (shapes : List Shape) → Plain (shapes_bytes shapes)
plain_shapes shapes = plain_flat_map shape_bytes plain_shape shapes

-- ---- the chart before time zero

plain_points : (f : Profile) (l : ChartLane) (k : ℕ) (before : Bool) (vs : List (Option ℕ)) → Plain (points f l k before vs)
plain_points f l k before [] = plain_nil
plain_points f l k before (None ∷ vs) = plain_points f l (k + 1) false vs
plain_points f l k before (Some v ∷ vs) = plain_append _ _ (plain_shapes (shape.Joint before (slot_x f k) (lane_y l v) ∷ [])) (plain_points f l (k + 1) true vs)

plain_cells : (f : Profile) (l : ChartLane) (k n : ℕ) (vs : List (Option ℕ)) → Plain (cells f l k n vs)
plain_cells f l k n [] = plain_shapes _
plain_cells f l k n (None ∷ vs) =
    plain_if _ _ _ (plain_cells f l k (n + 1) vs) (plain_append _ _ (plain_shapes _) (plain_cells f l (k + n) 1 vs))
plain_cells f l k n (Some v ∷ vs) =
    plain_append _ _ (plain_append _ _ (plain_shapes (run_shapes f k n l.gap None)) (plain_shapes (marked f l (k + n) v))) (plain_cells f l (k + n + 1) 0 vs)

plain_brake_runs : (f : Profile) (k n : ℕ) (u : Option Bool) (vs : List (Option Bool)) → Plain (brake_runs f k n u vs)
plain_brake_runs f k n u [] = plain_shapes _
plain_brake_runs f k n u (v ∷ vs) =
    plain_if _ _ _ (plain_brake_runs f k (n + 1) u vs) (plain_append _ _ (plain_shapes _) (plain_brake_runs f (k + n) 1 v vs))

pub plain_before_chart : (n : ℕ) (p : PrePart) → Plain (before_chart n p)
unfolding before_chart time_lines drawn_lane
plain_before_chart n p = search (plain_points, plain_cells, plain_brake_runs, plains) depth 60 fits 4000

-- ---- the chart after time zero

plain_axis_shapes : (s : Scale) (mark : Option CarAxis) (i : ℕ) (vs : List ℤ) → Plain (axis_shapes s mark i vs)
plain_axis_shapes s mark i [] = plain_nil
plain_axis_shapes s mark i (v ∷ vs) = plain_append _ _ (plain_shapes (shape_at mark (nat_lt 0 i) (time_x s (POINT_STEP * i)) (change_y s v) ∷ [])) (plain_axis_shapes s mark (i + 1) vs)

plain_time_words : (at : Option ℕ) (none : List ℕ) → Plain none → Plain (time_words at none)
plain_time_words (Some t) none h = search plains depth 20
plain_time_words None none h = h

plain_row_words : (c : CrashPart) (r : ChartRow) → Plain (row_words c r)
plain_row_words c (Greatest a) = search plains depth 20
plain_row_words c r = search (plain_time_words, plains) depth 20

plain_flag_row : (s : Scale) (k : ℕ) (name words : List ℕ) (at : Option ℕ) → Plain name → Plain words → Plain (flag_row s k name words at)
plain_flag_row s k name words (Some t) h w = search plains depth 60
plain_flag_row s k name words None h w = search plains depth 60

plain_chart_rows : {L : Type 0} (name : L → List ℕ) (shown : L → ChartRow) (s : Scale) (c : CrashPart) (k : ℕ) (ls : List L) → list_all (λ l. all_low (name l)) ls ≡ true → Plain (chart_rows name shown s c k ls)
unfolding chart_row
plain_chart_rows name shown s c k [] e = plain_nil
plain_chart_rows name shown s c k (l ∷ ls) e =
    let one = plain_flag_row s k (name l) (row_words c (shown l)) (row_time c (shown l)) (plain_fixed (name l) (and_parts _ _ e).0) (plain_row_words c (shown l)) in
    plain_append _ _ (search plains depth 60) (plain_chart_rows name shown s c (k + 1) ls (and_parts _ _ e).1)

pub plain_after_chart : (n : ℕ) (crash : Option CrashPart) → Plain (after_chart n crash)
unfolding after_chart changes_chart end_line later_lines level levels drawn_curve curve maximum
plain_after_chart n None = search plains depth 60
plain_after_chart n (Some c) = search (plain_axis_shapes, plain_chart_rows, plains) depth 60 fits 8000

-- ---- the sheets

plain_crash_reasons : (crash : Option CrashPart) → Plain (crash_reasons crash)
plain_crash_reasons None = search plains depth 20
plain_crash_reasons (Some c) = search plains depth 20

plain_points_table : (crash : Option CrashPart) → Plain (points_table crash)
unfolding points_table
plain_points_table None = plain_nil
plain_points_table (Some c) = search plains depth 60

plain_run : (reports : List Report) (retrieved : ℕ) → Plain (run_table reports retrieved)
unfolding run_table
plain_run [] retrieved = plain_nil
plain_run (r ∷ rs) retrieved = search (plain_run_lines, plains) depth 60

-- the table by time
plain_number_word : (v : Option ℕ) → Plain (number_word v)
plain_number_word None = plain_fixed NONE.now refl
plain_number_word (Some n) = plain_decimal n

plain_by_time : (n : ℕ) (p : PrePart) → Plain (by_time n p)
unfolding by_time block slot_row
plain_by_time n p = search (plain_number_word, plains) depth 60 fits 4000

-- the sheet of an event
plain_others : (cycle : ℕ) (ns : List ℕ) → Plain (others_words cycle ns)
plain_others cycle [] = search plains depth 20
plain_others cycle (n ∷ ns) = plain_append _ _ (search plains depth 20) (plain_others cycle ns)

plain_firsts : (cycle : ℕ) (ns : List ℕ) → Plain (firsts_words cycle ns)
plain_firsts cycle [] = search plains depth 20
plain_firsts cycle (n ∷ ns) = search (plain_others, plains) depth 60

plain_place_told : (events : List NumberedRecord) (key : Key) (place : Place) → Plain (place_told events key place)
plain_place_told events key First = search plains depth 20
plain_place_told events key (Second after) = search (plain_firsts, plains) depth 60

plain_sheet : (events : List NumberedRecord) (digest : List ℕ) (e : NumberedRecord) → Plain digest → Plain (sheet events digest e)
unfolding sheet place_fact reasons pre_reasons elements_table
plain_sheet events digest (n, (bank, r)) h =
    search (plain_place_told, plain_crash_reasons, plain_event_lines, plain_points_table, plain_before_chart, plain_after_chart, plain_by_time, plains) depth 60 fits 8000

-- the first sheet
plain_greatest : (crash : Option CrashPart) (a : CarAxis) → Plain (greatest_or_none crash a)
plain_greatest None a = plain_fixed NONE.now refl
plain_greatest (Some c) a = search plains depth 20

plain_event_row : (e : NumberedRecord) → Plain (event_row e)
plain_event_row (n, (bank, r)) = search (plain_greatest, plains) depth 60

plain_events : (events : List NumberedRecord) → Plain (events_table events)
unfolding events_table
plain_events [] = plain_nil
plain_events (e ∷ es) = search (plain_event_row, plains) depth 60

plain_damaged : (bank : ℕ) (view : BankView) → Plain (damaged_item bank view)
plain_damaged bank (Damaged o x l) = search plains depth 20
plain_damaged bank view = plain_nil

-- the whole page
pub plain_page : (reports : List Report) (found : List Found) (origin : Origin) → Plain (page_bytes reports found origin)
unfolding page_bytes damaged_list
plain_page reports found origin =
    search (plain_events, plain_damaged, plain_run, plain_sheet, plain_digest, plains) depth 60 fits 8000
