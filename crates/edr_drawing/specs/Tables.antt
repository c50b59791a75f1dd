-- The tables of a page.
use Rattle.std.specs.{Prelude.{ℕ, ◌+◌, ◌-◌, ◌*◌, min, ℤ, Bool, true, false, count_by, if◌then◌else◌, nat_eq, nat_lt, Option, Some, None, List, [], ◌∷◌, ◌++◌, flat_map, decimal, ◌/◌, get_or}, List.{list_any}, Cmp.Lexicographic.{pointwise}, Fmt.{signed_decimal}}
use Rattle.edr_record.specs.{Bounds.point_count, Parts.{CrashPart, PrePart}}
use Rattle.edr_record.specs.declared.{Profile.Profile, Profile.TheVariants.{Short, Long}, Record.Record, TheConstants.{LONG_SLOTS, POINT_STEP, SHORT_SLOTS}}
use Rattle.edr_image.specs.{Reports.{Report, StartStopped, Ran}, declared.{Applied.Applied, Applied.TheVariants.Kept}}
use Rattle.edr_report.specs.{Lines.Line, Report.{event_lines, run_lines}}
use Rattle.edr_drawing.specs.declared.{scales.CarAxis.CarAxis, scales.CarAxis.TheVariants.{Along, Across}, scales.TheConstants.{AXIS_NAMES, NO_SAMPLE}, before.TheConstants.SPANS}
use Rattle.edr_drawing.specs.declared.{sheets.TheConstants.PROFILES, template.TheConstants.{MINUS, NONE, SWITCH_WORDS}}
use Rattle.edr_drawing.specs.declared.tables.TheConstants.{AXIS_ROW, BLOCK_START, BY_TIME_END, BY_TIME_START, CELL, ELEMENTS_END, ELEMENTS_START, IN_TABLE, KILOMETRE, LINE, LISTS, LONG_BLOCKS, MILE, MOST_TAKEN, NEXT_TABLE, POINT_TIME, POINTS_BODY, POINTS_START, ROW_END, RUN_START, SECOND_TABLE, SILENT_CELL, SLOT_ROW, TABLE_END}
use Rattle.edr_drawing.specs.{Scales.{flat_map_below, is_silent, of_axis, points_of}, Template.{either, filled, fixed, of_profile, of_switch, seconds}}

-- ---- rows of names and values

-- the row of a name and a value
abbrev pub row : List ℕ → List ℕ → List ℕ
row name value = filled LINE.now (name ∷ value ∷ [])

-- that of a line, word for word
abbrev pub row_of : Line → List ℕ
row_of l = row l.name l.value

-- what the row of a line of an event shows: a list that the table by time has stands there
abbrev pub shown_value : Line → List ℕ
shown_value l = if list_any (λ w. pointwise nat_eq w.now l.name) LISTS then IN_TABLE.now else l.value

-- that row, before one of which a second table begins
abbrev pub line_row : Line → List ℕ
line_row l = (if pointwise nat_eq l.name SECOND_TABLE.now then fixed NEXT_TABLE.now else []) ++ row l.name (shown_value l)

-- ---- the changes of speed

-- the times of the first points, in milliseconds
abbrev pub time_cells : ℕ → List ℕ
time_cells count = flat_map_below (λ i. filled POINT_TIME.now (decimal (POINT_STEP * i) ∷ [])) count

abbrev pub change_cell : ℤ → List ℕ
change_cell v = filled CELL.now (signed_decimal v ∷ [])

-- the cells of an axis, or that it has no sample
abbrev pub axis_cells : CrashPart → CarAxis → List ℕ
axis_cells c a =
    if is_silent c a
    then filled SILENT_CELL.now (decimal (point_count c.end) ∷ NO_SAMPLE.now ∷ [])
    else flat_map change_cell (points_of c a)

-- the row of an axis
abbrev pub change_row : CrashPart → CarAxis → List ℕ
change_row c a = filled AXIS_ROW.now ((of_axis a AXIS_NAMES.0 AXIS_NAMES.1).now ∷ []) ++ axis_cells c a ++ fixed ROW_END.now

-- the table of the changes of speed, where they are there
unfoldable pub points_table : Option CrashPart → List ℕ
points_table None = []
points_table (Some c) =
    fixed POINTS_START.now
    ++ time_cells (point_count c.end)
    ++ fixed POINTS_BODY.now
    ++ change_row c Along
    ++ change_row c Across
    ++ fixed TABLE_END.now

-- ---- the lines of a report

-- all lines of an event, word for word
unfoldable pub elements_table : ℕ → ℕ → Record → List ℕ
elements_table n bank r =
    fixed ELEMENTS_START.now
    ++ flat_map line_row (event_lines n bank r)
    ++ fixed ELEMENTS_END.now

-- how many events a run took
abbrev pub is_take : Applied → Bool
is_take (Kept b) = true
is_take a = false

abbrev pub taken_of : Report → ℕ
taken_of (StartStopped j) = 0
taken_of (Ran n stop log) = count_by (λ a. is_take a.applied) log

abbrev pub taken_in : List Report → ℕ
taken_in [] = 0
taken_in (r ∷ rs) = taken_of r + taken_in rs

abbrev pub taken_shown : List Report → ℕ
taken_shown reports = min (taken_in reports) MOST_TAKEN

-- all lines of the cycles of a run, where there are any, with how many of the events that it took are gone at least
unfoldable pub run_table : List Report → ℕ → List ℕ
run_table [] retrieved = []
run_table (r ∷ rs) retrieved =
    filled RUN_START.now
    (decimal (taken_shown (r ∷ rs)) ∷ decimal retrieved ∷ decimal (taken_shown (r ∷ rs) - retrieved) ∷ [])
    ++ flat_map line_row (run_lines 1 (r ∷ rs))
    ++ fixed TABLE_END.now

-- ---- the row of a slot

-- how long before time zero slot k is, in tenths of a second
abbrev pub slot_tenths : Profile → ℕ → ℕ
slot_tenths Short k = 50 - 5 * k
slot_tenths Long k = 200 - k

-- slot k of a list
abbrev pub slot_at : {T : Type 0} → List (Option T) → ℕ → Option T
slot_at vs k = get_or vs k None

-- a number, or that it is absent
abbrev pub number_word : Option ℕ → List ℕ
number_word None = NONE.now
number_word (Some n) = decimal n

-- kilometres an hour as miles an hour, rounded
abbrev pub mph : Option ℕ → Option ℕ
mph None = None
mph (Some kmh) = Some ((kmh * KILOMETRE + MILE / 2) / MILE)

-- the row of slot k: its time, and each value of that slot
unfoldable pub slot_row : PrePart → ℕ → List ℕ
slot_row p k =
    filled SLOT_ROW.now
    (either (nat_lt 0 (slot_tenths p.profile k)) MINUS.0.now MINUS.1.now
    ∷ seconds (slot_tenths p.profile k)
    ∷ number_word (slot_at p.speed k)
    ∷ number_word (mph (slot_at p.speed k))
    ∷ number_word (slot_at p.throttle k)
    ∷ (of_switch (slot_at p.brake k) SWITCH_WORDS).now
    ∷ [])

-- ---- the blocks

-- how many blocks stand beside each other, and how many slots each of them has
abbrev pub blocks_of : Profile → ℕ × ℕ
blocks_of Short = (1, SHORT_SLOTS)
blocks_of Long = (LONG_BLOCKS, LONG_SLOTS / LONG_BLOCKS)

-- block b, which has the rows of so many slots
unfoldable pub block : PrePart → ℕ → List ℕ
block p b =
    fixed BLOCK_START.now
    ++ flat_map_below (λ i. slot_row p ((blocks_of p.profile).1 * b + i)) (blocks_of p.profile).1
    ++ fixed TABLE_END.now

-- the table of event n
unfoldable pub by_time : ℕ → PrePart → List ℕ
by_time n p =
    filled BY_TIME_START.now (decimal n ∷ (of_profile p.profile PROFILES).now ∷ (of_profile p.profile SPANS).now ∷ [])
    ++ flat_map_below (block p) (blocks_of p.profile).0
    ++ fixed BY_TIME_END.now
