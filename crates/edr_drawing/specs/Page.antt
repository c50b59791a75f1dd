-- The page of a report: a first sheet, which says what was found, and a sheet for each event, with its place in its crash, why its record isn't complete, its charts and its tables.
use Rattle.std.specs.{Prelude.{ℕ, List, map, Bool, true, false, count_by, length, if◌then◌else◌, nat_eq, Option, Some, None, [], ◌∷◌, ◌++◌, flat_map, take, decimal, ◌-◌, ◌&&◌, nat_le, nat_lt, is_none}, List.{enumerate_from}}
use Rattle.hex.specs.Hex.{encode_lower}
use Rattle.edr_record.specs.{Bounds.window_from_end, Complete.is_complete, Parts.{CrashPart, PrePart}}
use Rattle.edr_record.specs.declared.{Key.Key, Place.Place, Place.TheVariants.{First, Second}, Record.Record, TheConstants.LONGEST_PAIR}
use Rattle.edr_image.specs.{Reports.Report, declared.{BankView.BankView, BankView.TheVariants.Damaged, Found.Found}}
use Rattle.edr_report.specs.{Report.found_records, Words.{number_shown, tenths_of}, declared.TheConstants.LARGEST_SHOWN_COUNT}
use Rattle.edr_drawing.specs.declared.{Origin.Origin, TheConstants.{BEGINNING, VERSION}, long.TheConstants.{BODY, FORM_AND_NOTES, HEAD, PAGE_END, STYLE}}
use Rattle.edr_drawing.specs.declared.{scales.CarAxis.CarAxis, scales.CarAxis.TheVariants.{Along, Across}, scales.TheConstants.AXIS_NAMES, sheets.FoundEvent.FoundEvent}
use Rattle.edr_drawing.specs.declared.sheets.TheConstants.{DAMAGED_BANK, DAMAGED_START, EVENT_ROW, EVENTS_START, FIRST_FOOT, FIRST_SHEET, SET_OR_NOT, LIST_END, YES_NO, ELSEWHERE, IF_SAME_CYCLE, OR_EVENT, PLACE, SECOND_AFTER, PART_ABSENT, PROFILES, REASONS_START, SAMPLED, SAMPLES_ABSENT, SHEET_FOOT, SHEET_HEAD, SWITCHES, SWITCH_ABSENT, WINDOW_ABSENT}
use Rattle.edr_drawing.specs.declared.{tables.TheConstants.TABLE_END, template.TheConstants.{FIRST, NONE}}
use Rattle.edr_drawing.specs.{After.after_chart, Scales.{greatest_words, missing_of, of_axis}, Before.before_chart, Tables.{by_time, elements_table, points_table, run_table}}
use Rattle.edr_drawing.specs.Template.{either, filled, filled_if, fixed, of_profile, place_words, seconds}

-- ---- what was found

-- the number of an event, that of its bank, and its record
abbrev pub NumberedRecord : Type 0
NumberedRecord = ℕ × (ℕ × Record)

abbrev pub numbered_one : FoundEvent → NumberedRecord
numbered_one e = (e.number, (e.bank, e.event.now))

abbrev pub numbered : List FoundEvent → List NumberedRecord
numbered events = map numbered_one events

-- the events that were found, the first of which has the number 1
abbrev pub events_of : List Found → List NumberedRecord
events_of found = enumerate_from 1 (found_records found)

-- how many damaged banks were found
abbrev pub is_damaged : BankView → Bool
is_damaged (Damaged o x l) = true
is_damaged view = false

abbrev pub damaged_in : List Found → ℕ
damaged_in found = count_by (λ f. is_damaged f.view) found

-- the greatest change of an axis, or that there is none
abbrev pub greatest_or_none : Option CrashPart → CarAxis → List ℕ
greatest_or_none None a = NONE.now
greatest_or_none (Some c) a = greatest_words c a

-- the row of an event
abbrev pub event_row : NumberedRecord → List ℕ
event_row (n, (bank, r)) =
    filled EVENT_ROW.now
    (decimal n
    ∷ decimal bank
    ∷ decimal (number_shown r.pre.key.cycle)
    ∷ decimal r.pre.key.zero
    ∷ place_words r.pre.place
    ∷ either r.locked YES_NO.0.now YES_NO.1.now
    ∷ greatest_or_none r.crash Along
    ∷ greatest_or_none r.crash Across
    ∷ either (is_complete r) YES_NO.0.now YES_NO.1.now
    ∷ [])

-- the table of events, where there are any
unfoldable pub events_table : List NumberedRecord → List ℕ
events_table [] = []
events_table (e ∷ es) = fixed EVENTS_START.now ++ flat_map event_row (e ∷ es) ++ fixed TABLE_END.now

-- the item of a bank, if it is damaged
abbrev pub damaged_item : ℕ → BankView → List ℕ
damaged_item bank (Damaged o x l) = filled DAMAGED_BANK.now (decimal bank ∷ decimal o ∷ decimal x ∷ either l SET_OR_NOT.0.now SET_OR_NOT.1.now ∷ [])
damaged_item bank view = []

abbrev pub damaged_items : List Found → List ℕ
damaged_items found = flat_map (λ f. damaged_item f.bank f.view) found

-- the list of damaged banks, where there are any
unfoldable pub damaged_list : List Found → List ℕ
damaged_list found =
    if nat_eq (damaged_in found) 0
    then []
    else fixed DAMAGED_START.now ++ damaged_items found ++ fixed LIST_END.now

-- ---- the first event of a pair

abbrev pub is_first : Place → Bool
is_first First = true
is_first (Second after) = false

-- this may be the first event of the pair whose second one has this key, and began so long after it: as far as a report tells, both
-- are of the same ignition cycle, as counts are shown up to a bound, and the time between them is shown in tenths of a second
-- (563.5, multi-event crash)
abbrev pub is_first_of : Key → ℕ → PrePart → Bool
is_first_of key after p =
    is_first p.place
    && nat_eq (number_shown p.key.cycle) (number_shown key.cycle)
    && nat_lt p.key.zero key.zero
    && nat_le (key.zero - p.key.zero) LONGEST_PAIR
    && nat_eq (tenths_of (key.zero - p.key.zero)) (tenths_of after)

-- the numbers of the events that may be it
abbrev pub firsts : Key → ℕ → List NumberedRecord → List ℕ
firsts key after events = flat_map (λ e. if is_first_of key after e.1.1.pre then e.0 ∷ [] else []) events

-- ---- the place of an event in its crash

-- the events with these numbers, which may be the first one of a pair in this ignition cycle, after one that is named
abbrev pub others_words : ℕ → List ℕ → List ℕ
others_words cycle [] = filled_if (nat_le LARGEST_SHOWN_COUNT cycle) IF_SAME_CYCLE.now []
others_words cycle (n ∷ ns) = filled OR_EVENT.0.now (decimal n ∷ []) ++ others_words cycle ns

-- the same with none named
abbrev pub firsts_words : ℕ → List ℕ → List ℕ
firsts_words cycle [] = fixed ELSEWHERE.now
firsts_words cycle (n ∷ ns) = filled OR_EVENT.1.now (decimal n ∷ []) ++ others_words cycle ns

-- the place of an event with this key, with those of the events of which it may be the second
abbrev pub place_told : List NumberedRecord → Key → Place → List ℕ
place_told events key First = fixed FIRST.now
place_told events key (Second after) =
    filled SECOND_AFTER.now (seconds (tenths_of after) ∷ []) ++ firsts_words key.cycle (firsts key after events)

unfoldable pub place_fact : List NumberedRecord → Key → Place → List ℕ
place_fact events key place = fixed PLACE.0.now ++ place_told events key place ++ fixed PLACE.1.now

-- how many of so many samples of this are absent, if any is
abbrev pub share_reason : List ℕ → List ℕ → ℕ → ℕ → List ℕ
share_reason template name absent count = filled_if (nat_lt 0 absent) template (name ∷ decimal absent ∷ decimal count ∷ [])

-- the same of the slots of a list, and of the milliseconds of the window of an axis
abbrev pub slots_reason : {T : Type 0} → List ℕ → List (Option T) → List ℕ
slots_reason name vs = share_reason SAMPLES_ABSENT.now name (count_by is_none vs) (length vs)

abbrev pub missing_reason : CrashPart → CarAxis → List ℕ
missing_reason c a = share_reason WINDOW_ABSENT.now ((of_axis a AXIS_NAMES.0 AXIS_NAMES.1).now) (missing_of c a) (window_from_end c.end)

-- what is absent of the time before time zero, and after it
unfoldable pub pre_reasons : PrePart → List ℕ
pre_reasons p =
    slots_reason SAMPLED.0.now p.speed
    ++ slots_reason SAMPLED.1.now p.throttle
    ++ slots_reason SAMPLED.2.now p.brake
    ++ filled_if (is_none p.belt) SWITCH_ABSENT.now (SWITCHES.0.now ∷ [])
    ++ filled_if (is_none p.lamp) SWITCH_ABSENT.now (SWITCHES.1.now ∷ [])

abbrev pub crash_reasons : Option CrashPart → List ℕ
crash_reasons None = fixed PART_ABSENT.now
crash_reasons (Some c) = missing_reason c Along ++ missing_reason c Across

-- why a record isn't complete, if it isn't
unfoldable pub reasons : Record → List ℕ
reasons r =
    if is_complete r then [] else fixed REASONS_START.now ++ pre_reasons r.pre ++ crash_reasons r.crash ++ fixed LIST_END.now

-- ---- the page

-- the sheet of an event among all events, which names the report by its digest
unfoldable pub sheet : List NumberedRecord → List ℕ → NumberedRecord → List ℕ
sheet events digest (n, (bank, r)) =
    filled SHEET_HEAD.now
    (decimal n
    ∷ either (is_complete r) YES_NO.0.now YES_NO.1.now
    ∷ decimal (number_shown r.pre.key.cycle)
    ∷ decimal r.pre.key.zero
    ∷ decimal bank
    ∷ either r.locked YES_NO.0.now YES_NO.1.now
    ∷ (of_profile r.pre.profile PROFILES).now
    ∷ [])
    ++ place_fact events r.pre.key r.pre.place
    ++ reasons r
    ++ before_chart n r.pre
    ++ after_chart n r.crash
    ++ elements_table n bank r
    ++ points_table r.crash
    ++ by_time n r.pre
    ++ filled SHEET_FOOT.now (decimal n ∷ digest ∷ [])

-- the head with its style; the first sheet, whose end has fields that are filled in by hand, and how to read the pages; and a
-- sheet for each event
unfoldable pub page_bytes : List Report → List Found → Origin → List ℕ
page_bytes reports found origin =
    filled HEAD.now (encode_lower (take BEGINNING origin.digest) ∷ STYLE.now ∷ BODY.now ∷ [])
    ++ filled FIRST_SHEET.now (decimal (length (events_of found)) ∷ decimal (damaged_in found) ∷ decimal (number_shown origin.count) ∷ [])
    ++ events_table (events_of found)
    ++ damaged_list found
    ++ run_table reports (length (events_of found))
    ++ fixed FORM_AND_NOTES.now
    ++ filled FIRST_FOOT.now (decimal origin.size ∷ encode_lower origin.digest ∷ VERSION.now ∷ [])
    ++ flat_map (sheet (events_of found) (encode_lower origin.digest)) (events_of found)
    ++ fixed PAGE_END.now
