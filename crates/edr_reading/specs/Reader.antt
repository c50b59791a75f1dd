-- What a reader knows of a report after some of its rows, and why it refuses the next.
use Rattle.std.specs.List.{IsDistinct}
use Rattle.std.specs.Prelude.{◌≡◌, ◌≢◌, ◌<◌, ◌≤◌, ◌+◌, ℕ, ⊤, Bool, true, false, eqb, List, [], ◌∷◌, ◌++◌, All, map, length, take, drop, ◌⊎◌, Option, Some, None, Result, Ok, Err, decimal, slice_index_or}
use Rattle.edr_record.specs.declared.Record.{Record}
use Rattle.edr_image.specs.{declared.{Ack.Ack, Found.Found}, Banks.found_event, Reports.{Report, StartStopped, Ran, report_of}}
use Rattle.edr_report.specs.declared.TheConstants.{LARGEST_SHOWN_COUNT}
use Rattle.edr_reading.specs.declared.{reader.{NextRow.NextRow, Reader.Reader, Refused.Refused, TheConstants.MOST_ROWS}, values.CycleRow.CycleRow}
use Rattle.edr_reading.specs.declared.{values.ToldName.ToldName, event.{PartEvent.PartEvent, TheConstants.EVENT_ROWS}}
use Rattle.edr_reading.specs.declared.reading.{ReportRefused.{ReportRefused, TheVariants.{Fault, OutOfMemory}}}
use Rattle.edr_reading.specs.Reading.{EventAgrees, HasNoBank, IsNextEvent, event_of, AreReport, IsWrong, IsFault, IsAck, IsDamaged, IsEvent, IsReport, IsToldName, ack_fields, banks_in, count_fields, damaged_fields, events_fields, last_rows, name_words, run_fields, AreDistinct, head_row, FieldRows, event_fields}
use Rattle.edr_reading.specs.declared.reading.RowFault.TheVariants as fault
use Rattle.edr_reading.specs.declared.reader.NextRow.TheVariants as next
use Rattle.edr_reading.specs.declared.reader.Refused.TheVariants as refused
use Rattle.edr_reading.specs.declared.values.CycleRow.TheVariants as row
use Rattle.edr_reading.specs.declared.values.ToldName.TheVariants as name
use Rattle.edr_spell.specs.Spell.{RecordsOf}

-- ---- the rows so far

-- the rows of these cycles, events and damaged banks, after the row that names the columns
abbrev pub whole : List Report → List (ℕ × Record) → List Found → FieldRows
whole reports es ds = head_row ∷ (run_fields 1 reports ++ (events_fields 1 es ++ map damaged_fields ds))

-- a report may tell them
pub record IsToldReport (reports : List Report) (es : List (ℕ × Record)) (ds : List Found) : Type 0 where
  pub run : All IsReport reports
  pub events : All IsEvent es
  pub damaged : All IsDamaged ds
  pub distinct : AreDistinct (map found_event es ++ ds)

-- ---- the rows that may follow

-- these rows are the rest of a report: after so many cycles, with the next event in this block, and with banks that were told
pub record MayFollow (has_acks has_cycles has_events : Bool) (cycles block : ℕ) (banks : List ℕ) (rows : FieldRows) : Type 0 where
  pub acks : List Ack
  pub reports : List Report
  pub events : List (ℕ × Record)
  pub damaged : List Found
  pub count : ℕ
  pub bounds : All IsAck acks × All IsReport reports × All IsEvent events × All IsDamaged damaged
  pub no_acks : has_acks ≡ false → acks ≡ []
  pub no_reports : has_cycles ≡ false → reports ≡ []
  pub no_events : has_events ≡ false → events ≡ []
  pub distinct : IsDistinct eqb (banks ++ (map (λ e. e.0) events ++ banks_in damaged))
  pub are : rows ≡ map (ack_fields cycles) acks ++ (run_fields (cycles + 1) reports ++ (events_fields block events ++ last_rows damaged count))

-- they are so from the line in place k of an event on, of which this was read
pub record MayFollowLine (k block : ℕ) (banks : List ℕ) (e : ℕ × Record) (rows : FieldRows) : Type 0 where
  pub event : ℕ × Record
  pub bounds : IsEvent event
  pub agrees : EventAgrees k e event
  pub after : FieldRows
  pub follow : (cycles : ℕ) → MayFollow false false true cycles (block + 1) (banks ++ event.0 ∷ []) after
  pub are : rows ≡ drop k (event_fields block event.0 event.1) ++ after

-- ---- a reader

-- the last cycle that was read
abbrev pub last_cycle : Option CycleRow → List Ack → List Report
last_cycle None acks = []
last_cycle (Some (row.StartStopped j)) acks = StartStopped j ∷ []
last_cycle (Some (row.Ran n stop)) acks = Ran n stop acks ∷ []

-- its commands may follow
abbrev pub may_ack : Option CycleRow → Bool
may_ack None = false
may_ack (Some (row.StartStopped j)) = false
may_ack (Some (row.Ran n stop)) = true

-- all cycles that were read
abbrev pub cycles_read : Reader → List Report
cycles_read r = map report_of r.run.items ++ last_cycle r.last r.acks.items

-- these rows were read, and what may follow them is this and in the end the count
pub record IsBetween (has_acks has_cycles has_events : Bool) (reports : List Report) (es : List (ℕ × Record)) (ds : List Found) (rows : FieldRows) : Type 0 where
  pub told : IsToldReport reports es ds
  pub are : rows ≡ whole reports es ds
  pub short : length rows + 1 ≤ MOST_ROWS
  pub rest : (more : FieldRows) → AreReport (rows ++ more) → MayFollow has_acks has_cycles has_events (length reports) (length es + 1) (banks_in (map found_event es ++ ds)) more

-- these rows were read, and in the event's block its line in place k may follow
pub record IsInside (k : ℕ) (e : ℕ × Record) (reports : List Report) (es : List (ℕ × Record)) (rows : FieldRows) : Type 0 where
  pub within : k < EVENT_ROWS
  pub told : IsToldReport reports es []
  pub event : IsNextEvent (map found_event es) e
  pub are : rows ≡ whole reports es [] ++ take k (event_fields (length es + 1) e.0 e.1)
  pub short : length rows + (EVENT_ROWS + 1) ≤ MOST_ROWS + k
  pub rest : (row : List (List ℕ)) (more : FieldRows) → slice_index_or row 0 [] ≡ decimal (length es + 1) → AreReport (rows ++ row ∷ more)
      → MayFollowLine k (length es + 1) (banks_in (map found_event es)) e (row ∷ more)

-- a report that begins with these rows has more, the first of them in this block
abbrev pub GoesOnIn : ℕ → FieldRows → Type 0
GoesOnIn block rows = (¬ AreReport rows) × ((row : List (List ℕ)) (more : FieldRows) → AreReport (rows ++ row ∷ more) → slice_index_or row 0 [] ≡ decimal block)

-- what may stand next after these rows
abbrev pub StandsNext : NextRow → Option CycleRow → List Report → List Found → FieldRows → Type 0
StandsNext next.Head last reports found rows = (last ≡ None) × (reports ≡ []) × (found ≡ []) × (rows ≡ [])
StandsNext next.Run last reports found rows = (found ≡ []) × IsBetween (may_ack last) true true reports [] [] rows
StandsNext next.Events last reports found rows = (es : List (ℕ × Record)) × (found ≡ map found_event es) × IsBetween false false true reports es [] rows
StandsNext (next.Line k e) last reports found rows =
    (es : List (ℕ × Record)) × (found ≡ map found_event es) × IsInside k (event_of e) reports es rows × GoesOnIn (length es + 1) rows
StandsNext next.Damaged last reports found rows =
    (es : List (ℕ × Record)) × (ds : List Found) × (found ≡ map found_event es ++ ds) × IsBetween false false false reports es ds rows
StandsNext (next.Nothing n) last reports found rows =
    (es : List (ℕ × Record)) × (ds : List Found) × (found ≡ map found_event es ++ ds) × IsToldReport reports es ds
    × (rows ≡ whole reports es ds ++ count_fields n ∷ []) × (length rows ≤ MOST_ROWS) × ((more : FieldRows) → AreReport (rows ++ more) → more ≡ []) × (n ≤ LARGEST_SHOWN_COUNT)

-- the reader has read these rows
pub record HasReadRows (r : Reader) (rows : FieldRows) : Type 0 where
  pub count : r.rows ≡ length rows
  pub few : length (cycles_read r) + length r.found.items ≤ length rows
  pub few_acks : length r.acks.items ≤ length rows
  pub short : length rows ≤ MOST_ROWS
  pub first : r.last ≡ None → r.run.items ≡ []
  pub stands : StandsNext r.next r.last (cycles_read r) r.found.items rows

-- why the next row isn't taken after these
abbrev pub IsRefused : FieldRows → List (List ℕ) → Refused → Type 0
IsRefused rows row (refused.Field f) = (more : FieldRows) → IsWrong rows (row ∷ more) (fault.Field f)
IsRefused rows row refused.OutOfMemory = ⊤

-- a reader that had read such rows took a row, or refused it as the first with which no report goes on
abbrev pub TakesRow : (FieldRows → Type 0) → Reader → List (List ℕ) → Result Unit Refused → Type 0
TakesRow Had new row (Ok u) = (rows : FieldRows) → Had rows → HasReadRows new (rows ++ row ∷ [])
TakesRow Had new row (Err e) = (rows : FieldRows) → Had rows → IsRefused rows row e

-- ---- rows of block 0

-- it is past the head, and not in an event nor at the end
abbrev pub MayBegin : NextRow → Type 0
MayBegin n = (n ≢ next.Head) × ((k : ℕ) (e : PartEvent) → n ≢ next.Line k e) × ((count : ℕ) → n ≢ next.Nothing count)

-- there is room for one row more and the count
abbrev pub HasRowsLeft : Reader → Type 0
HasRowsLeft r = r.rows + 2 ≤ MOST_ROWS

-- a row with this name may be next
abbrev pub MayTell : Reader → ToldName → Type 0
MayTell r name.Cycle = HasRowsLeft r × (r.next ≡ next.Run)
MayTell r (name.Ack k t) = HasRowsLeft r × (r.next ≡ next.Run) × (may_ack r.last ≡ true)
MayTell r (name.Bank b) = HasRowsLeft r × HasNoBank r.found.items b
MayTell r name.Count = ⊤

-- these words are this name and no other, and its row may be next
pub record IsOnlyName (r : Reader) (w : List ℕ) (x : ToldName) : Type 0 where
  pub begins : MayBegin r.next
  pub may : MayTell r x
  pub bounds : IsToldName x
  pub words : w ≡ name_words (length (cycles_read r)) x
  pub only : (y : ToldName) → IsToldName y → w ≡ name_words (length (cycles_read r)) y → x ≡ y

-- a row of block 0 with this name and value is taken, or refused
abbrev pub TakesNamed : ToldName → List ℕ → Reader → Reader → Result Unit Refused → Type 0
TakesNamed x value old new res = (w : List ℕ) → IsOnlyName old w x → TakesRow (HasReadRows old) new (decimal 0 ∷ w ∷ value ∷ []) res

-- ---- rows of an event

-- an event may be next, if there is a bank for it
abbrev pub MayHaveEvent : Reader → Type 0
MayHaveEvent r = ((r.next ≡ next.Run) ⊎ (r.next ≡ next.Events)) × (r.rows + (EVENT_ROWS + 1) ≤ MOST_ROWS)

-- the reader has read these rows, and this line of an event may be next
pub record AtLine (r : Reader) (k : ℕ) (e : ℕ × Record) (rows : FieldRows) : Type 0 where
  pub read : HasReadRows r rows
  pub events : List (ℕ × Record)
  pub found : r.found.items ≡ map found_event events
  pub inside : IsInside k e (cycles_read r) events rows

-- ---- the rows of a text

-- the fault is that of these records
abbrev pub IsRowRefusal : FieldRows → ReportRefused → Type 0
IsRowRefusal records (Fault row fault) = IsFault records row fault
IsRowRefusal records OutOfMemory = ⊤

-- the fault is that of its records
abbrev pub IsRefusalOfRecords : List ℕ → ReportRefused → Type 0
IsRefusalOfRecords bytes (Fault row fault) = (records : List (List (List ℕ))) × RecordsOf bytes records × IsFault records row fault
IsRefusalOfRecords bytes OutOfMemory = ⊤
