-- The rows of a report: what it may tell, what the lines of an event show and fix, and where a text can be no report.
use Rattle.std.specs.{Option.option_map_or, List.IsDistinct}
use Rattle.std.specs.Prelude.{ℕ, List, [], ◌∷◌, map, decimal, ◌≡◌, ◌≤◌, ◌-◌, ◌⊎◌, Option, IfSome, IsSome, ◌++◌, codes, ⊤, ◌+◌, All, Bool, length, take, MatchOption, None, Some, replicate, ◌≢◌, eqb, min, drop}
use Rattle.edr_record.specs.declared.{Record.Record, Place.Place, Profile.Profile, Slots.Slots}
use Rattle.edr_record.specs.{Bounds.{IsPlace, IsPre, IsCrash, IsUpTo, slots_in}, Parts.{PrePart, CrashPart}}
use Rattle.edr_record.specs.{Fields.{profile_of_slots, speed_of, throttle_of, brake_of}, Complete.is_complete}
use Rattle.edr_report.specs.Report.{event_lines, ack_line, run_lines, events_lines, report_lines}
use Rattle.edr_report.specs.declared.event_lines.{PreLine.PreLine, CrashLine.CrashLine}
use Rattle.edr_report.specs.declared.event_lines.EventLine.{EventLine, TheVariants.{Number, Bank, Before, After, Complete}}
use Rattle.edr_report.specs.{Lines.{Line, line}, EventWords.{crash_words, place_of, pre_words, event_words}}
use Rattle.edr_report.specs.Words.{damage_words, stop_words, events_in_crash, time_between, ack_words, bank_words, cycle_words, shown_count, none_word, firing_words, yes_no}
use Rattle.edr_report.specs.declared.event_lines.PreLine.TheVariants as pre
use Rattle.edr_report.specs.declared.event_lines.CrashLine.TheVariants as crash
use Rattle.edr_reading.specs.declared.reading.{ReportRow.ReportRow, Reading.Reading, RowFault.RowFault}
use Rattle.edr_reading.specs.declared.{reading.RowFault.TheVariants.{Fields, Field, Unended}, reader.TheConstants.MOST_ROWS, values.CycleRow.CycleRow}
use Rattle.edr_reading.specs.declared.{values.ToldName.ToldName, event.{PartEvent.PartEvent, TheConstants.EVENT_ROWS}}
use Rattle.edr_reading.specs.Answers.{IsFromTo}
use Rattle.edr_reading.specs.declared.values.ToldName.TheVariants as name
use Rattle.edr_reading.specs.declared.values.CycleRow.TheVariants as row
use Rattle.edr_items.specs.declared.TheConstants.{LATEST_MOMENT}
use Rattle.edr_image.specs.declared.{places.TheConstants.{BANK_SIZE, MOST_BANKS}, BankView.BankView}
use Rattle.edr_image.specs.declared.{BankView.TheVariants.{Void, Event, Damaged}, Kind.Kind, Applied.Applied}
use Rattle.edr_image.specs.declared.{Applied.TheVariants.{Kept, Locked, Done, NotKept}, Ack.Ack, Found.Found}
use Rattle.edr_image.specs.{Reports.{Report, StartStopped, Ran, report_of}, Banks.found_event}
use Rattle.edr_image.specs.declared.Kind.TheVariants as kind

-- ---- rows and texts

-- the fields of a row
abbrev pub fields : ReportRow → List (List ℕ)
fields r = r.block.now ∷ r.name.now ∷ r.value.now ∷ []

-- rows by their fields
abbrev pub FieldRows : Type 0
FieldRows = List (List (List ℕ))

-- texts, as the fields of a row or the values of some
abbrev pub Texts : Type 0
Texts = List (List ℕ)

-- the fields of the row of a line
abbrev pub line_fields : Line → List (List ℕ)
line_fields l = decimal l.block ∷ l.name ∷ l.value ∷ []

-- the rows of an event
abbrev pub event_fields : ℕ → ℕ → Record → List (List (List ℕ))
event_fields block b r = map line_fields (event_lines block b r)

-- ---- which values a report may show, where the parts of a record don't say it

-- the number of a bank
abbrev pub IsBank : ℕ → Type 0
IsBank b = (1 ≤ b) × (b ≤ MOST_BANKS)

-- the changing call in which a cycle was stopped, if it was
abbrev pub IsStopCall : Option ℕ → Type 0
IsStopCall s = IfSome s (IsFromTo 1 4_294_967_295)

-- a place in a crash that has as many events as the crash of this one
abbrev pub IsPlaceLike : Place → Place → Type 0
IsPlaceLike p q = (events_in_crash q ≡ events_in_crash p) × IsPlace q

-- it read such a place by the time between the events, where there is one
pub record ReadsPlace (place : Place) (bytes : List ℕ) (result : Option Place) : Type 0 where
  pub read : IfSome result (λ p. (bytes ≡ time_between p) × IsPlaceLike place p)
  pub whole : (p : Place) → IsPlaceLike place p → bytes ≡ time_between p → IsSome result

-- when a command was acknowledged
abbrev pub IsTick : ℕ → Type 0
IsTick t = (1 ≤ t) × (t ≤ LATEST_MOMENT)

-- what was done in this bank by a command of this kind
abbrev pub done_in : Kind → ℕ → Applied
done_in kind.Take b = Kept b
done_in kind.Lock b = Locked b
done_in kind.Done b = Done b

-- what came of a command of this kind
abbrev pub IsApplied : Kind → Applied → Type 0
IsApplied k a = (a ≡ NotKept) ⊎ ((b : ℕ) × IsBank b × (a ≡ done_in k b))

-- what a damaged bank shows is in its bounds: a place in the two parts of a record, and a byte
abbrev pub IsDamagedView : BankView → Type 0
IsDamagedView Void = ⊥
IsDamagedView (Event r) = ⊥
IsDamagedView (Damaged o x l) = (o ≤ BANK_SIZE - 1) × (x ≤ 255)

-- what the row of a damaged bank shows
abbrev pub view_words : BankView → List ℕ
view_words Void = []
view_words (Event r) = []
view_words (Damaged o x l) = damage_words o x l

-- the bounds of an acknowledged command
abbrev pub IsAck : Ack → Type 0
IsAck a = IsTick a.tick × IsApplied a.kind a.applied

-- what the first line of a cycle shows, which is its only one if its start was stopped
abbrev pub row_words : CycleRow → List ℕ
row_words (row.StartStopped j) = codes "start stopped in call " ++ decimal j
row_words (row.Ran n stop) = codes "number " ++ decimal n ++ codes ", " ++ stop_words stop

-- its bounds
abbrev pub IsCycleRow : CycleRow → Type 0
IsCycleRow (row.StartStopped j) = IsFromTo 1 6 j
IsCycleRow (row.Ran n stop) = IsFromTo 1 4_294_967_295 n × IsStopCall stop

-- a name of block 0, where so many cycles were told before
abbrev pub name_words : ℕ → ToldName → List ℕ
name_words cycles name.Cycle = cycle_words (cycles + 1)
name_words cycles (name.Ack k t) = ack_words cycles k t
name_words cycles (name.Bank b) = bank_words b
name_words cycles name.Count = codes "ignition cycle, download"

-- the bounds of what it says
abbrev pub IsToldName : ToldName → Type 0
IsToldName name.Cycle = ⊤
IsToldName (name.Ack k t) = IsTick t
IsToldName (name.Bank b) = IsBank b
IsToldName name.Count = ⊤

-- ---- cycles

-- the row of an acknowledged command of the cycle in place i
abbrev pub ack_fields : ℕ → Ack → List (List ℕ)
ack_fields i a = line_fields (ack_line i a)

-- the first row of the cycle in place i of the run
abbrev pub cycle_fields : ℕ → CycleRow → List (List ℕ)
cycle_fields i c = line_fields (line 0 (cycle_words i) (row_words c))

-- what the first row of a cycle tells, and its acknowledged commands
abbrev pub row_of : Report → CycleRow
row_of (StartStopped j) = row.StartStopped j
row_of (Ran n stop log) = row.Ran n stop

abbrev pub acks_of : Report → List Ack
acks_of (StartStopped j) = []
acks_of (Ran n stop log) = log

-- the bounds of what is told of a cycle
abbrev pub IsReport : Report → Type 0
IsReport r = IsCycleRow (row_of r) × All IsAck (acks_of r)

-- the rows of cycles, the first of which is in this place
abbrev pub run_fields : ℕ → List Report → List (List (List ℕ))
run_fields place reports = map line_fields (run_lines place reports)

-- ---- what was found in the banks

-- the bounds of a record
pub record IsRecord (r : Record) : Type 0 where
  pub pre : IsPre r.pre
  pub crash : IfSome r.crash IsCrash

-- the bounds of an event and its bank
abbrev pub IsEvent : ℕ × Record → Type 0
IsEvent e = IsBank e.0 × IsRecord e.1

-- the rows of events, the first of which has this number
abbrev pub events_fields : ℕ → List (ℕ × Record) → List (List (List ℕ))
events_fields block events = map line_fields (events_lines block events)

-- the bounds of a damaged bank
abbrev pub IsDamaged : Found → Type 0
IsDamaged f = IsBank f.bank × IsDamagedView f.view

-- the row of a damaged bank
abbrev pub damaged_fields : Found → List (List ℕ)
damaged_fields f = line_fields (line 0 (bank_words f.bank) (view_words f.view))

-- the row of the count of ignition cycles
abbrev pub count_fields : ℕ → List (List ℕ)
count_fields n = line_fields (line 0 (codes "ignition cycle, download") (shown_count n))

-- the last rows: those of damaged banks and that of the count
abbrev pub last_rows : List Found → ℕ → List (List (List ℕ))
last_rows damaged n = map damaged_fields damaged ++ count_fields n ∷ []

-- the numbers of the banks
abbrev pub banks_in : List Found → List ℕ
banks_in found = map (λ f. f.bank) found

-- ---- a line

-- a line in place k is taken with its value: what was read shows it, and in the lines before it what it showed; and whatever
-- it may become that shows the value there, it is read one line further
pub record AcceptsLine {A B : Type 0} (view : B → A) (ok : A → Type 0) (texts : A → Texts) (agree : ℕ → A → A → Type 0) (words : A → List ℕ) (k : ℕ) (value : List ℕ) (old : B) (result : Option B) : Type 0 where
  pub bounds : IfSome result (λ new. ok (view new))
  pub shows : IfSome result (λ new. value ≡ words (view new))
  pub earlier : IfSome result (λ new. take k (texts (view new)) ≡ take k (texts (view old)))
  pub whole : (f : A) → ok f → agree k (view old) f → value ≡ words f → MatchOption result ⊥ (λ new. agree (k + 1) (view new) f)

-- ---- before time zero

-- slots of this profile within their bounds
pub record AreSlots (f : Profile) (s : Slots) : Type 0 where
  pub profile : profile_of_slots s ≡ f
  pub speeds : length (speed_of s) ≡ slots_in f
  pub speed : All (IsUpTo 300) (speed_of s)
  pub throttles : length (throttle_of s) ≡ slots_in f
  pub throttle : All (IsUpTo 100) (throttle_of s)
  pub brakes : length (brake_of s) ≡ slots_in f

-- the place of a line among them
abbrev pub pre_place : PreLine → ℕ
pre_place pre.Cycle = 0
pre_place pre.TimeZero = 1
pre_place pre.Events = 2
pre_place pre.Between = 3
pre_place pre.Deployment = 4
pre_place pre.Profile = 5
pre_place pre.Speed = 6
pre_place pre.Throttle = 7
pre_place pre.Brake = 8
pre_place pre.Belt = 9
pre_place pre.Lamp = 10

-- what the lines show, in their order
abbrev pub pre_texts : PrePart → Bool → Texts
pre_texts p locked = map (pre_words p locked) (pre.Cycle ∷ pre.TimeZero ∷ pre.Events ∷ pre.Between ∷ pre.Deployment ∷ pre.Profile ∷ pre.Speed ∷ pre.Throttle ∷ pre.Brake ∷ pre.Belt ∷ pre.Lamp ∷ [])

-- two parts have the same in what the first k lines fix of those after them
pub record PreAgrees (k : ℕ) (p q : PrePart) : Type 0 where
  pub events : 3 ≤ k → events_in_crash p.place ≡ events_in_crash q.place
  pub profile : 6 ≤ k → p.profile ≡ q.profile
  pub speed : 7 ≤ k → p.speed ≡ q.speed
  pub throttle : 8 ≤ k → p.throttle ≡ q.throttle
  pub brake : 9 ≤ k → p.brake ≡ q.brake
  pub belt : 10 ≤ k → p.belt ≡ q.belt
  pub lamp : 11 ≤ k → p.lamp ≡ q.lamp

-- a line of it is taken
abbrev pub AcceptsPreLine : PreLine → List ℕ → PrePart × Bool → Option (PrePart × Bool) → Type 0
AcceptsPreLine l value old result =
    AcceptsLine {A = PrePart × Bool} (λ p. p) (λ q. IsPre q.0) (λ q. pre_texts q.0 q.1) (λ k p q. PreAgrees k p.0 q.0) (λ q. pre_words q.0 q.1 l) (pre_place l) value old result

-- ---- after time zero

-- which of the lines of an event is the first of these, and all that come after it but the last one
abbrev pub first_after : ℕ
first_after = 13

-- the place of a line among them
abbrev pub crash_place : CrashLine → ℕ
crash_place crash.End = 0
crash_place crash.Along = 1
crash_place crash.Across = 2
crash_place crash.MaxAlong = 3
crash_place crash.MaxAcross = 4
crash_place crash.ResultAt = 5
crash_place crash.Missing = 6
crash_place (crash.Fired r) = 7 + place_of r

-- what the lines before those of the restraints show, in their order, and what all of them do
abbrev pub first_texts : CrashPart → Texts
first_texts c = map (crash_words c) (crash.End ∷ crash.Along ∷ crash.Across ∷ crash.MaxAlong ∷ crash.MaxAcross ∷ crash.ResultAt ∷ crash.Missing ∷ [])

abbrev pub crash_texts : Option CrashPart → Texts
crash_texts None = replicate (EVENT_ROWS - 1 - first_after) none_word
crash_texts (Some c) = first_texts c ++ map firing_words c.fired

-- what a line shows where the part may be absent
abbrev pub part_words : Option CrashPart → CrashLine → List ℕ
part_words c l = option_map_or (λ d. crash_words d l) c none_word

-- two parts have the same in what the first k lines fix of those after them
pub record CrashAgrees (k : ℕ) (c d : CrashPart) : Type 0 where
  pub end : 1 ≤ k → c.end ≡ d.end
  pub missing_along : 7 ≤ k → c.missing_along ≡ d.missing_along
  pub missing_across : 7 ≤ k → c.missing_across ≡ d.missing_across

-- where each of them may be absent
abbrev pub PartsAgree : ℕ → Option CrashPart → Option CrashPart → Type 0
PartsAgree k None None = ⊤
PartsAgree k None (Some d) = k ≡ 0
PartsAgree k (Some c) None = k ≡ 0
PartsAgree k (Some c) (Some d) = CrashAgrees k c d

-- a line of it is taken, and one where it may be absent
abbrev pub AcceptsCrashLine : CrashLine → List ℕ → CrashPart → Option CrashPart → Type 0
AcceptsCrashLine l value old result = AcceptsLine (λ c. c) IsCrash (λ c. crash_texts (Some c)) CrashAgrees (λ c. crash_words c l) (crash_place l) value old result

abbrev pub AcceptsPartLine : CrashLine → List ℕ → Option CrashPart → Option (Option CrashPart) → Type 0
AcceptsPartLine l value old result = AcceptsLine (λ c. c) (λ c. IfSome c IsCrash) crash_texts PartsAgree (λ c. part_words c l) (crash_place l) value old result

-- ---- an event of which the first lines were read

-- the event of what was read so far
abbrev pub event_of : PartEvent → ℕ × Record
event_of e = (e.bank, e.record)

-- none of these banks is this one
abbrev pub HasNoBank : List Found → ℕ → Type 0
HasNoBank found b = All (λ f. f.bank ≢ b) found

-- the bounds of an event that was found beside these banks
pub record IsNextEvent (found : List Found) (e : ℕ × Record) : Type 0 where
  pub bank : IsBank e.0
  pub alone : HasNoBank found e.0
  pub record_bounds : IsRecord e.1

-- the place of a line among those of an event
abbrev pub event_place : EventLine → ℕ
event_place Number = 0
event_place Bank = 1
event_place (Before l) = 2 + pre_place l
event_place (After l) = first_after + crash_place l
event_place Complete = EVENT_ROWS - 1

-- what its lines show, in their order
abbrev pub event_texts : ℕ → ℕ × Record → Texts
event_texts block e =
    decimal block ∷ decimal e.0 ∷ (pre_texts e.1.pre e.1.locked ++ (crash_texts e.1.crash ++ yes_no (is_complete e.1) ∷ []))

-- two events have the same in what the first k lines fix of those after them
pub record EventAgrees (k : ℕ) (e f : ℕ × Record) : Type 0 where
  pub bank : 2 ≤ k → e.0 ≡ f.0
  pub before : PreAgrees (k - 2) e.1.pre f.1.pre
  pub after : PartsAgree (k - first_after) e.1.crash f.1.crash

-- a line of an event in this block is taken, which is in none of the banks found
abbrev pub AcceptsEventLine : ℕ → List Found → EventLine → List ℕ → PartEvent → Option PartEvent → Type 0
AcceptsEventLine block found l value old result =
    AcceptsLine event_of (IsNextEvent found) (event_texts block) EventAgrees (λ e. event_words block e.0 e.1 l) (event_place l) value old result

-- there is no bank that wasn't found
abbrev pub HasNoneFree : List Found → Type 0
HasNoneFree found = (b : ℕ) → IsBank b → HasNoBank found b → ⊥

-- the row that names the columns
abbrev pub head_row : List (List ℕ)
head_row = codes "block" ∷ codes "name" ∷ codes "value" ∷ []

-- the rows of the table of a report
abbrev pub report_rows : List Report → List Found → ℕ → List (List (List ℕ))
report_rows reports found n = head_row ∷ map line_fields (report_lines reports found n)

-- those of the report that was read
abbrev pub rows_told : Reading → List (List (List ℕ))
rows_told r = report_rows (map report_of r.run.items) r.found.items r.count

-- no bank is told twice
abbrev pub AreDistinct : List Found → Type 0
AreDistinct found = IsDistinct eqb (map (λ f. f.bank) found)

-- what a report may tell: cycles within their bounds, events and then damaged banks within theirs, each of another bank,
-- in less rows than a u32 counts
pub record IsReading (reports : List Report) (banks : List Found) (n : ℕ) : Type 0 where
  pub run : All IsReport reports
  pub found : (events : List (ℕ × Record)) × (damaged : List Found) × (banks ≡ map found_event events ++ damaged) × All IsEvent events × All IsDamaged damaged
  pub distinct : AreDistinct banks
  pub short : length (report_rows reports banks n) ≤ MOST_ROWS

-- whatever report the rows are of, this is so
abbrev pub OfReportRows : (FieldRows → Type 0) → Type 0 → Type 0
OfReportRows are says = (reports : List Report) (found : List Found) (n : ℕ) → IsReading reports found n → are (report_rows reports found n) → says

-- these are the rows of a report
abbrev pub AreReport : List (List (List ℕ)) → Type 0
AreReport rows = (reports : List Report) × (banks : List Found) × (n : ℕ) × IsReading reports banks n × (rows ≡ report_rows reports banks n)

-- a report begins with these rows
abbrev pub Opens : List (List (List ℕ)) → Type 0
Opens rows = (more : List (List (List ℕ))) × AreReport (rows ++ more)

-- a report begins with these rows, and its next row with these fields
abbrev pub ReportGoesOn : List (List (List ℕ)) → List (List ℕ) → Type 0
ReportGoesOn rows front = (back : List (List ℕ)) × (more : List (List (List ℕ))) × AreReport (rows ++ (front ++ back) ∷ more)

-- what is wrong with the first of these records, which stand after rows with which a report begins: it has n fields in place of three, counted
-- up to what a u32 holds; or its field f is the first with which no report goes on; or it is missing, and the rows are those of
-- no report
abbrev pub IsWrong : List (List (List ℕ)) → List (List (List ℕ)) → RowFault → Type 0
IsWrong rows [] Unended = ¬ AreReport rows
IsWrong rows (r ∷ records) (Fields n) = (n ≡ min (length r) 4_294_967_295) × (length r ≢ 3)
IsWrong rows (r ∷ records) (Field f) = (length r ≡ 3) × (1 ≤ f) × (f ≤ 3) × (2 ≤ f → ReportGoesOn rows (take (f - 1) r)) × ¬ ReportGoesOn rows (take f r)
IsWrong rows records fault = ⊥

-- the records can be no report from this row on, counted from 1: those before it are the beginning of one
abbrev pub IsFault : List (List (List ℕ)) → ℕ → RowFault → Type 0
IsFault records row fault = (1 ≤ row) × (row ≤ length records + 1) × Opens (take (row - 1) records) × IsWrong (take (row - 1) records) (drop (row - 1) records) fault
