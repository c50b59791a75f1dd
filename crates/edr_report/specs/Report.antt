-- The lines of a report: of the cycles in block 0, of each event in a block of its own, and of damaged banks in block 0.
use Rattle.std.specs.Prelude.{ℕ, Option, Some, None, List, [], ◌∷◌, ◌++◌, map, flat_map, filter_map, codes, decimal}
use Rattle.std.specs.List.{enumerate_from}
use Rattle.edr_record.specs.declared.Record.{Record}
use Rattle.edr_image.specs.declared.{Ack.Ack, BankView.{BankView, TheVariants.{Event, Damaged}}, Found.Found}
use Rattle.edr_image.specs.{Banks.{Store, retrieved_banks}, Reports.{Report, StartStopped, Ran}}
use Rattle.edr_report.specs.declared.event_lines.{EventLine.EventLine, TheConstants.LINES_OF_EVENT}
use Rattle.edr_report.specs.{EventWords.event_words, Lines.{Line, line, text_of, table_of}}
use Rattle.edr_report.specs.Words.{cycle_words, ack_words, bank_words, applied_words, stop_words, shown_count, damage_words}

-- an acknowledged command of the cycle in place i of the run
abbrev pub ack_line : ℕ → Ack → Line
ack_line i a = line 0 (ack_words i a.kind a.tick) (applied_words a.applied)

-- the lines of the cycle in place i of the run
abbrev pub cycle_lines : ℕ → Report → List Line
cycle_lines i (StartStopped j) = line 0 (cycle_words i) (codes "start stopped in call " ++ decimal j) ∷ []
cycle_lines i (Ran n stop log) =
    line 0 (cycle_words i) (codes "number " ++ decimal n ++ codes ", " ++ stop_words stop) ∷ map (ack_line i) log

-- a line, with its name, of the event in place `block` of the retrieved ones
abbrev pub event_line : ℕ → ℕ → Record → List ℕ → EventLine → Line
event_line block bank r name l = line block name (event_words block bank r l)

-- all its lines
unfoldable pub event_lines : ℕ → ℕ → Record → List Line
event_lines block bank r = map (λ l. event_line block bank r l.0.now l.1) LINES_OF_EVENT

-- the record of an event with its bank's number, if it is one
abbrev pub found_record : ℕ → BankView → Option (ℕ × Record)
found_record bank (Event r) = Some (bank, r)
found_record bank view = None

abbrev pub found_records : List Found → List (ℕ × Record)
found_records found = filter_map (λ f. found_record f.bank f.view) found

-- the line of a damaged bank
abbrev pub damaged_lines : ℕ → BankView → List Line
damaged_lines bank (Damaged o x l) = line 0 (bank_words bank) (damage_words o x l) ∷ []
damaged_lines bank view = []

-- the lines of the damaged banks that were found
abbrev pub damage_lines : List Found → List Line
damage_lines found = flat_map (λ f. damaged_lines f.bank f.view) found

-- the lines of cycles, the first of which is in this place of the run
abbrev pub run_lines : ℕ → List Report → List Line
run_lines i reports = flat_map (λ r. cycle_lines r.0 r.1) (enumerate_from i reports)

-- the lines of events, the first of which has this number
abbrev pub events_lines : ℕ → List (ℕ × Record) → List Line
events_lines block events = flat_map (λ e. event_lines e.0 e.1.0 e.1.1) (enumerate_from block events)

-- all lines of a report of cycles, of what was found in the banks, and of the count of ignition cycles
unfoldable pub report_lines : List Report → List Found → ℕ → List Line
report_lines reports found count =
    run_lines 1 reports
    ++ events_lines 1 (found_records found)
    ++ damage_lines found
    ++ line 0 (codes "ignition cycle, download") (shown_count count)
    ∷ []

-- the bytes of the report of a run, as text and as a table
abbrev pub report_text : List Report → Store → ℕ → List ℕ
report_text reports v count = text_of (report_lines reports (retrieved_banks v.banks) count)

abbrev pub report_table : List Report → Store → ℕ → List ℕ
report_table reports v count = table_of (report_lines reports (retrieved_banks v.banks) count)
