-- The lines after those of the cycles: of events, of damaged banks, and of the count.
use Rattle.std.specs.Prelude.{ℕ, ℤ, nat_lt, if◌then◌else◌, Option, None, List, [], ◌∷◌, ◌++◌, fold, take, drop, get_or, codes}
use Rattle.std.specs.Option.{option_map_or}
use Rattle.edr_record.specs.Bounds.{point_count}
use Rattle.edr_record.specs.Parts.{CrashPart}
use Rattle.edr_record.specs.declared.Record.{Record}
use Rattle.edr_image.specs.Banks.{retrieved_banks}
use Rattle.edr_image.specs.Image.{View}
use Rattle.edr_report.specs.Lines.{Line, line}
use Rattle.edr_report.specs.Report.{damage_lines, event_lines, events_lines, found_records}
use Rattle.edr_report.specs.Words.{shown_count}
use Rattle.edr_audit.specs.declared.compared.Compared.{Compared}
use Rattle.edr_audit.specs.Branches.{compare_line}

-- with lines, one after the other
abbrev pub compare_lines : List ℕ → Compared → List Line → Compared
compare_lines report c lines = fold (compare_line report) c lines

-- with some lines of an event, of which the first lacks the number of its block and of its bank
abbrev pub compare_some : ℕ → ℕ → List ℕ → Compared → Record → Compared
compare_some first count report c r = compare_lines report c (take count (drop first (event_lines 0 0 r)))

-- words that stand in this place of a list: after a space, unless they are the first
abbrev pub parted : ℕ → List ℕ → List ℕ
parted place words = if nat_lt 0 place then 32 ∷ words else words

-- the points of an axis that the end allows
abbrev pub shown_along : CrashPart → List ℤ
shown_along c = take (point_count c.end) c.along

abbrev pub shown_across : CrashPart → List ℤ
shown_across c = take (point_count c.end) c.across

-- when a restraint fired first, by its place among the eight
abbrev pub first_firing : Record → ℕ → Option ℕ
first_firing r k = option_map_or (λ c. get_or c.fired k None) r.crash None

-- the lines after those of the cycles
abbrev pub tail_lines : View → List Line
tail_lines w =
    let found = retrieved_banks w.store.banks in
    events_lines 1 (found_records found) ++ damage_lines found ++ line 0 (codes "ignition cycle, download") (shown_count w.count) ∷ []
