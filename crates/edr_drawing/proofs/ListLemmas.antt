-- Lists that functions go over: what is counted up, the events that were found, and the rows of lines.
use Rattle.std.proofs.Common.{◌≡◌, ◌∙◌, refl, ap, ℕ, ◌+◌, List, [], ◌∷◌, ◌++◌, add-one, map, flat_map}
use Rattle.std.specs.List.{enumerate_from}
use Rattle.std.proofs.lemmas.Grind.{flat_map-append}
use Rattle.edr_image.specs.{Reports.{Report, StartStopped, Ran}, declared.{Ack.{Ack}, Found.{Found}}}
use Rattle.edr_report.specs.{Report.{ack_line, cycle_lines, found_records, run_lines}}
use Rattle.edr_drawing.specs.{Page.{NumberedRecord}, Scales.{flat_map_below}, Tables.{line_row, row_of}}

-- one more number gives its part after those before it
pub counted_more : (f : ℕ → List ℕ) (n : ℕ) → flat_map_below f (n + 1) ≡ flat_map_below f n ++ f n
counted_more f n = ap (flat_map_below f) (add-one n)

-- the events from number n on
abbrev pub events_from : ℕ → List Found → List NumberedRecord
events_from n found = enumerate_from n (found_records found)

-- ---- the rows of the lines of cycles, word for word: none has the name of a list, or that before which a second table begins

ack_rows : (i : ℕ) (log : List Ack) → flat_map line_row (map (ack_line i) log) ≡ flat_map row_of (map (ack_line i) log)
ack_rows i [] = refl
ack_rows i (a ∷ log) = ap (λ (bs : List ℕ). row_of (ack_line i a) ++ bs) (ack_rows i log)

cycle_rows : (i : ℕ) (r : Report) → flat_map line_row (cycle_lines i r) ≡ flat_map row_of (cycle_lines i r)
cycle_rows i (StartStopped j) = refl
cycle_rows i (Ran n stop log) = rw (ack_rows i log) refl

pub run_rows : (i : ℕ) (rs : List Report) → flat_map line_row (run_lines i rs) ≡ flat_map row_of (run_lines i rs)
run_rows i [] = refl
run_rows i (r ∷ rs) =
    let parts = flat_map-append row_of (cycle_lines i r) (run_lines (i + 1) rs) in
    flat_map-append line_row (cycle_lines i r) (run_lines (i + 1) rs) ∙ cc (parts, cycle_rows i r, run_rows (i + 1) rs)
