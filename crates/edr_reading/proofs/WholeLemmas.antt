-- The rows of a report, part by part, and those so far.
use Rattle.std.proofs.lemmas.{List.Elements.{All-head, All-tail, All-cons}, Bool.Decides.nat_tests}
use Rattle.std.proofs.lemmas.Map.Keys.{IsDistinct-cons, IsDistinct-head, IsDistinct-tail}
use Rattle.std.proofs.lemmas.List.{map-append, length-map, append-nil}
use Rattle.std.proofs.Common.{arith, ◌≡◌, ◌≢◌, refl, ℕ, false, eqb, List, [], ◌∷◌, ◌++◌, length, ◌∙◌, ap, ap₂, zero, suc, ◌<◌, map, flat_map, get_or, None, codes, append_assoc, sym, subst, ◌+◌, ◌≤◌, ◌^◌, length-append, decimal, Some}
use Rattle.std.specs.List.{AllByRecursion, IsDistinct, All}
use Rattle.edr_image.specs.declared.{Found.Found, BankView.{BankView, TheVariants.{Void, Event, Damaged}}, Ack.Ack}
use Rattle.edr_image.specs.{Banks.found_event, Reports.{Report, StartStopped, Ran}}
use Rattle.edr_reading.specs.Reader.{IsToldReport, whole}
use Rattle.edr_reading.specs.Reading.{HasNoBank, banks_in, IsDamaged, count_fields, damaged_fields, events_fields, last_rows, run_fields, ack_fields, acks_of, cycle_fields, row_of, IsDamagedView, AreDistinct, head_row, report_rows, IsReading, line_fields, FieldRows, event_fields, AreReport}
use Rattle.edr_reading.specs.declared.values.CycleRow.TheVariants as row
use Rattle.edr_record.specs.declared.Record.{Record}
use Rattle.edr_report.specs.{Lines.{Line, line}, Words.shown_count}
use Rattle.edr_report.specs.Report.{report_lines, run_lines, events_lines, found_record, found_records, damaged_lines, ack_line, cycle_lines, event_lines}
use Rattle.edr_text.specs.Numbers.{natural_in}
use Rattle.edr_text.proofs.SpellingLemmas.{decimal-numeral, natural_in-numeral}
use Rattle.edr_report.proofs.PrintedLemmas.{numbered-more}

-- ---- banks that are told once

pub distinct-none : (xs : List Found) → length xs ≡ 0 → AreDistinct xs
unfolding IsDistinct
distinct-none [] e = tt
distinct-none (x ∷ xs) e = absurd (omega (arith, e))

in-all : (P : ℕ → Type 0) (xs : List ℕ) (y : ℕ) (ys : List ℕ) → AllByRecursion P (xs ++ y ∷ ys) → P y
in-all P [] y ys h = h.0
in-all P (x ∷ xs) y ys h = in-all P xs y ys h.1

not-equal : (x y : ℕ) → eqb x y ≡ false → x ≢ y
not-equal x y h e = grind (arith, nat_tests)

are-unequal : (x y : ℕ) → x ≢ y → eqb x y ≡ false
are-unequal x y h = grind (arith, nat_tests)

-- a bank that is told after others is none of them
pub alone : (found : List Found) (b : ℕ) (ys : List ℕ) → IsDistinct eqb (banks_in found ++ b ∷ ys) → HasNoBank found b
alone [] b ys h = λ k d l. absurd (omega (arith, l))
alone (f ∷ found) b ys h = All-cons (λ (g : Found). g.bank ≢ b) f found
    (not-equal f.bank b (in-all (λ y. eqb f.bank y ≡ false) (banks_in found) b ys (IsDistinct-head eqb f.bank (banks_in found ++ b ∷ ys) h)))
    (alone found b ys (IsDistinct-tail eqb f.bank (banks_in found ++ b ∷ ys) h))

all-more : (P : ℕ → Type 0) (xs : List ℕ) (y : ℕ) → AllByRecursion P xs → P y → AllByRecursion P (xs ++ y ∷ [])
all-more P [] y h k = (k, tt)
all-more P (x ∷ xs) y h k = (h.0, all-more P xs y h.1 k)

-- one bank more
pub distinct-more : (found : List Found) (b : ℕ) → IsDistinct eqb (banks_in found) → HasNoBank found b → IsDistinct eqb (banks_in found ++ b ∷ [])
distinct-more [] b h none = IsDistinct-cons eqb b [] tt h
distinct-more (f ∷ found) b h none = IsDistinct-cons eqb f.bank (banks_in found ++ b ∷ [])
    (all-more (λ y. eqb f.bank y ≡ false) (banks_in found) b (IsDistinct-head eqb f.bank (banks_in found) h) (are-unequal f.bank b (All-head (λ (g : Found). g.bank ≢ b) f found none)))
    (distinct-more found b (IsDistinct-tail eqb f.bank (banks_in found) h) (All-tail (λ (g : Found). g.bank ≢ b) f found none))

-- ---- the rows of a report, part by part

no-record : (b : ℕ) (v : BankView) → IsDamagedView v → found_record b v ≡ None
no-record b Void h = absurd h
no-record b (Event r) h = absurd h
no-record b (Damaged o x l) h = refl

records-none : (ds : List Found) → All IsDamaged ds → found_records ds ≡ []
records-none [] h = refl
records-none (d ∷ ds) h = rw (no-record d.bank d.view (All-head IsDamaged d ds h).1) (records-none ds (All-tail IsDamaged d ds h))

records-are : (es : List (ℕ × Record)) (ds : List Found) → All IsDamaged ds → found_records (map found_event es ++ ds) ≡ es
records-are [] ds h = records-none ds h
records-are (e ∷ es) ds h = ap (λ (x : List (ℕ × Record)). e ∷ x) (records-are es ds h)

one-damaged : (f : Found) → IsDamagedView f.view → map line_fields (damaged_lines f.bank f.view) ≡ damaged_fields f ∷ []
one-damaged f h = by f.bank f.view h
  where
    by : (b : ℕ) (v : BankView) → IsDamagedView v → map line_fields (damaged_lines b v) ≡ damaged_fields (record { bank = b; view = v }) ∷ []
    by b Void h = absurd h
    by b (Event r) h = absurd h
    by b (Damaged o x l) h = refl

damaged-are : (ds : List Found) → All IsDamaged ds → map line_fields (flat_map (λ f. damaged_lines f.bank f.view) ds) ≡ map damaged_fields ds
damaged-are [] h = refl
damaged-are (d ∷ ds) h =
    map-append line_fields (damaged_lines d.bank d.view) (flat_map (λ f. damaged_lines f.bank f.view) ds)
    ∙ ap₂ (λ (x y : List (List (List ℕ))). x ++ y) (one-damaged d (All-head IsDamaged d ds h).1) (damaged-are ds (All-tail IsDamaged d ds h))

damaged-all : (es : List (ℕ × Record)) (ds : List Found) → All IsDamaged ds → map line_fields (flat_map (λ f. damaged_lines f.bank f.view) (map found_event es ++ ds)) ≡ map damaged_fields ds
damaged-all [] ds h = damaged-are ds h
damaged-all (e ∷ es) ds h = damaged-all es ds h

-- the rows of a report are those of its run, its events, its damaged banks and its count
pub report-parts : (reports : List Report) (es : List (ℕ × Record)) (ds : List Found) (n : ℕ) → All IsDamaged ds → report_rows reports (map found_event es ++ ds) n ≡ head_row ∷ (run_fields 1 reports ++ (events_fields 1 es ++ last_rows ds n))
unfolding report_lines
report-parts reports es ds n h =
    let found = map found_event es ++ ds in
    let run = run_lines 1 reports in
    let events = events_lines 1 (found_records found) in
    let damaged = flat_map (λ f. damaged_lines f.bank f.view) found in
    let last : List Line = line 0 (codes "ignition cycle, download") (shown_count n) ∷ [] in
    ap (λ (x : List (List (List ℕ))). head_row ∷ x)
    (ap (map line_fields) (append_assoc (run ++ events) damaged last ∙ append_assoc run events (damaged ++ last))
    ∙ map-append line_fields run (events ++ (damaged ++ last))
    ∙ ap (λ (x : List (List (List ℕ))). run_fields 1 reports ++ x)
    (map-append line_fields events (damaged ++ last)
    ∙ ap₂ (λ (x y : List (List (List ℕ))). x ++ y)
    (ap (λ (x : List (ℕ × Record)). events_fields 1 x) (records-are es ds h))
    (map-append line_fields damaged last ∙ ap (λ (x : List (List (List ℕ))). x ++ count_fields n ∷ []) (damaged-all es ds h))))

three : (ls : List Line) (i : ℕ) → i < length ls → length (get_or (map line_fields ls) i []) ≡ 3
three [] i h = absurd (omega (arith, h))
three (l ∷ ls) zero h = refl
three (l ∷ ls) (suc i) h = three ls i (omega (arith, h))

-- each row of a report has three fields
pub all-three : (reports : List Report) (found : List Found) (n i : ℕ) → i < length (report_rows reports found n) → length (get_or (report_rows reports found n) i []) ≡ 3
all-three reports found n zero h = refl
all-three reports found n (suc i) h = three (report_lines reports found n) i (let m = length-map (report_lines reports found n) line_fields in omega (arith, h, m))

-- ---- the rows of a report so far

-- a number has one spelling
pub decimal-same : (m n : ℕ) → m < 2 ^ 64 → n < 2 ^ 64 → decimal m ≡ decimal n → m ≡ n
decimal-same m n h k e =
    let s : Some m ≡ Some n = sym (natural_in-numeral m) ∙ ap natural_in (sym (decimal-numeral m h) ∙ e ∙ decimal-numeral n k) ∙ natural_in-numeral n in
    cc

pub events-first : (k : ℕ) (e : ℕ × Record) (es : List (ℕ × Record)) → events_fields k (e ∷ es) ≡ map line_fields (event_lines k e.0 e.1) ++ events_fields (k + 1) es
events-first k e es = map-append line_fields (event_lines k e.0 e.1) (events_lines (k + 1) es)

pub events-last : (es : List (ℕ × Record)) (e : ℕ × Record) → events_fields 1 (es ++ e ∷ []) ≡ events_fields 1 es ++ map line_fields (event_lines (length es + 1) e.0 e.1)
events-last es e =
    let k : 1 + length es ≡ length es + 1 = omega arith in
    ap (map line_fields) (numbered-more (λ x. event_lines x.0 x.1.0 x.1.1) 1 es e ∙ ap (λ (n : ℕ). events_lines 1 es ++ event_lines n e.0 e.1) k)
    ∙ map-append line_fields (events_lines 1 es) (event_lines (length es + 1) e.0 e.1)

acks-same : (i : ℕ) (log : List Ack) → map line_fields (map (ack_line i) log) ≡ map (ack_fields i) log
acks-same i [] = refl
acks-same i (a ∷ log) = ap (λ (x : List (List (List ℕ))). ack_fields i a ∷ x) (acks-same i log)

pub cycle-lines : (i : ℕ) (r : Report) → map line_fields (cycle_lines i r) ≡ cycle_fields i (row_of r) ∷ map (ack_fields i) (acks_of r)
cycle-lines i (StartStopped j) = refl
cycle-lines i (Ran n s log) = ap (λ (x : List (List (List ℕ))). cycle_fields i (row.Ran n s) ∷ x) (acks-same i log)

-- the rows of cycles begin with those of the first
pub run-first : (i : ℕ) (r : Report) (rs : List Report) (more : List (List (List ℕ))) → run_fields i (r ∷ rs) ++ more ≡ cycle_fields i (row_of r) ∷ (map (ack_fields i) (acks_of r) ++ (run_fields (i + 1) rs ++ more))
run-first i r rs more =
    ap (λ (x : List (List (List ℕ))). x ++ more) (map-append line_fields (cycle_lines i r) (run_lines (i + 1) rs))
    ∙ append_assoc (map line_fields (cycle_lines i r)) (run_fields (i + 1) rs) more
    ∙ ap (λ (x : List (List (List ℕ))). x ++ (run_fields (i + 1) rs ++ more)) (cycle-lines i r)

pub run-last : (rs : List Report) (r : Report) → run_fields 1 (rs ++ r ∷ []) ≡ run_fields 1 rs ++ map line_fields (cycle_lines (length rs + 1) r)
run-last rs r =
    let k : 1 + length rs ≡ length rs + 1 = omega arith in
    ap (map line_fields) (numbered-more (λ x. cycle_lines x.0 x.1) 1 rs r ∙ ap (λ (n : ℕ). run_lines 1 rs ++ cycle_lines n r) k)
    ∙ map-append line_fields (run_lines 1 rs) (cycle_lines (length rs + 1) r)

pub whole-parts : (reports : List Report) (es : List (ℕ × Record)) (ds : List Found) (n : ℕ) → All IsDamaged ds → whole reports es ds ++ count_fields n ∷ [] ≡ report_rows reports (map found_event es ++ ds) n
whole-parts reports es ds n h =
    let run = run_fields 1 reports in
    let events = events_fields 1 es in
    let damaged = map damaged_fields ds in
    let last : FieldRows = count_fields n ∷ [] in
    ap (λ (x : FieldRows). head_row ∷ x) (append_assoc run (events ++ damaged) last ∙ ap (λ (x : FieldRows). run ++ x) (append_assoc events damaged last))
    ∙ sym (report-parts reports es ds n h)

-- a report of what it may tell
pub told-reading : (reports : List Report) (es : List (ℕ × Record)) (ds : List Found) (n : ℕ) (rows : FieldRows) → IsToldReport reports es ds → rows ≡ whole reports es ds ++ count_fields n ∷ [] → length rows ≤ 4_294_967_294
    → (rows ≡ report_rows reports (map found_event es ++ ds) n) × IsReading reports (map found_event es ++ ds) n
told-reading reports es ds n rows h is short =
    let e = is ∙ whole-parts reports es ds n h.damaged in
    (e, record { run = h.run; found = (es, ds, refl, h.events, h.damaged); distinct = h.distinct; short = omega (arith, short, ap length e) })

pub told-report : (reports : List Report) (es : List (ℕ × Record)) (ds : List Found) (n : ℕ) → IsToldReport reports es ds → length (whole reports es ds) + 1 ≤ 4_294_967_294 → AreReport (whole reports es ds ++ count_fields n ∷ [])
told-report reports es ds n h short =
    let l = length-append (whole reports es ds) (count_fields n ∷ []) in
    let t = told-reading reports es ds n (whole reports es ds ++ count_fields n ∷ []) h refl (omega (arith, short, l)) in
    (reports, map found_event es ++ ds, n, t.1, t.0)

pub report-told : (rows : FieldRows) → AreReport rows → (reports : List Report) × (es : List (ℕ × Record)) × (ds : List Found) × (n : ℕ) × IsToldReport reports es ds × (rows ≡ whole reports es ds ++ count_fields n ∷ []) × (length rows ≤ 4_294_967_294)
report-told rows a =
    let h = a.3 in
    let f = h.found in
    let is : rows ≡ report_rows a.0 (map found_event f.0 ++ f.1) a.2 = a.4 ∙ ap (λ (x : List Found). report_rows a.0 x a.2) f.2 in
    (a.0, f.0, f.1, a.2, record { run = h.run; events = f.3; damaged = f.4; distinct = subst AreDistinct f.2 h.distinct }, is ∙ sym (whole-parts a.0 f.0 f.1 a.2 f.4), omega (arith, ap length a.4, h.short))

-- the rows of one cycle, event or damaged bank more
pub whole-cycle : (reports : List Report) (r : Report) → whole (reports ++ r ∷ []) [] [] ≡ whole reports [] [] ++ map line_fields (cycle_lines (length reports + 1) r)
whole-cycle reports r =
    let run = run_fields 1 reports in
    let new = map line_fields (cycle_lines (length reports + 1) r) in
    ap (λ (x : FieldRows). head_row ∷ x) (append-nil (run_fields 1 (reports ++ r ∷ [])) ∙ run-last reports r ∙ ap (λ (x : FieldRows). x ++ new) (sym (append-nil run)))

pub whole-event : (reports : List Report) (es : List (ℕ × Record)) (e : ℕ × Record) → whole reports (es ++ e ∷ []) [] ≡ whole reports es [] ++ event_fields (length es + 1) e.0 e.1
whole-event reports es e =
    let run = run_fields 1 reports in
    let events = events_fields 1 es in
    let new = event_fields (length es + 1) e.0 e.1 in
    ap (λ (x : FieldRows). head_row ∷ x) (
    ap (λ (x : FieldRows). run ++ x) (append-nil (events_fields 1 (es ++ e ∷ [])) ∙ events-last es e ∙ ap (λ (x : FieldRows). x ++ new) (sym (append-nil events)))
    ∙ sym (append_assoc run (events ++ []) new)
    )

pub whole-damaged : (reports : List Report) (es : List (ℕ × Record)) (ds : List Found) (d : Found) → whole reports es (ds ++ d ∷ []) ≡ whole reports es ds ++ damaged_fields d ∷ []
whole-damaged reports es ds d =
    let run = run_fields 1 reports in
    let events = events_fields 1 es in
    let new : FieldRows = damaged_fields d ∷ [] in
    ap (λ (x : FieldRows). head_row ∷ x) (
    ap (λ (x : FieldRows). run ++ (events ++ x)) (map-append damaged_fields ds (d ∷ []))
    ∙ ap (λ (x : FieldRows). run ++ x) (sym (append_assoc events (map damaged_fields ds) new))
    ∙ sym (append_assoc run (events ++ map damaged_fields ds) new)
    )
