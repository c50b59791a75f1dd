-- Where a text can be no report, and what was read of one that is.
use Rattle.std.proofs.Math.Seq.{get_or-append_seam, take-length}
use Rattle.std.proofs.Common.{arith, ◌≡◌, ◌≢◌, ◌∙◌, sym, ap, subst, refl, ℕ, zero, suc, ◌<◌, ◌≤◌, ◌+◌, ◌-◌, min, map, List, [], ◌∷◌, ◌++◌, length, length-append, take, drop, get_or, decimal, length-take-le, Option, Bool, Result, Ok, Err}
use Rattle.std.proofs.lemmas.List.{drop_all, take_all, append-nil, take-append-drop, drop_more, get_or-map, length-map, take_more}
use Rattle.edr_report.specs.{Report.report_lines, declared.TheConstants.LARGEST_SHOWN_COUNT}
use Rattle.edr_report.specs.{declared.event_lines.EventLine.TheVariants.Number, EventWords.event_words}
use Rattle.edr_reading.proofs.{WholeLemmas.{distinct-none, all-three, told-reading}, BetweenLemmas.{between-count, some-rows}}
use Rattle.edr_reading.proofs.EventLemmas.{event_names, inside-count, lines}
use Rattle.edr_reading.specs.declared.reading.{RowFault.{RowFault, TheVariants.{Fields, Field, Unended}}, Reading.Reading}
use Rattle.edr_reading.specs.declared.reading.ReportRefused.{ReportRefused, TheVariants.{Fault, OutOfMemory}}
use Rattle.edr_reading.specs.declared.{reader.{NextRow.NextRow, Reader.Reader}, values.CycleRow.CycleRow}
use Rattle.edr_reading.specs.Reader.{HasReadRows, IsBetween, IsRefused, IsRowRefusal, StandsNext, cycles_read}
use Rattle.edr_reading.specs.Reading.{line_fields, FieldRows, event_fields, AreReport, Opens, ReportGoesOn, IsFault, IsWrong, IsReading, head_row, report_rows, rows_told, count_fields, event_of}
use Rattle.edr_reading.specs.declared.reading.RowFault.TheVariants as fault
use Rattle.edr_reading.specs.declared.reader.NextRow.TheVariants as next
use Rattle.edr_reading.specs.declared.reader.Refused.TheVariants as refused
use Rattle.edr_record.specs.declared.Record.{Record}
use Rattle.edr_image.specs.{declared.Found.Found, Banks.found_event, Reports.Report}
use Rattle.edr_spell.specs.Spell.{RecordsOf}
use Rattle.std.specs.Result.{IfErr, IfOk, result_or}

-- ---- the first row of a text that is no report

pub reading-none : IsReading [] [] 0
unfolding report_lines
reading-none = record {
  run = λ k d h. absurd (omega (arith, h));
  found = ([], [], refl, (λ k d h. absurd (omega (arith, h))), (λ k d h. absurd (omega (arith, h))));
  distinct = distinct-none [] refl;
  short = omega arith;
}

-- the first row of a report begins with the first fields of the row that names the columns
pub goes-on-head : (front back : List (List ℕ)) → front ++ back ≡ head_row → ReportGoesOn [] front
goes-on-head front back e = (back, map line_fields (report_lines [] [] 0), ([], [], 0, reading-none, ap (λ (r : List (List ℕ)). r ∷ map line_fields (report_lines [] [] 0)) e))

-- a row of a report has three fields
pub row-three : (xs : List (List (List ℕ))) (r : List (List ℕ)) (rs : List (List (List ℕ))) → AreReport (xs ++ r ∷ rs) → length r ≡ 3
row-three xs r rs a =
    let long = length-append xs (r ∷ rs) in
    let at : length xs < length (report_rows a.0 a.1 a.2) = omega (arith, long, ap length a.4) in
    ap length (sym (get_or-append_seam xs r rs []) ∙ ap (λ (rows : List (List (List ℕ))). get_or rows (length xs) []) a.4) ∙ all-three a.0 a.1 a.2 (length xs) at

-- a report that goes on with a row goes on with its first fields
pub goes-on-front : (xs : List (List (List ℕ))) (r : List (List ℕ)) (rs : List (List (List ℕ))) (f : ℕ) → AreReport (xs ++ r ∷ rs) → ReportGoesOn xs (take f r)
goes-on-front xs r rs f a = (drop f r, rs, subst (λ (q : List (List ℕ)). AreReport (xs ++ q ∷ rs)) (sym (take-append-drop f r)) a)

wrong-none : (xs ys : List (List (List ℕ))) (f : RowFault) → IsWrong xs ys f → AreReport (xs ++ ys) → ⊥
wrong-none xs [] Unended w a = w (subst AreReport (append-nil xs) a)
wrong-none xs [] (Fields n) w a = w
wrong-none xs [] (Field f) w a = w
wrong-none xs (r ∷ rs) Unended w a = w
wrong-none xs (r ∷ rs) (Fields n) w a = w.1 (row-three xs r rs a)
wrong-none xs (r ∷ rs) (Field f) w a = w.4 (goes-on-front xs r rs f a)

-- records with a fault are those of no report
pub fault-is-none : (records : List (List (List ℕ))) (row : ℕ) (f : RowFault) → IsFault records row f → ¬ AreReport records
fault-is-none records row f h a = wrong-none (take (row - 1) records) (drop (row - 1) records) f h.3 (subst AreReport (sym (take-append-drop (row - 1) records)) a)

-- the fault of the first of the records after those with which a report begins
pub fault-after : (records : List (List (List ℕ))) (k : ℕ) (f : RowFault) → k ≤ length records → Opens (take k records) → IsWrong (take k records) (drop k records) f → IsFault records (k + 1) f
fault-after records k f h o w =
    let e : k ≡ k + 1 - 1 = omega arith in
    (omega arith, omega (arith, h), subst (λ (j : ℕ). Opens (take j records)) e o, subst (λ (j : ℕ). IsWrong (take j records) (drop j records) f) e w)

pub wrong-fields : (xs records : List (List (List ℕ))) (k n : ℕ) → k < length records → n ≡ min (length (get_or records k [])) 4_294_967_295 → length (get_or records k []) ≢ 3 → IsWrong xs (drop k records) (Fields n)
wrong-fields xs [] k n h m other = absurd (omega (arith, h))
wrong-fields xs (r ∷ rs) zero n h m other = (m, other)
wrong-fields xs (r ∷ rs) (suc k) n h m other = wrong-fields xs rs k n (omega (arith, h)) m other

pub wrong-end : (records : List (List (List ℕ))) (k : ℕ) → length records ≤ k → ¬ AreReport records → IsWrong (take k records) (drop k records) Unended
wrong-end records k h n = rw (take_all k records h, drop_all k records h) n

-- ---- what was read begins a report

stands-opens : (n : NextRow) (last : Option CycleRow) (reports : List Report) (found : List Found) (rows : FieldRows) → StandsNext n last reports found rows → Opens rows
stands-opens next.Head last reports found rows s = subst Opens (sym s.3) (report_rows [] [] 0, ([], [], 0, reading-none, refl))
stands-opens next.Run last reports found rows s = (count_fields 0 ∷ [], between-count s.1)
stands-opens next.Events last reports found rows s = (count_fields 0 ∷ [], between-count s.2)
stands-opens (next.Line k p) last reports found rows s =
    let e = event_of p in
    let block = length s.0 + 1 in
    ((decimal block ∷ get_or event_names k [] ∷ event_words block e.0 e.1 (get_or lines k Number) ∷ []) ∷ (drop (k + 1) (event_fields block e.0 e.1) ++ count_fields 0 ∷ []), inside-count s.2)
stands-opens next.Damaged last reports found rows s = (count_fields 0 ∷ [], between-count s.3)
stands-opens (next.Nothing n) last reports found rows s =
    let t = told-reading reports s.0 s.1 n rows s.3 s.4 s.5 in
    ([], subst AreReport (sym (append-nil rows)) (reports, map found_event s.0 ++ s.1, n, t.1, t.0))

between-none : {a c v : Bool} {reports : List Report} {es : List (ℕ × Record)} {ds : List Found} {rows : FieldRows} → IsBetween a c v reports es ds rows → AreReport rows → ⊥
between-none {rows = rows} h r = let z = some-rows (h.rest [] (subst AreReport (sym (append-nil rows)) r)) in omega (arith, z)

stands-none : (n : NextRow) (last : Option CycleRow) (reports : List Report) (found : List Found) (rows : FieldRows) → StandsNext n last reports found rows → ((k : ℕ) → n ≡ next.Nothing k → ⊥) → AreReport rows → ⊥
stands-none next.Head last reports found rows s other = λ r. let e = ap length (subst AreReport s.3 r).4 in omega (arith, e)
stands-none next.Run last reports found rows s other = between-none s.1
stands-none next.Events last reports found rows s other = between-none s.2
stands-none (next.Line k p) last reports found rows s other = (s.3).0
stands-none next.Damaged last reports found rows s other = between-none s.3
stands-none (next.Nothing n) last reports found rows s other = absurd (other n refl)

-- ---- faults

fault-next : (r : Reader) (records : FieldRows) (i : ℕ) (f : RowFault) → i < length records → HasReadRows r (take i records) → IsWrong (take i records) (drop i records) f → IsFault records (r.rows + 1) f
fault-next r records i f less h w =
    subst (λ (k : ℕ). IsFault records (k + 1) f) (sym (h.count ∙ length-take-le i records (omega (arith, less))))
    (fault-after records i f (omega (arith, less)) (stands-opens r.next r.last (cycles_read r) r.found.items (take i records) h.stands) w)

pub field-fault : (r : Reader) (records : FieldRows) (i f : ℕ) → i < length records → HasReadRows r (take i records) → IsRefused (take i records) (get_or records i []) (refused.Field f) → IsFault records (r.rows + 1) (fault.Field f)
field-fault r records i f less h w =
    fault-next r records i (fault.Field f) less h (subst (λ (x : FieldRows). IsWrong (take i records) x (fault.Field f)) (sym (drop_more records i [] less)) (w (drop (i + 1) records)))

pub length-fault : (r : Reader) (records : FieldRows) (i n : ℕ) → i < length records → HasReadRows r (take i records) → n ≡ min (length (get_or records i [])) 4_294_967_295 → length (get_or records i []) ≢ 3 → IsFault records (r.rows + 1) (fault.Fields n)
length-fault r records i n less h is other = fault-next r records i (fault.Fields n) less h (wrong-fields (take i records) records i n less is other)

pub end-fault : (r : Reader) (records : FieldRows) → HasReadRows r records → ((k : ℕ) → r.next ≡ next.Nothing k → ⊥) → IsFault records (r.rows + 1) fault.Unended
end-fault r records h other =
    let all : take (length records) records ≡ records = take-length records in
    subst (λ (k : ℕ). IsFault records (k + 1) fault.Unended) (sym h.count)
    (fault-after records (length records) fault.Unended (omega arith) (subst Opens (sym all) (stands-opens r.next r.last (cycles_read r) r.found.items records h.stands))
    (wrong-end records (length records) (omega arith) (stands-none r.next r.last (cycles_read r) r.found.items records h.stands other)))

-- ---- what was read

pub end-read : (r : Reader) (records : FieldRows) (n : ℕ) (run : List Report) (found : List Found) → HasReadRows r records → r.next ≡ next.Nothing n → run ≡ cycles_read r → found ≡ r.found.items
    → (records ≡ report_rows run found n) × IsReading run found n × (n ≤ LARGEST_SHOWN_COUNT)
end-read r records n run found h e runs founds =
    let s = subst (λ (x : NextRow). StandsNext x r.last (cycles_read r) r.found.items records) e h.stands in
    let t = told-reading (cycles_read r) s.0 s.1 n records s.3 s.4 s.5 in
    let told = subst (λ (x : List Found). (records ≡ report_rows (cycles_read r) x n) × IsReading (cycles_read r) x n) (sym (founds ∙ s.2)) t in
    let all = subst (λ (x : List Report). (records ≡ report_rows x found n) × IsReading x found n) (sym runs) told in
    (all.0, all.1, s.7)

-- the record in this place, by its fields
pub record-at : {X : Type 0} (f : X → List (List ℕ)) (xs : List X) (i : ℕ) (x : X) → i < length xs → x ≡ get_or xs i x → (i < length (map f xs)) × (get_or (map f xs) i [] ≡ f x)
record-at f xs i x less is = let long = length-map xs f in (omega (arith, less, long), get_or-map f xs i x [] less ∙ ap f (sym is))

-- one record more
pub read-more : (r : Reader) (records : FieldRows) (i : ℕ) (row : List (List ℕ)) → i < length records → row ≡ get_or records i [] → HasReadRows r (take i records ++ row ∷ []) → HasReadRows r (take (i + 1) records)
read-more r records i row less is h = subst (HasReadRows r) (ap (λ (x : List (List ℕ)). take i records ++ x ∷ []) is ∙ sym (take_more records i [] less)) h

-- ---- the records of a text

pub memory-alone : (records : FieldRows) (res : Result Reading ReportRefused) → IfErr res (IsRowRefusal records) → AreReport records → IfErr res (λ e. e ≡ OutOfMemory)
memory-alone records (Ok r) h a = tt
memory-alone records (Err (Fault row f)) h a = absurd (fault-is-none records row f h a)
memory-alone records (Err OutOfMemory) h a = refl

pub rows-read : (bytes : List ℕ) (records : FieldRows) (res : Result Reading ReportRefused) → RecordsOf bytes records → IfOk res (λ r. records ≡ rows_told r) → IfOk res (λ r. RecordsOf bytes (rows_told r))
rows-read bytes records (Ok r) are h = subst (RecordsOf bytes) h are
rows-read bytes records (Err e) are h = tt

-- what `or(Err(..))?` lets through
pub or-ok : {A E D : Type 0} (r : Result A E) (d : D) (x : A) → ◌≡◌ {A = Result A D} (Ok x) (result_or r (Err d)) → r ≡ Ok x
or-ok (Ok y) d x is = let same : x ≡ y = cc in ap Ok (sym same)
or-ok (Err e) d x is = cc
