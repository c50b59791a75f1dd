-- What the next row of a report may be, and how a reader between events takes it or refuses it.
use Rattle.std.proofs.lemmas.List.{map-append, Elements.{All-head, All-tail, All-append, All-cons, All-take}}
use Rattle.std.proofs.Math.Seq.{take-append_seam}
use Rattle.std.proofs.Common.{arith, ◌≡◌, ◌∙◌, sym, ap, subst, refl, ℕ, ◌+◌, ◌≤◌, ◌⊎◌, inl, inr, Bool, true, false, eqb, List, [], ◌∷◌, ◌++◌, map, length, append_assoc, length-append, decimal, Option, Some, None, ◌<◌, ◌^◌, ⊎_elim, codes}
use Rattle.std.specs.List.{All, IsDistinct, slice_index_or}
use Rattle.edr_record.specs.{declared.Record.Record, Parts.CrashPart}
use Rattle.edr_image.specs.declared.{Ack.Ack, Applied.Applied, BankView.BankView, Found.Found}
use Rattle.edr_image.specs.{Reports.{Report, StartStopped, Ran}, Banks.found_event}
use Rattle.edr_report.specs.{Report.{cycle_lines, event_lines}, Words.{applied_words, shown_count}}
use Rattle.edr_reading.specs.declared.values.{CycleRow.CycleRow, ToldName.ToldName}
use Rattle.edr_reading.specs.Reading.{EventAgrees, PartsAgree, IsAck, IsCycleRow, IsDamaged, IsEvent, IsReport, IsToldName, ack_fields, acks_of, banks_in, count_fields, cycle_fields, damaged_fields, events_fields, last_rows, name_words, row_of, row_words, run_fields, IsApplied, IsDamagedView, view_words, FieldRows, event_fields, line_fields, AreReport, ReportGoesOn, head_row}
use Rattle.edr_reading.specs.Reader.{MayFollow, MayFollowLine, may_ack, IsBetween, IsRefused, IsToldReport, last_cycle, whole}
use Rattle.edr_reading.specs.declared.values.ToldName.TheVariants as name
use Rattle.edr_reading.specs.declared.reader.Refused.TheVariants as refused
use Rattle.edr_reading.specs.declared.values.CycleRow.TheVariants as row
use Rattle.edr_reading.proofs.WholeLemmas.{events-first, run-first, cycle-lines, decimal-same, report-told, told-report, whole-cycle, distinct-none}

-- ---- what the next row of a report may be

pub none : {X : Type 0} (P : X → Type 0) → All P []
none P = λ k d l. absurd (omega (arith, l))

-- what a row of block 0 with this name and value says, and what follows it
abbrev pub ToldNext : Bool → Bool → Bool → ℕ → ℕ → List ℕ → List ℕ → FieldRows → ToldName → Type 0
ToldNext a c v cycles block banks value more name.Cycle =
    (c ≡ true) × (first : CycleRow) × IsCycleRow first × (value ≡ row_words first) × MayFollow (may_ack (Some first)) c v (cycles + 1) block banks more
ToldNext a c v cycles block banks value more (name.Ack k t) =
    (a ≡ true) × (applied : Applied) × IsApplied k applied × (value ≡ applied_words applied) × MayFollow a c v cycles block banks more
ToldNext a c v cycles block banks value more (name.Bank b) =
    (view : BankView) × IsDamagedView view × (value ≡ view_words view) × (left : List ℕ) × IsDistinct eqb (banks ++ b ∷ left) × MayFollow false false false cycles block (banks ++ b ∷ []) more
ToldNext a c v cycles block banks value more name.Count = (n : ℕ) × (value ≡ shown_count n) × (more ≡ [])

-- a row of block 0, or the first of an event
abbrev pub IsNextRow : Bool → Bool → Bool → ℕ → ℕ → List ℕ → List (List ℕ) → FieldRows → Type 0
IsNextRow a c v cycles block banks r more =
    ((x : ToldName) × IsToldName x × (value : List ℕ) × (r ≡ decimal 0 ∷ name_words cycles x ∷ value ∷ []) × ToldNext a c v cycles block banks value more x)
    ⊎ ((v ≡ true) × (slice_index_or r 0 [] ≡ decimal block) × (ℕ × Record) × ((e : ℕ × Record) → MayFollowLine 0 block banks e (r ∷ more)))

is-true : (b : Bool) → (b ≡ false → ⊥) → b ≡ true
is-true true h = refl
is-true false h = absurd (h refl)

not-nil : {X : Type 0} (x : X) (xs : List X) → x ∷ xs ≡ [] → ⊥
not-nil x xs e = cc

no-acks-of : (r : Report) → may_ack (Some (row_of r)) ≡ false → acks_of r ≡ []
no-acks-of (StartStopped j) h = refl
no-acks-of (Ran n s log) h = cc

never : {P : Type 0} (n : ℕ) → n + 1 ≤ 0 → P
never n h = absurd (omega (arith, h))

pub no-agreement : (e f : ℕ × Record) → EventAgrees 0 e f
no-agreement e f = record {
  bank = never 1;
  before = record { events = never 2; profile = never 5; speed = never 6; throttle = never 7; brake = never 8; belt = never 9; lamp = never 10 };
  after = by e.1.crash f.1.crash;
}
  where
    by : (c d : Option CrashPart) → PartsAgree 0 c d
    by None None = tt
    by None (Some d) = refl
    by (Some c) None = refl
    by (Some c) (Some d) = record { end = never 0; missing_along = never 6; missing_across = never 6 }

first-block : (block bank : ℕ) (r : Record) (xs : FieldRows) (row : List (List ℕ)) (more : FieldRows) → row ∷ more ≡ event_fields block bank r ++ xs → slice_index_or row 0 [] ≡ decimal block
unfolding event_lines
first-block block bank r xs row more e = ap (λ (rows : FieldRows). slice_index_or (slice_index_or rows 0 []) 0 []) e

pub next-row : {a c v : Bool} {cycles block : ℕ} {banks : List ℕ} (r : List (List ℕ)) (more : FieldRows) → MayFollow a c v cycles block banks (r ∷ more) → IsNextRow a c v cycles block banks r more
next-row {a} {c} {v} {cycles} {block} {banks} r more m = by m.acks m.reports m.events m.damaged m.bounds m.no_acks m.no_reports m.no_events m.distinct m.are
  where
    by : (acks : List Ack) (reports : List Report) (events : List (ℕ × Record)) (damaged : List Found) → All IsAck acks × All IsReport reports × All IsEvent events × All IsDamaged damaged
        → (a ≡ false → acks ≡ []) → (c ≡ false → reports ≡ []) → (v ≡ false → events ≡ []) → IsDistinct eqb (banks ++ (map (λ e. e.0) events ++ banks_in damaged))
        → r ∷ more ≡ map (ack_fields cycles) acks ++ (run_fields (cycles + 1) reports ++ (events_fields block events ++ last_rows damaged m.count)) → IsNextRow a c v cycles block banks r more
    by (k ∷ acks) reports events damaged h na nr ne dis are =
        let tail = run_fields (cycles + 1) reports ++ (events_fields block events ++ last_rows damaged m.count) in
        let head : r ≡ ack_fields cycles k = cc in
        let rest : more ≡ map (ack_fields cycles) acks ++ tail = cc in
        let bounds = All-head IsAck k acks h.0 in
        let going : a ≡ true = is-true a (λ f. not-nil k acks (na f)) in
        inl (name.Ack k.kind k.tick, bounds.0, applied_words k.applied, head, (going, k.applied, bounds.1, refl, record { acks = acks; reports = reports; events = events; damaged = damaged; count = m.count; bounds = (All-tail IsAck k acks h.0, h.1, h.2, h.3); no_acks = λ f. absurd (not-nil k acks (na f)); no_reports = nr; no_events = ne; distinct = dis; are = rest }))
    by [] (k ∷ reports) events damaged h na nr ne dis are =
        let tail = events_fields block events ++ last_rows damaged m.count in
        let is : r ∷ more ≡ cycle_fields (cycles + 1) (row_of k) ∷ (map (ack_fields (cycles + 1)) (acks_of k) ++ (run_fields (cycles + 1 + 1) reports ++ tail)) = are ∙ run-first (cycles + 1) k reports tail in
        let head : r ≡ cycle_fields (cycles + 1) (row_of k) = cc in
        let rest : more ≡ map (ack_fields (cycles + 1)) (acks_of k) ++ (run_fields (cycles + 1 + 1) reports ++ tail) = cc in
        let bounds = All-head IsReport k reports h.1 in
        inl (name.Cycle, tt, row_words (row_of k), head, (is-true c (λ f. not-nil k reports (nr f)), row_of k, bounds.0, refl, record { acks = acks_of k; reports = reports; events = events; damaged = damaged; count = m.count; bounds = (bounds.1, All-tail IsReport k reports h.1, h.2, h.3); no_acks = no-acks-of k; no_reports = λ f. absurd (not-nil k reports (nr f)); no_events = ne; distinct = dis; are = rest }))
    by [] [] (k ∷ events) damaged h na nr ne dis are =
        let last = last_rows damaged m.count in
        let is : r ∷ more ≡ event_fields block k.0 k.1 ++ (events_fields (block + 1) events ++ last) = are ∙ ap (λ (x : FieldRows). x ++ last) (events-first block k events) ∙ append_assoc (event_fields block k.0 k.1) (events_fields (block + 1) events) last in
        let left = map (λ (e : ℕ × Record). e.0) events ++ banks_in damaged in
        let now : IsDistinct eqb ((banks ++ k.0 ∷ []) ++ left) = subst (IsDistinct eqb) (sym (append_assoc banks (k.0 ∷ []) left)) dis in
        let follow : (i : ℕ) → MayFollow false false true i (block + 1) (banks ++ k.0 ∷ []) (events_fields (block + 1) events ++ last) = λ i. record { acks = []; reports = []; events = events; damaged = damaged; count = m.count; bounds = (none IsAck, none IsReport, All-tail IsEvent k events h.2, h.3); no_acks = λ f. refl; no_reports = λ f. refl; no_events = λ f. cc; distinct = now; are = refl } in
        inr (is-true v (λ f. not-nil k events (ne f)), first-block block k.0 k.1 (events_fields (block + 1) events ++ last) r more is, k, (λ e. record { event = k; bounds = All-head IsEvent k events h.2; agrees = no-agreement e k; after = _; follow = follow; are = is }))
    by [] [] [] (k ∷ damaged) h na nr ne dis are =
        let head : r ≡ damaged_fields k = cc in
        let rest : more ≡ last_rows damaged m.count = cc in
        let bounds = All-head IsDamaged k damaged h.3 in
        let now : IsDistinct eqb ((banks ++ k.bank ∷ []) ++ banks_in damaged) = subst (IsDistinct eqb) (sym (append_assoc banks (k.bank ∷ []) (banks_in damaged))) dis in
        inl (name.Bank k.bank, bounds.0, view_words k.view, head, (k.view, bounds.1, refl, banks_in damaged, dis, record { acks = []; reports = []; events = []; damaged = damaged; count = m.count; bounds = (h.0, h.1, h.2, All-tail IsDamaged k damaged h.3); no_acks = λ f. refl; no_reports = λ f. refl; no_events = λ f. refl; distinct = now; are = rest }))
    by [] [] [] [] h na nr ne dis are =
        let head : r ≡ count_fields m.count = cc in
        let rest : more ≡ [] = cc in
        inl (name.Count, tt, shown_count m.count, head, (m.count, refl, rest))

-- there is at least the count
pub some-rows : {a c v : Bool} {cycles block : ℕ} {banks : List ℕ} {more : FieldRows} → MayFollow a c v cycles block banks more → 1 ≤ length more
some-rows {cycles = cycles} {block = block} m =
    let last = last_rows m.damaged m.count in
    let e1 = length-append (map (ack_fields cycles) m.acks) (run_fields (cycles + 1) m.reports ++ (events_fields block m.events ++ last)) in
    let e2 = length-append (run_fields (cycles + 1) m.reports) (events_fields block m.events ++ last) in
    let e3 = length-append (events_fields block m.events) last in
    omega (arith, ap length m.are, e1, e2, e3, length-append (map damaged_fields m.damaged) (count_fields m.count ∷ []))

-- ---- lists

pub All-last : {X : Type 0} (P : X → Type 0) (xs : List X) (x : X) → All P xs → P x → All P (xs ++ x ∷ [])
All-last P xs x h k = All-append P xs (x ∷ []) h (All-cons P x [] k (none P))

pub All-front : {X : Type 0} (P : X → Type 0) (xs ys : List X) → All P (xs ++ ys) → All P xs
All-front P xs ys h = subst (All P) (take-append_seam xs ys) (All-take P (length xs) (xs ++ ys) h)

pub at-end : {X : Type 0} (P : X → Type 0) (xs : List X) (x : X) → All P (xs ++ x ∷ []) → P x
at-end P [] x h = h 0 x (omega arith)
at-end P (y ∷ xs) x h = at-end P xs x (All-tail P y (xs ++ x ∷ []) h)

pub banks-split : (es : List (ℕ × Record)) (ds : List Found) → banks_in (map found_event es ++ ds) ≡ map (λ e. e.0) es ++ banks_in ds
banks-split [] ds = refl
banks-split (e ∷ es) ds = ap (λ (x : List ℕ). e.0 ∷ x) (banks-split es ds)

pub banks-last : (found : List Found) (f : Found) → banks_in (found ++ f ∷ []) ≡ banks_in found ++ f.bank ∷ []
banks-last found f = map-append (λ (g : Found). g.bank) found (f ∷ [])

pub found-last : (es : List (ℕ × Record)) (f : ℕ × Record) → map found_event (es ++ f ∷ []) ≡ map found_event es ++ found_event f ∷ []
found-last es f = map-append found_event es (f ∷ [])

pub banks-more : (es : List (ℕ × Record)) (f : ℕ × Record) → banks_in (map found_event (es ++ f ∷ [])) ≡ banks_in (map found_event es) ++ f.0 ∷ []
banks-more es f = ap banks_in (found-last es f) ∙ banks-last (map found_event es) (found_event f)

-- ---- refusals

pub refuse-1 : (rows : FieldRows) (b w v : List ℕ) → ¬ ReportGoesOn rows (b ∷ []) → IsRefused rows (b ∷ w ∷ v ∷ []) (refused.Field 1)
refuse-1 rows b w v n = λ more. (refl, omega arith, omega arith, (λ h. absurd (omega (arith, h))), n)

pub refuse-2 : (rows : FieldRows) (b w v : List ℕ) → ReportGoesOn rows (b ∷ []) → ¬ ReportGoesOn rows (b ∷ w ∷ []) → IsRefused rows (b ∷ w ∷ v ∷ []) (refused.Field 2)
refuse-2 rows b w v g n = λ more. (refl, omega arith, omega arith, (λ h. g), n)

pub refuse-3 : (rows : FieldRows) (b w v : List ℕ) → ReportGoesOn rows (b ∷ w ∷ []) → ¬ ReportGoesOn rows (b ∷ w ∷ v ∷ []) → IsRefused rows (b ∷ w ∷ v ∷ []) (refused.Field 3)
refuse-3 rows b w v g n = λ more. (refl, omega arith, omega arith, (λ h. g), n)

-- ---- the rows so far begin a report

module _ {a c v : Bool} {reports : List Report} {es : List (ℕ × Record)} {ds : List Found} {rows : FieldRows} (h : IsBetween a c v reports es ds rows) where
  pub between-count : AreReport (rows ++ count_fields 0 ∷ [])
  between-count = subst (λ (x : FieldRows). AreReport (x ++ count_fields 0 ∷ [])) (sym h.are) (told-report reports es ds 0 h.told (omega (arith, ap length h.are, h.short)))

  pub between-block : ReportGoesOn rows (decimal 0 ∷ [])
  between-block = (codes "ignition cycle, download" ∷ shown_count 0 ∷ [], [], between-count)

  -- a row of block 0 with this name
  pub told-next : length es + 1 < 2 ^ 64 → (w : List ℕ) (back : List (List ℕ)) (more : FieldRows) → AreReport (rows ++ (decimal 0 ∷ w ∷ back) ∷ more)
      → (x : ToldName) × IsToldName x × (value : List ℕ) × (w ≡ name_words (length reports) x) × (back ≡ value ∷ []) × ToldNext a c v (length reports) (length es + 1) (banks_in (map found_event es ++ ds)) value more x
  told-next few w back more r = ⊎_elim
      (λ l. let last : back ≡ l.2 ∷ [] = cc in
      (l.0, l.1, l.2, ap (λ (q : List (List ℕ)). slice_index_or q 1 []) l.3, last, l.4))
      (λ n. absurd (let z = decimal-same 0 (length es + 1) (omega arith) few n.1 in omega (arith, z)))
      (next-row (decimal 0 ∷ w ∷ back) more (h.rest ((decimal 0 ∷ w ∷ back) ∷ more) r))

  -- of such a row, where its name is only this, its value and what follows
  pub only-next : length es + 1 < 2 ^ 64 → (w value : List ℕ) {x : ToldName} → ((y : ToldName) → IsToldName y → w ≡ name_words (length reports) y → x ≡ y) → (back : List (List ℕ)) (more : FieldRows) → AreReport (rows ++ (decimal 0 ∷ w ∷ value ∷ back) ∷ more)
      → ToldNext a c v (length reports) (length es + 1) (banks_in (map found_event es ++ ds)) value more x
  only-next few w value {x} only back more r =
      let n = told-next few w (value ∷ back) more r in
      let same : n.2 ≡ value = sym (ap (λ (l : List (List ℕ)). slice_index_or l 0 []) n.4) in
      subst (λ (z : List ℕ). ToldNext a c v (length reports) (length es + 1) (banks_in (map found_event es ++ ds)) z more x) same (rw (only n.0 n.1 n.3) n.5)

  -- where it was read after other rows, a report goes on with its name
  pub opens : (before : FieldRows) (w value : List ℕ) → rows ≡ before ++ (decimal 0 ∷ w ∷ value ∷ []) ∷ [] → ReportGoesOn before (decimal 0 ∷ w ∷ [])
  opens before w value is = (value ∷ [], count_fields 0 ∷ [], subst AreReport (ap (λ (x : FieldRows). x ++ count_fields 0 ∷ []) is ∙ append_assoc before _ (count_fields 0 ∷ [])) between-count)

-- one row of block 0 more
pub row-more : {rows old : FieldRows} {w name value shown : List ℕ} → rows ≡ old → w ≡ name → value ≡ shown → rows ++ (decimal 0 ∷ w ∷ value ∷ []) ∷ [] ≡ old ++ (decimal 0 ∷ name ∷ shown ∷ []) ∷ []
row-more a b c = cc

-- ---- a cycle

pub run-told : (reports : List Report) → All IsReport reports → IsToldReport reports [] []
run-told reports h = record { run = h; events = none IsEvent; damaged = none IsDamaged; distinct = distinct-none [] refl }

-- a cycle of which the first row was read
abbrev pub started : CycleRow → Report
started (row.StartStopped j) = StartStopped j
started (row.Ran n s) = Ran n s []

pub started-is : (i : ℕ) (first : CycleRow) → IsCycleRow first → (last_cycle (Some first) [] ≡ started first ∷ []) × (map line_fields (cycle_lines i (started first)) ≡ cycle_fields i first ∷ []) × IsReport (started first)
started-is i (row.StartStopped j) h = (refl, refl, (h, none IsAck))
started-is i (row.Ran n s) h = (refl, refl, (h, none IsAck))

-- ---- a command that the last cycle acknowledged

pub whole-ack : (done : List Report) (n : ℕ) (s : Option ℕ) (acks : List Ack) (k : Ack) → whole (done ++ Ran n s (acks ++ k ∷ []) ∷ []) [] [] ≡ whole (done ++ Ran n s acks ∷ []) [] [] ++ ack_fields (length done + 1) k ∷ []
whole-ack done n s acks k =
    let i = length done + 1 in
    let first = cycle_fields i (row.Ran n s) in
    whole-cycle done (Ran n s (acks ++ k ∷ [])) ∙ ap (λ (x : FieldRows). whole done [] [] ++ x) (cycle-lines i (Ran n s (acks ++ k ∷ [])) ∙ ap (λ (x : FieldRows). first ∷ x) (map-append (ack_fields i) acks (k ∷ [])))
    ∙ sym (append_assoc (whole done [] []) (first ∷ map (ack_fields i) acks) (ack_fields i k ∷ []))
    ∙ ap (λ (x : FieldRows). x ++ ack_fields i k ∷ []) (sym (whole-cycle done (Ran n s acks) ∙ ap (λ (x : FieldRows). whole done [] [] ++ x) (cycle-lines i (Ran n s acks))))

pub told-ack : (done : List Report) (n : ℕ) (s : Option ℕ) (acks : List Ack) (k : Ack) → All IsReport (done ++ Ran n s acks ∷ []) → IsAck k → IsToldReport (done ++ Ran n s (acks ++ k ∷ []) ∷ []) [] []
told-ack done n s acks k all h =
    let last = at-end IsReport done (Ran n s acks) all in
    run-told (done ++ Ran n s (acks ++ k ∷ []) ∷ []) (All-last IsReport done (Ran n s (acks ++ k ∷ [])) (All-front IsReport done (Ran n s acks ∷ []) all) (last.0, All-last IsAck acks k last.1 h))

-- ---- the first row of a reader

pub start-between : IsBetween false true true [] [] [] (head_row ∷ [])
start-between = record {
  told = run-told [] (none IsReport);
  are = refl;
  short = omega arith;
  rest = λ more a. by more (report-told (head_row ∷ more) a);
}
  where
    by : (more : FieldRows) → ((reports : List Report) × (es : List (ℕ × Record)) × (ds : List Found) × (n : ℕ) × IsToldReport reports es ds × (head_row ∷ more ≡ whole reports es ds ++ count_fields n ∷ []) × (length (head_row ∷ more) ≤ 4_294_967_294)) → MayFollow false true true 0 1 [] more
    by more t =
        let run = run_fields 1 t.0 in
        let events = events_fields 1 t.1 in
        let damaged = map damaged_fields t.2 in
        let last : FieldRows = count_fields t.3 ∷ [] in
        let told = t.4 in
        let is : head_row ∷ more ≡ head_row ∷ ((run ++ (events ++ damaged)) ++ last) = t.5 in
        let tail : more ≡ (run ++ (events ++ damaged)) ++ last = cc in
        record {
          acks = [];
          reports = t.0;
          events = t.1;
          damaged = t.2;
          count = t.3;
          bounds = (none IsAck, told.run, told.events, told.damaged);
          no_acks = λ f. refl;
          no_reports = λ f. cc;
          no_events = λ f. cc;
          distinct = subst (IsDistinct eqb) (banks-split t.1 t.2) told.distinct;
          are = tail ∙ append_assoc run (events ++ damaged) last ∙ ap (λ (x : FieldRows). run ++ x) (append_assoc events damaged last);
        }
