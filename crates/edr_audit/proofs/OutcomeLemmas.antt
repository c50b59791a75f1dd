-- What is kept after all cycles is what is kept of the members of Outcomes.
use Rattle.std.proofs.Common.{◌≡◌, refl, ap, subst, ◌∙◌, arith, ℕ, ◌+◌, inl, inr, Bool, true, false, cond, ◌||◌, nat_eq, nat_le, nat_lt, List, [], ◌∷◌, ◌++◌, map, length, length-append}
use Rattle.std.specs.Prelude.{Contains, fold, flat_map}
use Rattle.edr_image.proofs.StopLaws.{contains_cases, contains_none}
use Rattle.std.specs.List.{enumerate_from}
use Rattle.std.proofs.lemmas.List.{append-nil, map-append}
use Rattle.std.proofs.lemmas.List.Concat.{flat_map-append}
use Rattle.edr_image.specs.declared.Header.{Header}
use Rattle.edr_image.specs.Banks.{Store}
use Rattle.edr_image.specs.Reports.{Report}
use Rattle.edr_image.specs.Steps.{BankStep}
use Rattle.edr_image.specs.Calls.{all_calls, stops}
use Rattle.edr_spell.specs.declared.CycleInput.{CycleInput}
use Rattle.edr_run.specs.Cycle.{End, Outcome, cut_end, ends, last_count, one_more, outcomes, run_ends, start_end, start_ends, steps_in, whole_end}
use Rattle.edr_report.specs.Lines.{text_of, text_line}
use Rattle.edr_report.specs.Report.{cycle_lines, run_lines}
use Rattle.edr_audit.specs.declared.compared.Compared.{Compared}
use Rattle.edr_audit.specs.declared.compared.Compared.TheVariants.{Same}
use Rattle.edr_audit.specs.Compared.{compare}
use Rattle.edr_audit.specs.Branches.{BranchState, all_branches, branch_after, branch_of, branch_with, branches_after, store_in}
use Rattle.edr_audit.proofs.CompareLemmas.{compare_append}

-- ---- the header of each end

abbrev Each : {A : Type 0} → (A → Type 0) → List A → Type 0
Each P [] = Unit {0}
Each P (x ∷ xs) = P x × Each P xs

abbrev HasHeader : Header → End → Type 0
HasHeader h e = e.store.header ≡ h

cuts_header : (h : Header) (f : List BankStep → End) (ds : List (List BankStep)) → ((d : List BankStep) → (f d).store.header ≡ h) → Each (HasHeader h) (map f ds)
cuts_header h f [] e = tt
cuts_header h f (d ∷ ds) e = (e d, cuts_header h f ds e)

ends_header : (c : CycleInput) (v : Store) (n : ℕ) → Each (HasHeader v.header) (ends c v n)
unfolding ends run_ends
ends_header c v n = by_test (nat_eq c.start_stop 0) where
  stopped : (low high : Bool) → Each (HasHeader v.header) (cond low (start_end c.start_stop v n ∷ []) (cond high (start_end c.start_stop v n ∷ start_end c.start_stop v (n + 1) ∷ []) []))
  stopped true high = (refl, tt)
  stopped false true = (refl, (refl, tt))
  stopped false false = tt

  ran : (whole : Bool) → Each (HasHeader v.header) (cond whole (whole_end c.feeds v (n + 1) ∷ []) (map (cut_end c.feeds v (n + 1) c.stop) (stops c.stop (steps_in c.feeds (n + 1) v))))
  ran true = (refl, tt)
  ran false = cuts_header v.header (cut_end c.feeds v (n + 1) c.stop) (stops c.stop (steps_in c.feeds (n + 1) v)) (λ d. refl)

  by_test : (b : Bool) → Each (HasHeader v.header) (cond b (run_ends c.feeds c.stop v (n + 1)) (start_ends c.start_stop v n))
  by_test true = ran (nat_eq c.stop 0 || nat_lt (all_calls (steps_in c.feeds (n + 1) v)) c.stop)
  by_test false = stopped (nat_le c.start_stop 4) (nat_le c.start_stop 6)

-- ---- one more report

pub enumerated_more : {A : Type 0} (i : ℕ) (xs : List A) (x : A) → enumerate_from i (xs ++ x ∷ []) ≡ enumerate_from i xs ++ (i + length xs, x) ∷ []
enumerated_more i [] x = let same : i ≡ i + 0 = omega arith in ap (λ j. (j, x) ∷ []) same
enumerated_more i (y ∷ xs) x =
    let same : i + 1 + length xs ≡ i + length (y ∷ xs) = omega arith in
    ap (λ ps. (i, y) ∷ ps) (enumerated_more (i + 1) xs x ∙ ap (λ j. enumerate_from (i + 1) xs ++ (j, x) ∷ []) same)

run_more : (rs : List Report) (r : Report) → run_lines 1 (rs ++ r ∷ []) ≡ run_lines 1 rs ++ cycle_lines (1 + length rs) r
run_more rs r =
    ap (flat_map (λ p. cycle_lines p.0 p.1)) (enumerated_more 1 rs r)
    ∙ flat_map-append (λ p. cycle_lines p.0 p.1) (enumerate_from 1 rs) ((1 + length rs, r) ∷ [])
    ∙ ap (λ ls. run_lines 1 rs ++ ls) (append-nil (cycle_lines (1 + length rs) r))

-- the outcome has this header, and the next cycle is in this place of the run
pub record Fits (h : Header) (place : ℕ) (o : Outcome) : Type 0 where
  pub header : o.store.header ≡ h
  pub place_is : 1 + length o.reports ≡ place

-- an outcome and one more end
abbrev extended : Outcome → End → Outcome
extended o e = record { reports = o.reports ++ e.report ∷ []; store = e.store; count = e.count }

extended_is : (report : List ℕ) (h : Header) (place : ℕ) (o : Outcome) (e : End) → Fits h place o → branch_of report (extended o e) ≡ branch_after report place (branch_of report o) e
extended_is report h place o e fits =
    let lines = run_lines 1 o.reports in
    let more : text_of (run_lines 1 (o.reports ++ e.report ∷ [])) ≡ text_of lines ++ text_of (cycle_lines place e.report) =
    ap text_of (run_more o.reports e.report) ∙ flat_map-append text_line lines (cycle_lines (1 + length o.reports) e.report) ∙ ap (λ p. text_of lines ++ text_of (cycle_lines p e.report)) fits.place_is in
    ap (λ (t : Compared). branch_with e.count t e.store.banks) (ap (compare report (Same 0)) more ∙ compare_append report (Same 0) (text_of lines) (text_of (cycle_lines place e.report)))

all_extended : (report : List ℕ) (h : Header) (place : ℕ) (o : Outcome) (es : List End) → Fits h place o → map (branch_of report) (map (extended o) es) ≡ map (branch_after report place (branch_of report o)) es
all_extended report h place o [] fits = refl
all_extended report h place o (e ∷ es) fits =
    ap (λ (b : BranchState). b ∷ map (branch_of report) (map (extended o) es)) (extended_is report h place o e fits)
    ∙ ap (λ bs. branch_after report place (branch_of report o) e ∷ bs) (all_extended report h place o es fits)

store_same : (report : List ℕ) (h : Header) (o : Outcome) → o.store.header ≡ h → o.store ≡ store_in h (branch_of report o)
store_same report h o e = ap (λ (x : Header). let s : Store = record { header = x; banks = o.store.banks } in s) e

-- one outcome and one cycle
one_is : (report : List ℕ) (h : Header) (place : ℕ) (c : CycleInput) (o : Outcome) → Fits h place o → map (branch_of report) (one_more c o) ≡ branches_after report h place c (branch_of report o)
one_is report h place c o fits = by_test (nat_lt o.count last_count) where
  by_test : (t : Bool) → map (branch_of report) (cond t (map (extended o) (ends c o.store o.count)) []) ≡ cond t (map (branch_after report place (branch_of report o)) (ends c (store_in h (branch_of report o)) o.count)) []
  by_test true =
      all_extended report h place o (ends c o.store o.count) fits
      ∙ ap (λ (s : Store). map (branch_after report place (branch_of report o)) (ends c s o.count)) (store_same report h o fits.header)
  by_test false = refl

all_more : (report : List ℕ) (h : Header) (place : ℕ) (c : CycleInput) (os : List Outcome) → Each (Fits h place) os → map (branch_of report) (flat_map (one_more c) os) ≡ flat_map (branches_after report h place c) (map (branch_of report) os)
all_more report h place c [] fits = refl
all_more report h place c (o ∷ os) fits =
    map-append (branch_of report) (one_more c o) (flat_map (one_more c) os)
    ∙ ap (λ bs. bs ++ map (branch_of report) (flat_map (one_more c) os)) (one_is report h place c o fits.0)
    ∙ ap (λ bs. branches_after report h place c (branch_of report o) ++ bs) (all_more report h place c os fits.1)

-- ---- they fit again

each_append : {A : Type 0} (P : A → Type 0) (xs ys : List A) → Each P xs → Each P ys → Each P (xs ++ ys)
each_append P [] ys a b = b
each_append P (x ∷ xs) ys a b = (a.0, each_append P xs ys a.1 b)

ends_fit : (h : Header) (place : ℕ) (o : Outcome) (es : List End) → Fits h place o → Each (HasHeader o.store.header) es → Each (Fits h (place + 1)) (map (extended o) es)
ends_fit h place o [] fits headers = tt
ends_fit h place o (e ∷ es) fits headers =
    let long : length (o.reports ++ e.report ∷ []) ≡ length o.reports + 1 = length-append o.reports (e.report ∷ []) in
    let was = fits.place_is in
    (record { header = headers.0 ∙ fits.header; place_is = omega (arith, long, was) }, ends_fit h place o es fits headers.1)

one_fits : (h : Header) (place : ℕ) (c : CycleInput) (o : Outcome) → Fits h place o → Each (Fits h (place + 1)) (one_more c o)
one_fits h place c o fits = by_test (nat_lt o.count last_count) where
  by_test : (t : Bool) → Each (Fits h (place + 1)) (cond t (map (extended o) (ends c o.store o.count)) [])
  by_test true = ends_fit h place o (ends c o.store o.count) fits (ends_header c o.store o.count)
  by_test false = tt

all_fit : (h : Header) (place : ℕ) (c : CycleInput) (os : List Outcome) → Each (Fits h place) os → Each (Fits h (place + 1)) (flat_map (one_more c) os)
all_fit h place c [] fits = tt
all_fit h place c (o ∷ os) fits = each_append (Fits h (place + 1)) (one_more c o) (flat_map (one_more c) os) (one_fits h place c o fits.0) (all_fit h place c os fits.1)

-- ---- all cycles

branches_from : (report : List ℕ) (h : Header) (place : ℕ) (cs : List CycleInput) (os : List Outcome) → Each (Fits h place) os
    → map (branch_of report) (fold (λ os c. flat_map (one_more c) os) os cs) ≡ all_branches report h place cs (map (branch_of report) os)
branches_from report h place [] os fits = refl
branches_from report h place (c ∷ cs) os fits =
    branches_from report h (place + 1) cs (flat_map (one_more c) os) (all_fit h place c os fits)
    ∙ ap (all_branches report h (place + 1) cs) (all_more report h place c os fits)

pub branches-are : (report : List ℕ) (cs : List CycleInput) (v : Store) (n : ℕ) → map (branch_of report) (outcomes cs v n) ≡ all_branches report v.header 1 cs (branch_with n (Same 0) v.banks ∷ [])
branches-are report cs v n =
    branches_from report v.header 1 cs (record { reports = []; store = v; count = n } ∷ []) (record { header = refl; place_is = refl }, tt)

-- and each member of Outcomes has the header of the first banks
outcomes_fit : (h : Header) (place : ℕ) (cs : List CycleInput) (os : List Outcome) → Each (Fits h place) os → Each (Fits h (place + length cs)) (fold (λ os c. flat_map (one_more c) os) os cs)
outcomes_fit h place [] os fits = let same : place ≡ place + 0 = omega arith in subst (λ p. Each (Fits h p) os) same fits
outcomes_fit h place (c ∷ cs) os fits =
    let same : place + 1 + length cs ≡ place + length (c ∷ cs) = omega arith in
    subst (λ p. Each (Fits h p) (fold (λ os c. flat_map (one_more c) os) (flat_map (one_more c) os) cs)) same (outcomes_fit h (place + 1) cs (flat_map (one_more c) os) (all_fit h place c os fits))

each_in : {A : Type 0} (P : A → Type 0) (xs : List A) (x : A) → Each P xs → Contains xs x → P x
each_in P [] x each h = contains_none x _ h
each_in P (y ∷ xs) x each h = elim (contains_cases y xs x h) [ inl e ↦ subst P e each.0 | inr later ↦ each_in P xs x each.1 later ]

pub outcomes-header : (cs : List CycleInput) (v : Store) (n : ℕ) (o : Outcome) → Contains (outcomes cs v n) o → o.store.header ≡ v.header
outcomes-header cs v n o h =
    let start : List Outcome = record { reports = []; store = v; count = n } ∷ [] in
    let fit : Each (Fits v.header 1) start = (record { header = refl; place_is = refl }, tt) in
    (each_in (Fits v.header (1 + length cs)) (outcomes cs v n) o (outcomes_fit v.header 1 cs start fit) h).header
