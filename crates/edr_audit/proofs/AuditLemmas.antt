-- What is said of branches is the verdict.
use Rattle.std.proofs.Common.{◌≡◌, refl, sym, ap, subst, ◌∙◌, ℕ, Some, None, List, [], ◌∷◌, ◌++◌, map}
use Rattle.std.specs.Prelude.{Contains, IfOk, Result, Ok, Err}
use Rattle.edr_image.proofs.StopLaws.{contains_here, contains_later, contains_left, contains_map, contains_mapped}
use Rattle.edr_image.specs.declared.BankView.{BankView}
use Rattle.edr_image.specs.declared.Header.{Header}
use Rattle.edr_image.specs.Banks.{Store}
use Rattle.edr_image.specs.Image.{View, view_of}
use Rattle.edr_spell.specs.declared.CycleInput.{CycleInput}
use Rattle.edr_spell.specs.declared.TraceRefused.{TraceRefused}
use Rattle.edr_spell.specs.Fault.{FirstFault}
use Rattle.edr_run.specs.Cycle.{Outcome, outcomes}
use Rattle.edr_audit.specs.declared.Difference.TheVariants.{Before, Trace, Stops, After, Run, Report}
use Rattle.edr_audit.specs.declared.Verdict.{Verdict}
use Rattle.edr_audit.specs.declared.Verdict.TheVariants.{Agrees, Differs}
use Rattle.edr_audit.specs.declared.compared.Compared.TheVariants.{Same}
use Rattle.edr_audit.specs.Branches.{BranchState, all_branches, branch_of, branch_with}
use Rattle.edr_audit.specs.Compared.{first_difference}
use Rattle.edr_audit.specs.Judged.{Fits, IsJudged, difference_of}
use Rattle.edr_audit.specs.Verdicts.{FailsIn, HasView, IsAudited, IsVerdict, text_with}
use Rattle.edr_audit.proofs.CompareLemmas.{none-same, same-none}
use Rattle.edr_audit.proofs.JudgeLemmas.{difference_is}
use Rattle.edr_audit.proofs.VerdictLemmas.{verdicts-one}
use Rattle.edr_audit.proofs.OutcomeLemmas.{branches-are, outcomes-header}

-- ---- members and their branches

fits_is : (report : List ℕ) (to : View) (o : Outcome) → o.store.header ≡ to.store.header → Fits to (branch_of report o) → HasView to o
fits_is report to o header fits = record {
  store =
      ap (λ (h : Header). let s : Store = record { header = h; banks = o.store.banks } in s) header
      ∙ ap (λ (b : List BankView). let s : Store = record { header = to.store.header; banks = b } in s) fits.banks;
  count = fits.count;
}

view_fits : (report : List ℕ) (to : View) (o : Outcome) → HasView to o → Fits to (branch_of report o)
view_fits report to o view = record { banks = ap (λ (s : Store). s.banks) view.store; count = view.count }

-- a list in the middle of which something stands
record Split {A B : Type 0} (f : A → B) (xs : List A) (front : List B) (b : B) (rest : List B) : Type 0 where
  before : List A
  at : A
  after : List A
  whole : xs ≡ before ++ at ∷ after
  front_is : map f before ≡ front
  at_is : f at ≡ b

split : {A B : Type 0} (f : A → B) (xs : List A) (front : List B) (b : B) (rest : List B) → map f xs ≡ front ++ b ∷ rest → Split f xs front b rest
split f [] [] b rest e = cc
split f [] (c ∷ front) b rest e = cc
split f (x ∷ xs) [] b rest e = record { before = []; at = x; after = xs; whole = refl; front_is = refl; at_is = cc }
split f (x ∷ xs) (c ∷ front) b rest e =
    let tail : map f xs ≡ front ++ b ∷ rest = cc in
    let head : f x ≡ c = cc in
    let later = split f xs front b rest tail in
    record {
      before = x ∷ later.before;
      at = later.at;
      after = later.after;
      whole = ap (λ ys. x ∷ ys) later.whole;
      front_is = ap (λ y. y ∷ map f later.before) head ∙ ap (λ ys. c ∷ ys) later.front_is;
      at_is = later.at_is;
    }

-- ---- the verdict

-- the branches are those of the members
abbrev AreOf : List ℕ → List Outcome → List BranchState → Type 0
AreOf report os bs = map (branch_of report) os ≡ bs

-- each member has this header
abbrev HaveHeader : Header → List Outcome → Type 0
HaveHeader h os = (o : Outcome) → Contains os o → o.store.header ≡ h

-- the branch of a member that fits
record Found (report : List ℕ) (to : View) (os : List Outcome) (b : BranchState) : Type 0 where
  outcome : Outcome
  listed : Contains os outcome
  view : HasView to outcome
  branch : branch_of report outcome ≡ b

found : (report : List ℕ) (to : View) (os : List Outcome) (bs : List BranchState) (b : BranchState) → AreOf report os bs → HaveHeader to.store.header os → Contains bs b → Fits to b → Found report to os b
found report to os bs b are headers h fits =
    let place = contains_map (branch_of report) os b (subst (λ (xs : List BranchState). Contains xs b) (sym are) h) in
    let fits_here : Fits to (branch_of report place.0) = subst (Fits to) (sym place.2) fits in
    record { outcome = place.0; listed = place.1; view = fits_is report to place.0 (headers place.0 place.1) fits_here; branch = place.2 }

in_branches : (report : List ℕ) (os : List Outcome) (bs : List BranchState) (o : Outcome) → AreOf report os bs → Contains os o → Contains bs (branch_of report o)
in_branches report os bs o are h = subst (λ (xs : List BranchState). Contains xs (branch_of report o)) are (contains_mapped (branch_of report) os o h)

in_middle : {A : Type 0} (xs ys : List A) (x : A) → Contains (xs ++ x ∷ ys) x
in_middle [] ys x = contains_here x ys
in_middle (y ∷ xs) ys x = contains_later y (xs ++ x ∷ ys) x (in_middle xs ys x)

in_front : {A : Type 0} (xs ys : List A) (x : A) → Contains xs x → Contains (xs ++ ys) x
in_front xs ys x h = contains_left xs ys x h

pub judged-is : (before trace after report : List ℕ) (from to : View) (cycles : List CycleInput) (bs : List BranchState) (v : Verdict) → IsAudited before trace after from cycles to
    → map (branch_of report) (outcomes cycles from.store from.count) ≡ bs → ((o : Outcome) → Contains (outcomes cycles from.store from.count) o → o.store.header ≡ to.store.header)
    → IsJudged report to bs v → IsVerdict before trace after report v
judged-is before trace after report from to cycles bs Agrees audited are headers judged =
    let m = found report to (outcomes cycles from.store from.count) bs judged.branch are headers judged.listed judged.fits in
    let none : first_difference report (text_with to m.outcome) ≡ None = sym (difference_is report to m.outcome) ∙ ap (difference_of report to) m.branch ∙ judged.agrees in
    record { from = from; cycles = cycles; to = to; outcome = m.outcome; audited = audited; member = record { listed = m.listed; view = m.view }; text = none-same report (text_with to m.outcome) none }
judged-is before trace after report from to cycles bs (Differs Run) audited are headers judged = record {
  from = from;
  cycles = cycles;
  to = to;
  audited = audited;
  none = λ o m. judged (branch_of report o) (in_branches report (outcomes cycles from.store from.count) bs o are m.listed) (view_fits report to o m.view);
}
judged-is before trace after report from to cycles bs (Differs (Report offset)) audited are headers judged =
    let f = judged.0 in
    let s = split (branch_of report) (outcomes cycles from.store from.count) f.front f.branch f.rest (are ∙ f.listed) in
    let listed : Contains (outcomes cycles from.store from.count) s.at = subst (λ (xs : List Outcome). Contains xs s.at) (sym s.whole) (in_middle s.before s.after s.at) in
    record {
      from = from;
      cycles = cycles;
      to = to;
      outcome = s.at;
      audited = audited;
      member = record {
        front = s.before;
        rest = s.after;
        listed = s.whole;
        view = fits_is report to s.at (headers s.at listed) (subst (Fits to) (sym s.at_is) f.fits);
        others = λ p h view. f.others (branch_of report p) (subst (λ (xs : List BranchState). Contains xs (branch_of report p)) s.front_is (contains_mapped (branch_of report) s.before p h)) (view_fits report to p view);
      };
      none = λ o m text. judged.1 (branch_of report o) (in_branches report (outcomes cycles from.store from.count) bs o are m.listed) (view_fits report to o m.view)
          (difference_is report to o ∙ ap (λ r. first_difference r (text_with to o)) text ∙ same-none (text_with to o));
      differs = sym (difference_is report to s.at) ∙ ap (difference_of report to) s.at_is ∙ f.differs;
    }
judged-is before trace after report from to cycles bs (Differs Before) audited are headers judged = absurd judged
judged-is before trace after report from to cycles bs (Differs (Trace row)) audited are headers judged = absurd judged
judged-is before trace after report from to cycles bs (Differs (Stops n)) audited are headers judged = absurd judged
judged-is before trace after report from to cycles bs (Differs After) audited are headers judged = absurd judged

-- ---- the runs of what is audited

pub runs-are : (before trace after report : List ℕ) (from to : View) (cycles : List CycleInput) (bs : List BranchState) (v : Verdict) → IsAudited before trace after from cycles to → from.store.header ≡ to.store.header
    → bs ≡ all_branches report from.store.header 1 cycles (branch_with from.count (Same 0) from.store.banks ∷ []) → IsJudged report to bs v → IsVerdict before trace after report v
runs-are before trace after report from to cycles bs v audited header are judged =
    judged-is before trace after report from to cycles bs v audited (branches-are report cycles from.store from.count ∙ sym are) (λ o h. outcomes-header cycles from.store from.count o h ∙ header) judged

pub headers-differ : (before trace after report : List ℕ) (from to : View) (cycles : List CycleInput) → IsAudited before trace after from cycles to → (from.store.header ≡ to.store.header → ⊥) → IsVerdict before trace after report (Differs Run)
headers-differ before trace after report from to cycles audited other = record {
  from = from;
  cycles = cycles;
  to = to;
  audited = audited;
  none = λ o m. other (sym (outcomes-header cycles from.store from.count o m.listed) ∙ ap (λ (s : Store). s.header) m.view.store);
}

-- ---- what is no trace, and what is the one verdict

pub fails_in : (before trace : List ℕ) (from : View) (t : TraceRefused) → view_of before ≡ Some from → FirstFault trace t → FailsIn before trace t.row
fails_in before trace from t says first = record { from = from; fault = t.fault; says = says; first = first }

pub only_one : {E : Type 0} (before trace after report : List ℕ) (r : Result Verdict E) → IfOk r (IsVerdict before trace after report) → (v : Verdict) → IsVerdict before trace after report v → IfOk r (λ w. w ≡ v)
only_one before trace after report (Ok w) says v is = verdicts-one before trace after report w v says is
only_one before trace after report (Err e) says v is = says
