-- What is said of branches is so of the members of Outcomes.
use Rattle.std.proofs.Common.{◌≡◌, refl, sym, ap, subst, ◌∙◌, ℕ, inl, inr, Option, Some, None, List, [], ◌∷◌, ◌++◌, append_assoc}
use Rattle.std.specs.Prelude.{Contains}
use Rattle.std.proofs.lemmas.List.Concat.{flat_map-append}
use Rattle.edr_image.proofs.StopLaws.{contains_append, contains_cases, contains_none}
use Rattle.edr_image.specs.Banks.{retrieved_banks}
use Rattle.edr_image.specs.Image.{View}
use Rattle.edr_report.specs.Lines.{text_line, text_of}
use Rattle.edr_report.specs.Report.{report_lines, run_lines}
use Rattle.edr_run.specs.Cycle.{Outcome}
use Rattle.edr_audit.specs.declared.compared.Compared.TheVariants.{Same}
use Rattle.edr_audit.specs.Branches.{BranchState, branch_of}
use Rattle.edr_audit.specs.Compared.{compare, difference_in, first_difference}
use Rattle.edr_audit.specs.Judged.{FirstDiffers, Fits, FoundSoFar, NoneAgrees, difference_of}
use Rattle.edr_audit.specs.Tail.{tail_lines}
use Rattle.edr_audit.specs.Verdicts.{text_with}
use Rattle.edr_audit.proofs.CompareLemmas.{compare_append, compared-is}

-- ---- one branch more

none_more : {P : BranchState → Type 0} (bs : List BranchState) (b : BranchState) → ((x : BranchState) → Contains bs x → P x → ⊥) → (P b → ⊥) → (x : BranchState) → Contains (bs ++ b ∷ []) x → P x → ⊥
none_more {P = P} bs b none never x h is = elim (contains_append bs (b ∷ []) x h) [
  | inl before ↦ none x before is
  | inr here ↦ elim (contains_cases b [] x here) [ inl e ↦ never (subst P (sym e) is) | inr later ↦ contains_none x ⊥ later ]
]

agree_more : (report : List ℕ) (w : View) (bs : List BranchState) (b : BranchState) → NoneAgrees report w bs → (Fits w b → difference_of report w b ≡ None → ⊥) → NoneAgrees report w (bs ++ b ∷ [])
agree_more report w bs b none never x h fits same = elim (contains_append bs (b ∷ []) x h) [
  | inl before ↦ none x before fits same
  | inr here ↦ elim (contains_cases b [] x here) [
    | inl e ↦ never (subst (Fits w) (sym e) fits) (ap (difference_of report w) e ∙ same)
    | inr later ↦ contains_none x ⊥ later
  ]
]

first_more : (report : List ℕ) (w : View) (bs : List BranchState) (b : BranchState) (o : ℕ) → FirstDiffers report w bs o → FirstDiffers report w (bs ++ b ∷ []) o
first_more report w bs b o f = record {
  front = f.front;
  branch = f.branch;
  rest = f.rest ++ b ∷ [];
  listed = ap (λ (xs : List BranchState). xs ++ b ∷ []) f.listed ∙ append_assoc f.front (f.branch ∷ f.rest) (b ∷ []);
  fits = f.fits;
  others = f.others;
  differs = f.differs;
}

-- a branch that doesn't fit
pub passed : (report : List ℕ) (w : View) (bs : List BranchState) (b : BranchState) (found : Option ℕ) → FoundSoFar report w bs found → (Fits w b → ⊥) → FoundSoFar report w (bs ++ b ∷ []) found
passed report w bs b None so never = none_more bs b so never
passed report w bs b (Some o) so never = (first_more report w bs b o so.0, agree_more report w bs b so.1 (λ fits same. never fits))

-- one that fits and differs
not_both : (d : Option ℕ) (o : ℕ) → d ≡ Some o → d ≡ None → ⊥
not_both d o e f = let both : Some o ≡ None = sym e ∙ f in absurd cc

pub met_first : (report : List ℕ) (w : View) (bs : List BranchState) (b : BranchState) (o : ℕ) → FoundSoFar report w bs None → Fits w b → difference_of report w b ≡ Some o → FoundSoFar report w (bs ++ b ∷ []) (Some o)
met_first report w bs b o so fits differs = (
  record { front = bs; branch = b; rest = []; listed = refl; fits = fits; others = so; differs = differs },
  agree_more report w bs b (λ x h is same. so x h is) (λ is same. not_both (difference_of report w b) o differs same),
)

pub met_later : (report : List ℕ) (w : View) (bs : List BranchState) (b : BranchState) (o first : ℕ) → FoundSoFar report w bs (Some first) → difference_of report w b ≡ Some o → FoundSoFar report w (bs ++ b ∷ []) (Some first)
met_later report w bs b o first so differs =
    (first_more report w bs b first so.0, agree_more report w bs b so.1 (λ is same. not_both (difference_of report w b) o differs same))

-- ---- of members

-- the difference of a member's branch is that of its text
lines_are : (w : View) (o : Outcome) → report_lines o.reports (retrieved_banks w.store.banks) w.count ≡ run_lines 1 o.reports ++ tail_lines w
unfolding report_lines
lines_are w o = simp append_assoc refl

pub difference_is : (report : List ℕ) (w : View) (o : Outcome) → difference_of report w (branch_of report o) ≡ first_difference report (text_with w o)
difference_is report w o =
    let run = text_of (run_lines 1 o.reports) in
    let tail = text_of (tail_lines w) in
    let whole : text_with w o ≡ run ++ tail = ap text_of (lines_are w o) ∙ flat_map-append text_line (run_lines 1 o.reports) (tail_lines w) in
    ap (difference_in report) (sym (compare_append report (Same 0) run tail)) ∙ ap (λ t. difference_in report (compare report (Same 0) t)) (sym whole) ∙ compared-is report (text_with w o)
