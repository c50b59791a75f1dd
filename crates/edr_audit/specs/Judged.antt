-- What is said of branches after the last cycle.
use Rattle.std.specs.Prelude.{◌≡◌, ◌≢◌, ℕ, Option, Some, None, List, [], ◌∷◌, ◌++◌, Contains}
use Rattle.edr_image.specs.Image.{View}
use Rattle.edr_report.specs.Lines.{text_of}
use Rattle.edr_audit.specs.declared.Difference.TheVariants.{Run, Report}
use Rattle.edr_audit.specs.declared.Verdict.{Verdict}
use Rattle.edr_audit.specs.declared.Verdict.TheVariants.{Agrees, Differs}
use Rattle.edr_audit.specs.declared.judge.Seen.{Seen}
use Rattle.edr_audit.specs.declared.judge.Seen.TheVariants as seen
use Rattle.edr_audit.specs.Branches.{BranchState}
use Rattle.edr_audit.specs.Compared.{compare, difference_in}
use Rattle.edr_audit.specs.Tail.{tail_lines}

-- the branch has the banks and the count of the view
pub record Fits (w : View) (b : BranchState) : Type 0 where
  pub banks : b.banks ≡ w.store.banks
  pub count : b.count ≡ w.count

-- where the report differs from the text of the branch, which ends in these lines
abbrev pub difference_of : List ℕ → View → BranchState → Option ℕ
difference_of report w b = difference_in report (compare report b.text (text_of (tail_lines w)))

-- the first branch that fits has this difference, and none that fits has none
pub record FirstDiffers (report : List ℕ) (w : View) (bs : List BranchState) (offset : ℕ) : Type 0 where
  pub front : List BranchState
  pub branch : BranchState
  pub rest : List BranchState
  pub listed : bs ≡ front ++ branch ∷ rest
  pub fits : Fits w branch
  pub others : (b : BranchState) → Contains front b → Fits w b → ⊥
  pub differs : difference_of report w branch ≡ Some offset

-- none of the branches that fit is without a difference
abbrev pub NoneAgrees : List ℕ → View → List BranchState → Type 0
NoneAgrees report w bs = (b : BranchState) → Contains bs b → Fits w b → difference_of report w b ≢ None

-- what was found so far: no branch that fits, or the difference of the first
abbrev pub FoundSoFar : List ℕ → View → List BranchState → Option ℕ → Type 0
FoundSoFar report w bs None = (b : BranchState) → Contains bs b → Fits w b → ⊥
FoundSoFar report w bs (Some offset) = FirstDiffers report w bs offset × NoneAgrees report w bs

-- some branch that fits has none
pub record SomeAgrees (report : List ℕ) (w : View) (bs : List BranchState) : Type 0 where
  pub branch : BranchState
  pub listed : Contains bs branch
  pub fits : Fits w branch
  pub agrees : difference_of report w branch ≡ None

abbrev pub IsJudged : List ℕ → View → List BranchState → Verdict → Type 0
IsJudged report w bs Agrees = SomeAgrees report w bs
IsJudged report w bs (Differs Run) = FoundSoFar report w bs None
IsJudged report w bs (Differs (Report offset)) = FoundSoFar report w bs (Some offset)
IsJudged report w bs other = ⊥

-- what one more branch makes of what was found
abbrev pub LooksAt : List ℕ → View → BranchState → Option ℕ → Seen → Type 0
LooksAt report w b found seen.Agrees = Fits w b × (difference_of report w b ≡ None)
LooksAt report w b found (seen.SoFar f) = (bs : List BranchState) → FoundSoFar report w bs found → FoundSoFar report w (bs ++ b ∷ []) f
