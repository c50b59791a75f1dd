-- Swings over the changes of an axis.
use Rattle.std.proofs.Common.{arith, ap, sym, subst, ◌≡◌, ◌∙◌, ℕ, zero, suc, ◌+◌, ◌-◌, ◌<◌, ◌≤◌, ◌⊎◌, inl, inr, max, true, ℤ, pos, unsigned_abs, Option, Some, None, List, [], ◌∷◌, ◌++◌, length}
use Rattle.std.proofs.lemmas.Int.{ints}
use Rattle.std.proofs.lemmas.Bool.{cases_lt}
use Rattle.std.proofs.lemmas.Bool.Decides.{nat_tests}
use Rattle.std.specs.Prelude.{Bool, IsTrue, not, nat_eq, ◌%◌, ◌↔◌, ◌≢◌}
use Rattle.std.specs.Option.{option_eq, MatchOption}
use Rattle.std.specs.Ordering.{int_eq}
use Rattle.std.proofs.lemmas.Bool.Decides.{Decides-int_eq}
use Rattle.std.proofs.lemmas.Option.{MatchOption-at_some}
use Rattle.edr_definitions.specs.Signals.{Signals}
use Rattle.edr_definitions.specs.Selection.{Bounds}
use Rattle.edr_definitions.specs.Windows.{change_at, delta_v, size_of_change, largest_change, swing}
use Rattle.edr_definitions.specs.Facts.{AgreeUpTo}
use Rattle.edr_definitions.proofs.AgreeLaws.{swing-agree}
use Rattle.edr_definitions.proofs.WindowLaws.{delta_v-none, largest_change-cons, largest_change-none}
use Rattle.edr_window.specs.Changes.{changes}
use Rattle.edr_window.specs.Sums.{IsLeastSum, IsGreatestSum}
use Rattle.edr_window.specs.Swing.{SwingState, SwingStandsFor}
use Rattle.edr_detect.specs.declared.stage.Stage.{Stage}
use Rattle.edr_detect.specs.declared.stage.Stage.TheVariants as stage
use Rattle.edr_detect.specs.Standing.{AreStill}
use Rattle.edr_detect.proofs.LatestLemmas.{delta_v-push}
use Rattle.edr_window.proofs.ChangeLaws.{length-changes, changes-push, changes-none, extremes-swing}

-- where no tick is past the bound
pub swing-none : (axis : ℕ → Option ℤ) (k from t : ℕ) → changes axis from t ≡ [] → swing axis k from t ≡ 0
unfolding swing
swing-none axis k from t none =
    let long = length-changes axis from t in
    let empty : length (changes axis from t) ≡ 0 = ap (λ (xs : List ℤ). length xs) none in
    largest_change-none axis (max from (t - k)) t (omega arith)

-- the larger extreme
pub swing-greatest : (axis : ℕ → Option ℤ) (k from t : ℕ) (least greatest : ℤ) → unsigned_abs least < unsigned_abs greatest → IsLeastSum k (changes axis from t) least → IsGreatestSum k (changes axis from t) greatest → unsigned_abs greatest ≡ swing axis k from t
swing-greatest axis k from t least greatest larger low high = let e = extremes-swing axis k from t least greatest low high in omega arith

pub swing-least : (axis : ℕ → Option ℤ) (k from t : ℕ) (least greatest : ℤ) → unsigned_abs greatest ≤ unsigned_abs least → IsLeastSum k (changes axis from t) least → IsGreatestSum k (changes axis from t) greatest → unsigned_abs least ≡ swing axis k from t
swing-least axis k from t least greatest larger low high = let e = extremes-swing axis k from t least greatest low high in omega arith

-- nothing is past the bound yet
pub swing-begun : (k : ℕ) (axis : ℕ → Option ℤ) (t : ℕ) (s : SwingState) → SwingStandsFor k s [] → SwingStandsFor k s (changes axis t t)
swing-begun k axis t s h = subst (λ xs. SwingStandsFor k s xs) (sym (changes-none axis t)) h

-- one more tick
pub swing-more : (k : ℕ) (axis : ℕ → Option ℤ) (from before t : ℕ) (v : ℤ) (s r : SwingState) → t ≡ before + 1 → from ≤ before → change_at axis t ≡ v → ((values : List ℤ) → SwingStandsFor k s values → SwingStandsFor k r (values ++ v ∷ [])) → SwingStandsFor k s (changes axis from before) → SwingStandsFor k r (changes axis from t)
swing-more k axis from before t v s r next past now push h =
    let e : changes axis from (before + 1) ≡ changes axis from before ++ v ∷ [] =
    changes-push axis from before past ∙ ap (λ (x : ℤ). changes axis from before ++ x ∷ []) (ap (change_at axis) (sym next) ∙ now) in
    let there : SwingStandsFor k r (changes axis from (before + 1)) = subst (λ xs. SwingStandsFor k r xs) (sym e) (push (changes axis from before) h) in
    subst (λ (u : ℕ). SwingStandsFor k r (changes axis from u)) (sym next) there

-- ---- changes of 0
-- a further 0 changes no size
size-still : (axis : ℕ → Option ℤ) (s t : ℕ) → s ≤ t → change_at axis (t + 1) ≡ pos 0 → size_of_change axis s (t + 1) ≡ size_of_change axis s t
size-still axis s t past still = let more = delta_v-push axis s t past in let same : delta_v axis s (t + 1) ≡ delta_v axis s t = omega (arith, ints, more, still) in ap unsigned_abs same

largest-still : (axis : ℕ → Option ℤ) (n s t : ℕ) → s + n ≡ t → change_at axis (t + 1) ≡ pos 0 → largest_change axis s (t + 1) ≡ largest_change axis s t
largest-still axis zero s t e still =
    let here = largest_change-cons axis s (t + 1) (omega arith) in
    let size = size-still axis s t (omega arith) still in
    let none : size_of_change axis s t ≡ 0 = ap unsigned_abs (delta_v-none axis s t (omega arith)) in
    let rest = largest_change-none axis (s + 1) (t + 1) (omega arith) in
    let was = largest_change-none axis s t (omega arith) in
    omega (arith, here, size, none, rest, was)
largest-still axis (suc n) s t e still =
    let here = largest_change-cons axis s (t + 1) (omega arith) in
    let was = largest_change-cons axis s t (omega arith) in
    let size = size-still axis s t (omega arith) still in
    let rest = largest-still axis n (s + 1) t (omega arith) still in
    omega (arith, here, was, size, rest)

-- of fewer changes the largest is no larger
largest-later : (axis : ℕ → Option ℤ) (s t : ℕ) → s < t → largest_change axis (s + 1) t ≤ largest_change axis s t
largest-later axis s t lt = omega (arith, largest_change-cons axis s t lt)

-- a swing of 0 stays one at a further 0
swing-still : (axis : ℕ → Option ℤ) (k from t : ℕ) → from ≤ t → change_at axis (t + 1) ≡ pos 0 → swing axis k from t ≡ 0 → swing axis k from (t + 1) ≡ 0
unfolding swing
swing-still axis k from t past still none = by (cases_lt t (max from (t + 1 - k))) (cases_lt (max from (t - k)) (max from (t + 1 - k)))
  where
    by : (t < max from (t + 1 - k)) ⊎ (max from (t + 1 - k) ≤ t) → (max from (t - k) < max from (t + 1 - k)) ⊎ (max from (t + 1 - k) ≤ max from (t - k)) → largest_change axis (max from (t + 1 - k)) (t + 1) ≡ 0
    by (inl over) other = largest_change-none axis (max from (t + 1 - k)) (t + 1) (omega arith)
    by (inr within) (inl later) =
        let same = largest-still axis (t - max from (t + 1 - k)) (max from (t + 1 - k)) t (omega arith) still in
        let next : max from (t - k) + 1 ≡ max from (t + 1 - k) = omega arith in
        let less = largest-later axis (max from (t - k)) t (omega arith) in
        let there = ap (λ (s : ℕ). largest_change axis s t) next in
        omega (arith, same, less, there, none)
    by (inr within) (inr earlier) =
        let same = largest-still axis (t - max from (t + 1 - k)) (max from (t + 1 - k)) t (omega arith) still in
        let is : max from (t - k) ≡ max from (t + 1 - k) = omega arith in
        same ∙ sym (ap (λ (s : ℕ). largest_change axis s t) is) ∙ none

-- the swing between extremes of 0
is_zero : (o : Option ℤ) → option_eq int_eq o (Some (pos 0)) ≡ true → o ≡ Some (pos 0)
is_zero None h = cc
is_zero (Some v) h = ap (λ (z : ℤ). Some z) ((Decides-int_eq v (pos 0)).0 h)

pub swing-rest : (axis : ℕ → Option ℤ) (k from t : ℕ) (low high : Option ℤ) → option_eq int_eq low (Some (pos 0)) ≡ true → option_eq int_eq high (Some (pos 0)) ≡ true →
    MatchOption low (changes axis from t ≡ []) (IsLeastSum k (changes axis from t)) → MatchOption high (changes axis from t ≡ []) (IsGreatestSum k (changes axis from t)) → swing axis k from t ≡ 0
swing-rest axis k from t low high l h least greatest =
    extremes-swing axis k from t (pos 0) (pos 0)
    (MatchOption-at_some (changes axis from t ≡ []) (IsLeastSum k (changes axis from t)) (pos 0) (is_zero low l) least)
    (MatchOption-at_some (changes axis from t ≡ []) (IsGreatestSum k (changes axis from t)) (pos 0) (is_zero high h) greatest)

-- at a further change of 0 they stay still
pub AreStill-next : (m : Signals) (b : Bounds) (t u : ℕ) → u ≡ t + 1 → b.after ≤ t → b.since ≤ t → change_at m.along u ≡ pos 0 → change_at m.across u ≡ pos 0 → AreStill m b t → AreStill m b u
AreStill-next m b t u next after since along across h =
    let here : change_at m.along (t + 1) ≡ pos 0 = ap (change_at m.along) (sym next) ∙ along in
    let side : change_at m.across (t + 1) ≡ pos 0 = ap (change_at m.across) (sym next) ∙ across in
    subst (λ (v : ℕ). AreStill m b v) (sym next) (record {
      zero_along = swing-still m.along 20 b.after t after here h.zero_along;
      zero_across = swing-still m.across 5 b.after t after side h.zero_across;
      trigger_along = swing-still m.along 150 b.since t since here h.trigger_along;
      trigger_across = swing-still m.across 150 b.since t since side h.trigger_across;
    })

pub AreStill-agree : (m n : Signals) (b : Bounds) (t : ℕ) → AgreeUpTo t m n → AreStill m b t → AreStill n b t
AreStill-agree m n b t same h = record {
  zero_along = sym (swing-agree m.along n.along 20 b.after t same.along) ∙ h.zero_along;
  zero_across = sym (swing-agree m.across n.across 5 b.after t same.across) ∙ h.zero_across;
  trigger_along = sym (swing-agree m.along n.along 150 b.since t same.along) ∙ h.trigger_along;
  trigger_across = sym (swing-agree m.across n.across 150 b.since t same.across) ∙ h.trigger_across;
}

-- ---- stages
-- an open candidate has one time zero
pub open-zero : (s : Stage) (y z : ℕ) (c k l j d e : Option ℕ) → s ≡ stage.Open y c l d → s ≡ stage.Open z k j e → y ≡ z
open-zero s y z c k l j d e first second = cc

-- ---- restraints
-- some restraint locks
pub locks-is : (v : Bool) (fired fires : ℕ) → fires ≡ fired → (IsTrue v ↔ (fired % 64 ≢ 0)) → v ≡ not (nat_eq (fires % 64) 0)
locks-is v fired fires same h = grind (arith, nat_tests)
