-- One more tick in the list of the last 20.
use Rattle.std.proofs.Common.{arith, ap, sym, ◌≡◌, ◌∙◌, ℕ, zero, suc, ◌+◌, ◌-◌, ◌*◌, ◌%◌, ◌<◌, ◌≤◌, ◌⊎◌, inl, inr, ℤ, pos, negsuc, neg_ℤ, ◌≤ℤ◌, ◌+ℤ◌, ◌-ℤ◌, unsigned_abs, Option, subst, List, [], ◌∷◌, length, get_or, set, map, length-set, FitsSigned, w32}
use Rattle.std.proofs.lemmas.Int.{ints}
use Rattle.std.proofs.lemmas.Bool.{cases_lt}
use Rattle.std.proofs.lemmas.List.{get_or-set_same, get_or-set_other, set-get_or}
use Rattle.std.proofs.Math.Nat.{eq-or-lt_of_le}
use Rattle.edr_definitions.specs.Ticks.{int_sum, ticks}
use Rattle.edr_definitions.specs.Windows.{change_at, delta_v}
use Rattle.edr_definitions.proofs.TickLaws.{ticks-push}
use Rattle.edr_definitions.proofs.WindowLaws.{delta_v-cons}
use Rattle.edr_window.proofs.SumLaws.{int_sum-push}
use Rattle.edr_detect.specs.Sums.{IsSumOfSmall}
use Rattle.edr_detect.specs.Latest.{AreZeros, LatestStandsFor}

-- a number of at most this size fits an i32
small-fits : (z : ℤ) → neg_ℤ (pos 2_200_000) ≤ℤ z → z ≤ℤ pos 2_200_000 → FitsSigned w32 z
small-fits (pos a) low high = record { sfits = omega (arith, ints) }
small-fits (negsuc a) low high = record { sfits = omega (arith, ints) }

-- a list with one number changed
int_sum-set : (xs : List ℤ) (i : ℕ) (v : ℤ) → i < length xs → int_sum (set xs i v) +ℤ get_or xs i (pos 0) ≡ int_sum xs +ℤ v
int_sum-set [] i v h = absurd (omega arith)
int_sum-set (x ∷ xs) zero v h = omega (arith, ints)
int_sum-set (x ∷ xs) (suc i) v h = let e = int_sum-set xs i v (omega arith) in omega (arith, ints, e)

int_sum-small : (xs : List ℤ) → ((i : ℕ) → i < length xs → unsigned_abs (get_or xs i (pos 0)) ≤ 100_000) → unsigned_abs (int_sum xs) ≤ 100_000 * length xs
int_sum-small [] small = omega arith
int_sum-small (x ∷ xs) small =
    let here : unsigned_abs x ≤ 100_000 = small 0 (omega arith) in
    let rest = int_sum-small xs (λ i lt. small (suc i) (omega arith)) in
    omega (arith, ints, here, rest)

module _ (values : List ℤ) (sum : ℤ) (h : IsSumOfSmall values sum) where
  pub latest-small : unsigned_abs sum ≤ 2_000_000
  latest-small =
      let long = h.long in
      let size = int_sum-small values (λ i lt. h.small i (omega arith)) in
      let e = ap unsigned_abs h.sum_is in omega (arith, size, e)

  pub latest-put : (i : ℕ) (v more : ℤ) → i < 20 → unsigned_abs v ≤ 100_000 → more ≡ sum -ℤ get_or values i (pos 0) +ℤ v → IsSumOfSmall (set values i v) more
  latest-put i v more lt small more_is =
      let long = h.long in
      let place : i < length values = omega arith in
      record {
        long = length-set values i v ∙ long;
        sum_is = let e = int_sum-set values i v place in let was = h.sum_is in omega (arith, ints, e, was, more_is);
        small = λ j ltj. at j ltj (cases_eq j i);
      }
    where
      cases_eq : (j i : ℕ) → (j ≡ i) ⊎ (j ≡ i → ⊥)
      cases_eq j i = elim (cases_lt j i) [ inl less ↦ inr (λ e. omega arith) | inr more ↦ elim (cases_lt i j) [ inl over ↦ inr (λ e. omega arith) | inr same ↦ inl (omega arith) ] ]

      at : (j : ℕ) → j < 20 → (j ≡ i) ⊎ (j ≡ i → ⊥) → unsigned_abs (get_or (set values i v) j (pos 0)) ≤ 100_000
      at j ltj (inl e) = let s = get_or-set_same values i v (pos 0) (let long = h.long in omega arith) in let t = ap unsigned_abs (ap (λ k. get_or (set values i v) k (pos 0)) e ∙ s) in omega (arith, t, small)
      at j ltj (inr ne) = let s = ap unsigned_abs (get_or-set_other values i j v (pos 0) ne) in let b = h.small j ltj in omega (arith, s, b)

-- the sum with one change less, and then with another one more, fits an i32
pub record PushFits (sum old change : ℤ) : Type 0 where
  pub sum_fits : FitsSigned w32 sum
  pub old_fits : FitsSigned w32 old
  pub change_fits : FitsSigned w32 change
  pub less_fits : FitsSigned w32 (sum -ℤ old)
  pub more_fits : FitsSigned w32 (sum -ℤ old +ℤ change)

pub push-fits : (values : List ℤ) (sum change : ℤ) (i : ℕ) → IsSumOfSmall values sum → i < 20 → unsigned_abs change ≤ 100_000 → PushFits sum (get_or values i (pos 0)) change
push-fits values sum change i h lt small =
    let old = get_or values i (pos 0) in
    let whole : unsigned_abs sum ≤ 2_000_000 = latest-small values sum h in
    let one : unsigned_abs old ≤ 100_000 = h.small i lt in
    record {
      sum_fits = small-fits sum (omega (arith, ints, whole)) (omega (arith, ints, whole));
      old_fits = small-fits old (omega (arith, ints, one)) (omega (arith, ints, one));
      change_fits = small-fits change (omega (arith, ints, small)) (omega (arith, ints, small));
      less_fits = small-fits (sum -ℤ old) (omega (arith, ints, whole, one)) (omega (arith, ints, whole, one));
      more_fits = small-fits (sum -ℤ old +ℤ change) (omega (arith, ints, whole, one, small)) (omega (arith, ints, whole, one, small));
    }

-- one more tick at the upper end
pub delta_v-push : (axis : ℕ → Option ℤ) (s t : ℕ) → s ≤ t → delta_v axis s (t + 1) ≡ delta_v axis s t +ℤ change_at axis (t + 1)
unfolding delta_v
delta_v-push axis s t past =
    ap int_sum (ticks-push (s + 1) (t + 1) (omega arith) ℤ (change_at axis)) ∙ int_sum-push (map (change_at axis) (ticks (s + 1) (t + 1))) (change_at axis (t + 1))

module _ (axis : ℕ → Option ℤ) (b : ℕ) (values : List ℤ) (sum v : ℤ) (long : length values ≡ 20) (h : LatestStandsFor axis b values sum) (start : change_at axis 0 ≡ pos 0) (now : change_at axis (b + 1) ≡ v) where
  sum_step : (b < 19) ⊎ (19 ≤ b) → sum -ℤ get_or values ((b + 1) % 20) (pos 0) +ℤ v ≡ delta_v axis (b + 1 - 20) (b + 1)
  sum_step (inl early) =
      let place : (b + 1) % 20 ≡ b + 1 = omega arith in
      let old : get_or values ((b + 1) % 20) (pos 0) ≡ pos 0 = ap (λ i. get_or values i (pos 0)) place ∙ h.unfilled (b + 1) (omega arith) (omega arith) in
      let more = delta_v-push axis (b - 20) b (omega arith) in
      let from = ap (λ s. delta_v axis s (b + 1)) (let e : b - 20 ≡ b + 1 - 20 = omega arith in e) in
      let was = h.sum_is in
      omega (arith, ints, old, more, from, was, now)
  sum_step (inr late) =
      let place : (b + 1 - 20) % 20 ≡ (b + 1) % 20 = omega arith in
      let old : get_or values ((b + 1) % 20) (pos 0) ≡ change_at axis (b + 1 - 20) = ap (λ i. get_or values i (pos 0)) (sym place) ∙ h.at (b + 1 - 20) (omega arith) (omega arith) in
      let more = delta_v-push axis (b + 1 - 20) b (omega arith) in
      let whole = first_out (eq-or-lt_of_le late) in
      let was = h.sum_is in
      omega (arith, ints, old, more, whole, was, now)
    where
      first_out : (19 ≡ b) ⊎ (19 < b) → delta_v axis (b - 20) b ≡ change_at axis (b + 1 - 20) +ℤ delta_v axis (b + 1 - 20) b
      first_out (inl e) =
          let zero_now : change_at axis (b + 1 - 20) ≡ pos 0 = ap (change_at axis) (let z : b + 1 - 20 ≡ 0 = omega arith in z) ∙ start in
          let from = ap (λ s. delta_v axis s b) (let z : b - 20 ≡ b + 1 - 20 = omega arith in z) in
          omega (arith, ints, zero_now, from)
      first_out (inr lt) =
          delta_v-cons axis (b - 20) b (omega arith)
          ∙ ap (λ s. change_at axis s +ℤ delta_v axis s b) (let z : b - 20 + 1 ≡ b + 1 - 20 = omega arith in z)

  pub latest-step : LatestStandsFor axis (b + 1) (set values ((b + 1) % 20) v) (sum -ℤ get_or values ((b + 1) % 20) (pos 0) +ℤ v)
  latest-step = record {
    at = λ u le near. at u le near (eq-or-lt_of_le le);
    unfilled = λ i later lt. get_or-set_other values ((b + 1) % 20) i v (pos 0) (λ e. omega arith) ∙ h.unfilled i (omega arith) lt;
    sum_is = sum_step (cases_lt b 19);
  } where
    at : (u : ℕ) → u ≤ b + 1 → b + 1 < u + 20 → (u ≡ b + 1) ⊎ (u < b + 1) → get_or (set values ((b + 1) % 20) v) (u % 20) (pos 0) ≡ change_at axis u
    at u le near (inl e) =
        ap (λ k. get_or (set values ((b + 1) % 20) v) (k % 20) (pos 0)) e
        ∙ get_or-set_same values ((b + 1) % 20) v (pos 0) (omega arith)
        ∙ sym now ∙ ap (change_at axis) (sym e)
    at u le near (inr before) =
        get_or-set_other values ((b + 1) % 20) (u % 20) v (pos 0) (λ e. omega arith) ∙ h.at u (omega arith) (omega arith)

-- where none of the changes differs from 0, a further 0 moves nothing
pub latest-still : (axis : ℕ → Option ℤ) (b t : ℕ) (values : List ℤ) (sum : ℤ) → length values ≡ 20 → t ≡ b + 1 → change_at axis 0 ≡ pos 0 → change_at axis t ≡ pos 0 → AreZeros values → LatestStandsFor axis b values sum → LatestStandsFor axis t values sum
latest-still axis b t values sum long next start now zeros h =
    let place = (b + 1) % 20 in
    let old : get_or values place (pos 0) ≡ pos 0 = zeros place (omega arith) in
    let step = latest-step axis b values sum (pos 0) long h start (ap (change_at axis) (sym next) ∙ now) in
    let same : set values place (pos 0) ≡ values = ap (set values place) (sym old) ∙ set-get_or values place (pos 0) in
    let total : sum -ℤ get_or values place (pos 0) +ℤ pos 0 ≡ sum = omega (arith, ints, old) in
    let here = subst (λ (xs : List ℤ). LatestStandsFor axis (b + 1) xs (sum -ℤ get_or values place (pos 0) +ℤ pos 0)) same step in
    let there = subst (λ (z : ℤ). LatestStandsFor axis (b + 1) values z) total here in
    subst (λ (u : ℕ). LatestStandsFor axis u values sum) (sym next) there
