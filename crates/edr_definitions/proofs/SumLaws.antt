-- The change of speed over ticks is the sum of the samples of a list.
use Rattle.std.proofs.Common.{arith, refl, ap, sym, subst, ◌≡◌, ◌≢◌, ◌∙◌, ℕ, zero, suc, ◌+◌, ◌-◌, ◌<◌, ◌≤◌, ◌⊎◌, inl, inr, Bool, true, false, cond, ◌&&◌, nat_lt, nat_le, nat_eq, ℤ, pos, ◌+ℤ◌, unwrap_or, None, Option, List, [], ◌∷◌, map, filter}
use Rattle.std.specs.List.{range_with_len}
use Rattle.std.proofs.lemmas.Int.{ints}
use Rattle.std.proofs.lemmas.Bool.{cases_lt}
use Rattle.edr_items.specs.declared.Item.{Item}
use Rattle.edr_items.specs.Item.{IsRising}
use Rattle.edr_definitions.specs.Ticks.{ticks, int_sum}
use Rattle.edr_definitions.specs.Signals.{sample_at}
use Rattle.edr_definitions.specs.Windows.{change_at, delta_v, sum_between}
use Rattle.edr_definitions.proofs.SampleLaws.{sample_at-other, sample_at-here, sample_at-none}

-- the sum of two
int_sum-add : (f g h : ℕ → ℤ) → ((u : ℕ) → h u ≡ f u +ℤ g u) → (n a : ℕ) → int_sum (map h (range_with_len a n)) ≡ int_sum (map f (range_with_len a n)) +ℤ int_sum (map g (range_with_len a n))
int_sum-add f g h is zero a = omega (arith, ints)
int_sum-add f g h is (suc n) a = let here = is a in let rest = int_sum-add f g h is n (a + 1) in omega (arith, ints, here, rest)

int_sum-zero : (f : ℕ → ℤ) → (n a : ℕ) → ((u : ℕ) → a ≤ u → u < a + n → f u ≡ pos 0) → int_sum (map f (range_with_len a n)) ≡ pos 0
int_sum-zero f zero a none = refl
int_sum-zero f (suc n) a none =
    let here = none a (omega arith) (omega arith) in
    let rest = int_sum-zero f n (a + 1) (λ u lo hi. none u (omega arith) (omega arith)) in omega (arith, ints, here, rest)

-- a value at one tick only
spike : ℕ → ℤ → ℕ → ℤ
spike m v u = cond (nat_eq m u) v (pos 0)

spike-here : (m : ℕ) (v : ℤ) → spike m v m ≡ v
unfolding spike
spike-here m v = let e : nat_eq m m ≡ true = grind arith in rw e refl

spike-other : (m : ℕ) (v : ℤ) (u : ℕ) → m ≢ u → spike m v u ≡ pos 0
unfolding spike
spike-other m v u ne = let e : nat_eq m u ≡ false = grind arith in rw e refl

int_sum-spike_out : (m : ℕ) (v : ℤ) (n a : ℕ) → (m < a) ⊎ (a + n ≤ m) → int_sum (map (spike m v) (range_with_len a n)) ≡ pos 0
int_sum-spike_out m v n a (inl early) = int_sum-zero (spike m v) n a (λ u lo hi. spike-other m v u (omega arith))
int_sum-spike_out m v n a (inr late) = int_sum-zero (spike m v) n a (λ u lo hi. spike-other m v u (omega arith))

int_sum-spike_in : (m : ℕ) (v : ℤ) (n a : ℕ) → a ≤ m → m < a + n → int_sum (map (spike m v) (range_with_len a n)) ≡ v
int_sum-spike_in m v zero a lo hi = absurd (omega arith)
int_sum-spike_in m v (suc n) a lo hi = spike_step m v n a lo hi (int_sum-spike_in m v n (a + 1)) (cases_lt a m) where
  spike_step : (m : ℕ) (v : ℤ) (n a : ℕ) → a ≤ m → m < a + suc n → (a + 1 ≤ m → m < a + 1 + n → int_sum (map (spike m v) (range_with_len (a + 1) n)) ≡ v) → (a < m) ⊎ (m ≤ a) → int_sum (map (spike m v) (range_with_len a (suc n))) ≡ v
  spike_step m v n a lo hi later (inl past) =
      let here = spike-other m v a (omega arith) in
      let rest = later (omega arith) (omega arith) in omega (arith, ints, here, rest)
  spike_step m v n a lo hi later (inr same) =
      let e : a ≡ m = omega arith in
      let here : spike m v a ≡ v = subst (λ u. spike m v u ≡ v) (sym e) (spike-here m v) in
      let rest = int_sum-spike_out m v n (a + 1) (inl (omega arith)) in omega (arith, ints, here, rest)

-- the items after the first rise, and no later one has its moment
pub IsRising-tail : (x : Item) (xs : List Item) → IsRising (x ∷ xs) → IsRising xs
IsRising-tail x xs r = record { rises = λ i j d lt in_list. r.rises (suc i) (suc j) d (omega arith) (omega arith) }

sample_at-head_once : (x : Item) (xs : List Item) → IsRising (x ∷ xs) → sample_at xs x.moment ≡ None
sample_at-head_once x xs r = sample_at-none xs x.moment x (λ k lt. let h = r.rises 0 (suc k) x (omega arith) (omega arith) in omega arith)

pub same_or_not : (a b : ℕ) → (a ≡ b) ⊎ (a ≢ b)
same_or_not a b = elim (cases_lt a b) [
  | inl less ↦ inr (omega arith)
  | inr at_least ↦ elim (cases_lt b a) [ inl more ↦ inr (omega arith) | inr at_most ↦ inl (omega arith) ]
]

change_at-cons_step : (x : Item) (xs : List Item) → IsRising (x ∷ xs) → (u : ℕ) → (x.moment ≡ u) ⊎ (x.moment ≢ u) → change_at (sample_at (x ∷ xs)) u ≡ spike x.moment (unwrap_or x.value (pos 0)) u +ℤ change_at (sample_at xs) u
change_at-cons_step x xs r u (inl here) =
    let v = unwrap_or x.value (pos 0) in
    let first : change_at (sample_at (x ∷ xs)) u ≡ v = ap (λ (o : Option ℤ). unwrap_or o (pos 0)) (sample_at-here x xs u here) in
    let spiked : spike x.moment v u ≡ v = subst (λ w. spike x.moment v w ≡ v) here (spike-here x.moment v) in
    let rest : change_at (sample_at xs) u ≡ pos 0 = ap (λ (o : Option ℤ). unwrap_or o (pos 0)) (subst (λ w. sample_at xs w ≡ None) here (sample_at-head_once x xs r)) in
    omega (arith, ints, first, spiked, rest)
change_at-cons_step x xs r u (inr other) =
    let v = unwrap_or x.value (pos 0) in
    let first : change_at (sample_at (x ∷ xs)) u ≡ change_at (sample_at xs) u = ap (λ (o : Option ℤ). unwrap_or o (pos 0)) (sample_at-other x xs u other) in
    let spiked : spike x.moment v u ≡ pos 0 = spike-other x.moment v u other in
    omega (arith, ints, first, spiked)

-- the changes of a list are a spike at its first item, and those of the rest
change_at-cons : (x : Item) (xs : List Item) → IsRising (x ∷ xs) → (u : ℕ) → change_at (sample_at (x ∷ xs)) u ≡ spike x.moment (unwrap_or x.value (pos 0)) u +ℤ change_at (sample_at xs) u
change_at-cons x xs r u = change_at-cons_step x xs r u (same_or_not x.moment u)

outside_is : (s t m : ℕ) → (nat_lt s m && nat_le m t) ≡ false → (m < s + 1) ⊎ (s + 1 + (t + 1 - (s + 1)) ≤ m)
outside_is s t m h = elim (cases_lt s m) [
  | inr early ↦ inl (omega arith)
  | inl past ↦ let late : t < m = grind arith in inr (omega arith)
]

-- the value of an item, and 0 without one
abbrev value_of : Item → ℤ
value_of x = unwrap_or x.value (pos 0)

-- the sum of a spike over an interval, as the test of the list's sum has it
spike_cases : (s t : ℕ) (x : Item) (xs : List Item) (rest : ℤ) → int_sum (map value_of xs) ≡ rest → (b : Bool) → (nat_lt s x.moment && nat_le x.moment t) ≡ b → int_sum (map (spike x.moment (value_of x)) (ticks (s + 1) (t + 1))) +ℤ rest ≡ int_sum (map value_of (cond b (x ∷ xs) xs))
spike_cases s t x xs rest e true inside =
    let lo : s < x.moment = grind arith in
    let hi : x.moment ≤ t = grind arith in
    let one = int_sum-spike_in x.moment (value_of x) (t + 1 - (s + 1)) (s + 1) (omega arith) (omega arith) in
    omega (arith, ints, one, e)
spike_cases s t x xs rest e false outside =
    let none = int_sum-spike_out x.moment (value_of x) (t + 1 - (s + 1)) (s + 1) (outside_is s t x.moment outside) in
    omega (arith, ints, none, e)

-- for a list that rises, both sums are the same
pub delta_v-sum_between : (xs : List Item) (s t : ℕ) → IsRising xs → delta_v (sample_at xs) s t ≡ sum_between xs s t
unfolding delta_v sum_between
delta_v-sum_between [] s t r = int_sum-zero (change_at (sample_at [])) (t + 1 - (s + 1)) (s + 1) (λ u lo hi. ap (λ (o : Option ℤ). unwrap_or o (pos 0)) (sample_at-none [] u (record { moment = 0; value = None }) (λ k lt. absurd (omega arith))))
delta_v-sum_between (x ∷ xs) s t r =
    int_sum-add (spike x.moment (value_of x)) (change_at (sample_at xs)) (change_at (sample_at (x ∷ xs))) (change_at-cons x xs r) (t + 1 - (s + 1)) (s + 1)
    ∙ spike_cases s t x (filter (λ y. nat_lt s y.moment && nat_le y.moment t) xs) (delta_v (sample_at xs) s t) (sym (delta_v-sum_between xs s t (IsRising-tail x xs r))) (nat_lt s x.moment && nat_le x.moment t) refl
