-- Laws of the first tick and of the greatest value.
use Rattle.std.proofs.Common.{arith, refl, ap, subst, ◌≡◌, ℕ, zero, suc, ◌+◌, ◌-◌, ◌<◌, ◌≤◌, ◌⊎◌, inl, inr, max, Bool, true, false, cond, Some, None, Option, List, [], ◌∷◌, ◌++◌, ◌∙◌, map, find}
use Rattle.std.specs.List.{range_with_len}
use Rattle.std.proofs.Math.Nat.{eq-or-lt_of_le}
use Rattle.std.proofs.lemmas.Bool.{cases_lt}
use Rattle.std.proofs.lemmas.List.FromFn.{map-range_with_len_more}
use Rattle.edr_definitions.specs.Ticks.{ticks, first_tick, IsFirst, HoldsNowhere, greatest, greatest_of}

-- a test has one answer
pub not_both : (b : Bool) → b ≡ false → b ≡ true → ⊥
not_both b f g = cc

-- a test that fails at a and nowhere in the ticks past a up to t
none_before_more : (p : ℕ → Bool) (a t : ℕ) → p a ≡ false → ((u : ℕ) → a + 1 ≤ u → u < t → p u ≡ false) → (u : ℕ) → a ≤ u → u < t → p u ≡ false
none_before_more p a t here later u lo hi = grind arith

-- the least tick past a that passes is the least from a on, if a fails
pub IsFirst-later : (p : ℕ → Bool) (a t : ℕ) → p a ≡ false → IsFirst p (a + 1) t → IsFirst p a t
IsFirst-later p a t here first = record {
  from = omega (arith, first.from);
  holds = first.holds;
  none_before = none_before_more p a t here first.none_before;
}

-- a itself is the least tick from a on, if it passes
pub IsFirst-here : (p : ℕ → Bool) (a : ℕ) → p a ≡ true → IsFirst p a a
IsFirst-here p a here = record {
  from = omega arith;
  holds = here;
  none_before = λ u lo hi. absurd (omega arith);
}

-- there is one least tick
pub IsFirst-unique : (p : ℕ → Bool) (a t u : ℕ) → IsFirst p a t → IsFirst p a u → t ≡ u
IsFirst-unique p a t u first second =
    let not_before : t < u → ⊥ = λ h. let f : p t ≡ false = second.none_before t first.from h in let g : p t ≡ true = first.holds in cc in
    let not_after : u < t → ⊥ = λ h. let f : p u ≡ false = first.none_before u second.from h in let g : p u ≡ true = second.holds in cc in
    omega arith

find_first_step : (p : ℕ → Bool) (n a t : ℕ) → (find p (range_with_len (a + 1) n) ≡ Some t → IsFirst p (a + 1) t × (t < a + 1 + n)) → (here : Bool) → p a ≡ here → cond here (Some a) (find p (range_with_len (a + 1) n)) ≡ Some t → IsFirst p a t × (t < a + suc n)
find_first_step p n a t later true here h =
    let e : a ≡ t = cc in
    (subst (λ x. IsFirst p a x) e (IsFirst-here p a here), omega arith)
find_first_step p n a t later false here h = (IsFirst-later p a t here (later h).0, omega (arith, (later h).1))

-- what is found among n ticks from a on is the least that passes
find_first : (p : ℕ → Bool) (n a t : ℕ) → find p (range_with_len a n) ≡ Some t → IsFirst p a t × (t < a + n)
find_first p zero a t h = cc
find_first p (suc n) a t h = find_first_step p n a t (find_first p n (a + 1) t) (p a) refl h

find_nowhere_step : (p : ℕ → Bool) (n a : ℕ) → (find p (range_with_len (a + 1) n) ≡ None → (u : ℕ) → a + 1 ≤ u → u < a + 1 + n → p u ≡ false) → (here : Bool) → p a ≡ here → cond here (Some a) (find p (range_with_len (a + 1) n)) ≡ None → (u : ℕ) → a ≤ u → u < a + suc n → p u ≡ false
find_nowhere_step p n a later true here h = cc
find_nowhere_step p n a later false here h = none_before_more p a (a + suc n) here (λ u lo hi. later h u lo (omega arith))

-- where nothing is found, the test fails at each of the n ticks from a on
find_nowhere : (p : ℕ → Bool) (n a : ℕ) → find p (range_with_len a n) ≡ None → (u : ℕ) → a ≤ u → u < a + n → p u ≡ false
find_nowhere p zero a h u lo hi = absurd (omega arith)
find_nowhere p (suc n) a h u lo hi = find_nowhere_step p n a (find_nowhere p n (a + 1)) (p a) refl h u lo hi

-- where the test holds nowhere there is no least tick
pub HoldsNowhere-no_first : (p : ℕ → Bool) (a b u : ℕ) → HoldsNowhere p a b → IsFirst p a u → u < b → ⊥
HoldsNowhere-no_first p a b u nowhere first below = not_both (p u) (nowhere.none u first.from below) first.holds

-- ---- the laws that callers use
pub first_tick-some : (p : ℕ → Bool) (a b t : ℕ) → first_tick p a b ≡ Some t → IsFirst p a t × (t < b)
unfolding first_tick
first_tick-some p a b t h =
    let f : IsFirst p a t × (t < a + (b - a)) = find_first p (b - a) a t h in
    (f.0, omega (arith, f.0.from, f.1))

pub first_tick-none : (p : ℕ → Bool) (a b : ℕ) → first_tick p a b ≡ None → HoldsNowhere p a b
unfolding first_tick
first_tick-none p a b h = record { none = λ u lo hi. find_nowhere p (b - a) a h u lo (omega arith) }

first_tick-is_step : (p : ℕ → Bool) (a b t : ℕ) → IsFirst p a t → t < b → (r : Option ℕ) → first_tick p a b ≡ r → r ≡ Some t
first_tick-is_step p a b t first below None e =
    let f : p t ≡ false = (first_tick-none p a b e).none t first.from below in let g : p t ≡ true = first.holds in cc
first_tick-is_step p a b t first below (Some u) e = ap Some (IsFirst-unique p a u t (first_tick-some p a b u e).0 first)

pub first_tick-is : (p : ℕ → Bool) (a b t : ℕ) → IsFirst p a t → t < b → first_tick p a b ≡ Some t
first_tick-is p a b t first below = first_tick-is_step p a b t first below (first_tick p a b) refl

first_tick-is_none_step : (p : ℕ → Bool) (a b : ℕ) → HoldsNowhere p a b → (r : Option ℕ) → first_tick p a b ≡ r → r ≡ None
first_tick-is_none_step p a b nowhere None e = refl
first_tick-is_none_step p a b nowhere (Some u) e =
    let found = first_tick-some p a b u e in
    let f : p u ≡ false = nowhere.none u found.0.from found.1 in let g : p u ≡ true = found.0.holds in cc

pub first_tick-is_none : (p : ℕ → Bool) (a b : ℕ) → HoldsNowhere p a b → first_tick p a b ≡ None
first_tick-is_none p a b nowhere = first_tick-is_none_step p a b nowhere (first_tick p a b) refl

-- ---- ticks one after the other
pub ticks-cons : (a b : ℕ) → a < b → ticks a b ≡ a ∷ ticks (a + 1) b
ticks-cons a b h = let e : b - a ≡ suc (b - (a + 1)) = omega arith in rw e refl

pub ticks-none : (a b : ℕ) → b ≤ a → ticks a b ≡ []
ticks-none a b h = let e : b - a ≡ 0 = omega arith in rw e refl

-- ---- the greatest value
pub greatest-cons : (f : ℕ → ℕ) (a b : ℕ) → a < b → greatest f a b ≡ max (f a) (greatest f (a + 1) b)
unfolding greatest
greatest-cons f a b h = rw (ticks-cons a b h) refl

pub greatest-none : (f : ℕ → ℕ) (a b : ℕ) → b ≤ a → greatest f a b ≡ 0
unfolding greatest
greatest-none f a b h = rw (ticks-none a b h) refl

greatest_of_at_step : (f : ℕ → ℕ) (n a u : ℕ) → u < a + suc n → (a + 1 ≤ u → u < a + 1 + n → f u ≤ greatest_of (map f (range_with_len (a + 1) n))) → (a ≡ u) ⊎ (a < u) → f u ≤ greatest_of (map f (range_with_len a (suc n)))
greatest_of_at_step f n a u hi later (inl e) = let same : f a ≡ f u = ap f e in omega arith
greatest_of_at_step f n a u hi later (inr past) = let h = later (omega arith) (omega arith) in omega (arith, h)

greatest_of_at : (f : ℕ → ℕ) (n a u : ℕ) → a ≤ u → u < a + n → f u ≤ greatest_of (map f (range_with_len a n))
greatest_of_at f zero a u lo hi = absurd (omega arith)
greatest_of_at f (suc n) a u lo hi = greatest_of_at_step f n a u hi (greatest_of_at f n (a + 1) u) (eq-or-lt_of_le lo)

pub greatest-at : (f : ℕ → ℕ) (a b u : ℕ) → a ≤ u → u < b → f u ≤ greatest f a b
unfolding greatest
greatest-at f a b u lo hi = greatest_of_at f (b - a) a u lo (omega arith)

greatest_of_reached_step : (f : ℕ → ℕ) (n a size : ℕ) → size ≤ greatest_of (map f (range_with_len a (suc n))) → (size ≤ greatest_of (map f (range_with_len (a + 1) n)) → (u : ℕ) × (a + 1 ≤ u) × (u < a + 1 + n) × (size ≤ f u)) → (f a < size) ⊎ (size ≤ f a) → (u : ℕ) × (a ≤ u) × (u < a + suc n) × (size ≤ f u)
greatest_of_reached_step f n a size h later (inl less) = let w = later (omega arith) in (w.0, omega (arith, w.1), omega (arith, w.2), w.3)
greatest_of_reached_step f n a size h later (inr here) = (a, omega arith, omega arith, here)

greatest_of_reached : (f : ℕ → ℕ) (n a size : ℕ) → 0 < size → size ≤ greatest_of (map f (range_with_len a n)) → (u : ℕ) × (a ≤ u) × (u < a + n) × (size ≤ f u)
greatest_of_reached f zero a size some h = absurd (omega arith)
greatest_of_reached f (suc n) a size some h = greatest_of_reached_step f n a size h (greatest_of_reached f n (a + 1) size some) (cases_lt (f a) size)

-- a size that is reached is reached at some tick
pub greatest-reached : (f : ℕ → ℕ) (a b size : ℕ) → 0 < size → size ≤ greatest f a b → (u : ℕ) × (a ≤ u) × (u < b) × (size ≤ f u)
unfolding greatest
greatest-reached f a b size some h =
    let w = greatest_of_reached f (b - a) a size some h in (w.0, w.1, omega (arith, w.1, w.2), w.3)

-- ---- one more tick at the upper end
greatest_of-push : (xs : List ℕ) (x : ℕ) → greatest_of (xs ++ x ∷ []) ≡ max (greatest_of xs) x
greatest_of-push [] x = omega arith
greatest_of-push (y ∷ ys) x = let h = greatest_of-push ys x in omega (arith, h)

pub ticks-push : (a b : ℕ) → a ≤ b → (X : Type 0) (f : ℕ → X) → map f (ticks a (b + 1)) ≡ map f (ticks a b) ++ f b ∷ []
ticks-push a b h X f =
    let e : b + 1 - a ≡ b - a + 1 = omega arith in
    rw e (map-range_with_len_more f a (b - a) b (omega arith))

pub greatest-push : (f : ℕ → ℕ) (a b : ℕ) → a ≤ b → greatest f a (b + 1) ≡ max (greatest f a b) (f b)
unfolding greatest
greatest-push f a b h = ap greatest_of (ticks-push a b h ℕ f) ∙ greatest_of-push (map f (ticks a b)) (f b)
