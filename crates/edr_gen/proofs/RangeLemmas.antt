-- The values of a planned cycle lie in the ranges of their sensors.
use Rattle.std.proofs.Common.{arith, ◌≡◌, refl, ℕ, zero, suc, ◌+◌, ◌*◌, ◌%◌, ◌≤◌, pos, neg_ℤ, nat_le, Bool, true, false, cond, Option, Some, List, [], ◌∷◌, ◌++◌, find}
use Rattle.std.specs.List.{AllByRecursion}
use Rattle.std.proofs.lemmas.Bool.Decides.{nat_tests}
use Rattle.edr_items.specs.declared.Sensor.TheVariants.{Along, Across}
use Rattle.edr_items.specs.Sensor.{is_in_range}
use Rattle.edr_gen.specs.declared.plan.Impulse.{Impulse}
use Rattle.edr_gen.specs.Draws.{draw, impulse_from, impulses_from}
use Rattle.edr_gen.specs.Cycles.{acting_at, acts_at, along_of, across_of}

-- both values of an impulse lie in the range of their sensor
abbrev pub IsInRange : Impulse → Type 0
IsInRange i = (is_in_range Along i.along ≡ true) × (is_in_range Across i.across ≡ true)

pub leq : (m n : ℕ) → m ≤ n → nat_le m n ≡ true
leq m n h = grind (arith, nat_tests)

along-range : (n : ℕ) → n ≤ 100000 → is_in_range Along (neg_ℤ (pos n)) ≡ true
along-range zero h = refl
along-range (suc n) h = rw (leq n 99999 (omega (arith, h))) refl

across-range : (n : ℕ) → n ≤ 100000 → is_in_range Across (pos n) ≡ true
across-range n h = rw (leq n 100000 h) refl

impulse-range : (i x k : ℕ) → IsInRange (impulse_from i x k)
impulse-range i x k = (along-range (1000 + draw x (k + 3) % 4000) (omega arith), across-range (draw x (k + 4) % 2000) (omega arith))

pub all-append : {X : Type 0} (P : X → Type 0) (xs ys : List X) → AllByRecursion P xs → AllByRecursion P ys → AllByRecursion P (xs ++ ys)
all-append P [] ys h k = k
all-append P (x ∷ xs) ys h k = (h.0, all-append P xs ys h.1 k)

pub impulses-range : (x n : ℕ) → AllByRecursion IsInRange (impulses_from x n)
unfolding impulses_from
impulses-range x zero = tt
impulses-range x (suc n) = all-append IsInRange (impulses_from x n) (impulse_from n x (5 * n + 1) ∷ []) (impulses-range x n) (impulse-range n x (5 * n + 1), tt)

-- the values at a tick
abbrev InRange : Option Impulse → Type 0
InRange o = (is_in_range Along (along_of o) ≡ true) × (is_in_range Across (across_of o) ≡ true)

found-range : (p : Impulse → Bool) (xs : List Impulse) → AllByRecursion IsInRange xs → InRange (find p xs)
found-range p [] h = (refl, refl)
found-range p (i ∷ xs) h = by (p i) (found-range p xs h.1)
  where
    by : (b : Bool) → InRange (find p xs) → InRange (cond b (Some i) (find p xs))
    by true k = h.0
    by false k = k

pub acting-range : (impulses : List Impulse) (t : ℕ) → AllByRecursion IsInRange impulses → InRange (acting_at impulses t)
unfolding acting_at
acting-range impulses t h = found-range (acts_at t) impulses h
