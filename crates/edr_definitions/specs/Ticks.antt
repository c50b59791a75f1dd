-- Ticks of 1 ms, and the first or the greatest over them.
use Rattle.std.specs.Prelude.{◌≡◌, ℕ, ◌-◌, ◌<◌, ◌≤◌, max, Bool, true, false, Option, ℤ, pos, ◌+ℤ◌, List, [], ◌∷◌, map, find}
use Rattle.std.specs.List.{range_with_len}

-- the ticks from a on, up to but not b, as Rust's `a..b`
abbrev pub ticks : ℕ → ℕ → List ℕ
ticks a b = range_with_len a (b - a)

-- the first of the ticks `a..b` at which the test holds, if there is one
unfoldable pub first_tick : (ℕ → Bool) → ℕ → ℕ → Option ℕ
first_tick p a b = find p (ticks a b)

-- t is the least tick from a on at which the test holds
pub record IsFirst (p : ℕ → Bool) (a t : ℕ) : Type 0 where
  pub from : a ≤ t
  pub holds : p t ≡ true
  pub none_before : (u : ℕ) → a ≤ u → u < t → p u ≡ false

-- the test holds at none of the ticks `a..b`
pub record HoldsNowhere (p : ℕ → Bool) (a b : ℕ) : Type 0 where
  pub none : (u : ℕ) → a ≤ u → u < b → p u ≡ false

-- the greatest number of a list, and 0 of none
abbrev pub greatest_of : List ℕ → ℕ
greatest_of [] = 0
greatest_of (x ∷ xs) = max x (greatest_of xs)

-- the greatest of `f t` over the ticks `a..b`, and 0 with no tick
unfoldable pub greatest : (ℕ → ℕ) → ℕ → ℕ → ℕ
greatest f a b = greatest_of (map f (ticks a b))

-- the sum of a list of whole numbers
abbrev pub int_sum : List ℤ → ℤ
int_sum [] = pos 0
int_sum (x ∷ xs) = x +ℤ int_sum xs
