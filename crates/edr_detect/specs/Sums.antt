-- A list of small changes, and their sum.
use Rattle.std.specs.Prelude.{◌≡◌, ℕ, ◌<◌, ◌≤◌, ℤ, pos, unsigned_abs, List, length, slice_index_or}
use Rattle.edr_items.specs.declared.TheConstants.{GREATEST_ACCELERATION}
use Rattle.edr_definitions.specs.declared.limits.TheConstants.{QUIET_TICKS}
use Rattle.edr_definitions.specs.Ticks.{int_sum}

-- the list has 20 numbers, each as small as a sample, and this sum
pub record IsSumOfSmall (values : List ℤ) (sum : ℤ) : Type 0 where
  pub long : length values ≡ QUIET_TICKS
  pub sum_is : sum ≡ int_sum values
  pub small : (i : ℕ) → i < QUIET_TICKS → unsigned_abs (slice_index_or values i (pos 0)) ≤ GREATEST_ACCELERATION
