-- What is kept of the last 20 ticks of an axis.
use Rattle.std.specs.Prelude.{◌≡◌, ℕ, ◌+◌, ◌-◌, ◌%◌, ◌<◌, ◌≤◌, ℤ, pos, Option, List, slice_index_or}
use Rattle.edr_definitions.specs.declared.limits.TheConstants.{QUIET_TICKS}
use Rattle.edr_definitions.specs.Windows.{change_at, delta_v}

-- each of the 20 places has a 0
abbrev pub AreZeros : List ℤ → Type 0
AreZeros values = (i : ℕ) → i < QUIET_TICKS → slice_index_or values i (pos 0) ≡ pos 0

-- at the tick t it has the changes of the axis in the last 20 ticks, 0 in the places that no tick has filled, and the change of speed over them
pub record LatestStandsFor (axis : ℕ → Option ℤ) (t : ℕ) (values : List ℤ) (sum : ℤ) : Type 0 where
  pub at : (u : ℕ) → u ≤ t → t < u + QUIET_TICKS → slice_index_or values (u % QUIET_TICKS) (pos 0) ≡ change_at axis u
  pub unfilled : (i : ℕ) → t < i → i < QUIET_TICKS → slice_index_or values i (pos 0) ≡ pos 0
  pub sum_is : sum ≡ delta_v axis (t - QUIET_TICKS) t
