-- The fields of a `Merge`.
use Rattle.std.specs.Prelude.{◌≤◌, All}
use Rattle.edr_items.specs.declared.TheConstants.{LATEST_MOMENT}
use Rattle.edr_items.specs.declared.Sensor.{Sensor}
use Rattle.edr_merge.specs.declared.Merge.TheInside.{Inside}
use Rattle.edr_merge.specs.Marks.{mark_in}
use Rattle.edr_merge.specs.Lag.{IsBelowSlow}
use Rattle.edr_merge.specs.Samples.{IsFiring}
use Rattle.edr_merge.specs.State.{MergeState}

abbrev pub state_of : Inside → MergeState
state_of m = record { closed = m.closed; marks = m.marks; rings = m.rings }

-- no mark is before the closed tick or past a cycle, none of a slow sensor is before its bound, and what waits of the restraints are their bits
pub record IsSound (m : Inside) : Type 0 where
  pub closed_low : (s : Sensor) → m.closed ≤ mark_in s m.marks
  pub marks_low : (s : Sensor) → mark_in s m.marks ≤ LATEST_MOMENT
  pub slow_low : IsBelowSlow m.slow m.marks
  pub firings : All IsFiring m.rings.restraint
