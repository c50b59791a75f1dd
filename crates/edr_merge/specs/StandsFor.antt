-- What a `Merge` was given so far, and up to where it has closed.
use Rattle.std.specs.Prelude.{◌≡◌, ℕ, ◌+◌, ◌≤◌}
use Rattle.edr_items.specs.declared.TheConstants.{LONGEST_GAP}
use Rattle.edr_items.specs.declared.Sensor.{Sensor}
use Rattle.edr_items.specs.Item.{mark_of}
use Rattle.edr_items.specs.SensorLists.{SensorLists, items_of, AreFeeds, horizon_of}
use Rattle.edr_definitions.specs.Schedule.{Progress}
use Rattle.edr_merge.specs.declared.rings.Rings.{Rings}
use Rattle.edr_merge.specs.Marks.{mark_in}
use Rattle.edr_merge.specs.Samples.{waiting_samples}
use Rattle.edr_merge.specs.State.{MergeState}

-- the rings hold the samples of the lists that are past the tick
pub record AreWaiting (t : ℕ) (r : Rings) (f : SensorLists) : Type 0 where
  pub along_is : r.along ≡ waiting_samples t f.along
  pub across_is : r.across ≡ waiting_samples t f.across
  pub restraint_is : r.restraint ≡ waiting_samples t f.restraint

-- the merge has come that far: what was given are feeds that reach the closed tick and are at most a gap ahead of it, and it has their marks and what waits of them
pub record MergeStandsFor (m : MergeState) (p : Progress) : Type 0 where
  pub feeds : AreFeeds p.given
  pub within : p.closed ≤ horizon_of p.given
  pub near : (s : Sensor) → mark_of (items_of s p.given) ≤ p.closed + LONGEST_GAP
  pub closed_is : m.closed ≡ p.closed
  pub marks_are : (s : Sensor) → mark_in s m.marks ≡ mark_of (items_of s p.given)
  pub waits : AreWaiting p.closed m.rings p.given
