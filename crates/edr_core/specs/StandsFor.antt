-- What a `Core` stands for: its cycle, what was given of it, and up to where it has closed.
use Rattle.std.specs.Prelude.{◌≡◌, ℕ, ◌≤◌, List}
use Rattle.edr_definitions.specs.Schedule.{Progress}
use Rattle.edr_capture.specs.SensorPart.{SensorPart}
use Rattle.edr_core.specs.Captures.{CapturesStandFor}
use Rattle.edr_core.specs.Parts.{AreSlotsOf, parts_of}
use Rattle.edr_core.specs.SplitStandsFor.{SplitCoreStandsFor}
use Rattle.edr_core.specs.OwnParts.{resting_history}
use Rattle.edr_core.specs.Contents.{CoreContents}

-- the core of cycle n was given these items and has closed these ticks: so was the one but for the slow sensors, which took their
-- own parts
pub record CoreIsFor (c : CoreContents) (n : ℕ) (p : Progress) : Type 0 where
  pub cycle_is : c.cycle ≡ n
  pub cycle_from : 1 ≤ n
  pub cycle_to : n ≤ 4_294_967_295
  pub closed_is : c.closed ≡ p.closed
  pub parts : List SensorPart
  pub split_is : SplitCoreStandsFor c.split (resting_history n p parts)
  pub parts_are : AreSlotsOf parts (parts_of p.given)
  pub captures_are : CapturesStandFor c.captures p.given
