-- The parts that a core has of its own for the time zeros that it comes to.
use Rattle.std.specs.Prelude.{◌≡◌, ℕ, ◌+◌, ◌≤◌, true, false, List, [], ◌∷◌, All}
use Rattle.edr_items.specs.declared.Sensor.{Sensor}
use Rattle.edr_items.specs.Sensor.{slow_sensors}
use Rattle.edr_items.specs.SensorLists.{SensorLists, items_of}
use Rattle.edr_definitions.specs.Schedule.{Progress}
use Rattle.edr_capture.specs.SensorPart.{SensorPart, part}
use Rattle.edr_core.specs.declared.captures.Captures.{Captures}
use Rattle.edr_core.specs.Captures.{CapturesStandFor}
use Rattle.edr_core.specs.SplitHistory.{History}
use Rattle.edr_core.specs.SplitContents.{SplitContents}
use Rattle.edr_core.specs.SplitStandsFor.{SplitCoreStandsFor}

-- no part is asked for
abbrev pub resting_history : ℕ → Progress → List SensorPart → History
resting_history n p parts = record { cycle = n; past = p; asking = false; parts = parts }

-- the parts of these sensors and of the time zero z that the lists give, once they are taken one after the other
abbrev pub parts_after : List Sensor → SensorLists → ℕ → List SensorPart → List SensorPart
parts_after [] f z parts = parts
parts_after (s ∷ ss) f z parts = parts_after ss f z (part s (items_of s f) z ∷ parts)

-- the parts
abbrev pub own_parts : SensorLists → ℕ → List SensorPart → List SensorPart
own_parts f z parts = parts_after slow_sensors f z parts

-- they were taken of the tick past the closed one
abbrev pub with_own_parts : History → History
with_own_parts h = record h { parts = own_parts h.past.given (h.past.closed + 1) h.parts }

-- the split core asks for the parts of this time zero, took none of them, and the captures can give them
pub record AsksFor (c : SplitContents) (captures : Captures) (h : History) (zero : ℕ) : Type 0 where
  pub stands : SplitCoreStandsFor c h
  pub asking : h.asking ≡ true
  pub zero_is : zero ≡ h.past.closed + 1
  pub before : All (λ q. q.zero ≤ h.past.closed) h.parts
  pub captures_are : CapturesStandFor captures h.past.given
