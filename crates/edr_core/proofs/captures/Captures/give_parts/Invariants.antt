use Rattle.std.proofs.Common.{drop}
use Rattle.edr_items.specs.Sensor.{slow_sensors}
use Rattle.edr_core.specs.SplitHistory.{History}
use Rattle.edr_core.specs.OwnParts.{AsksFor}
use Rattle.edr_core.proofs.OwnLemmas.{AreToTake}
use Rattle.edr_core.proofs.captures.Captures.give_parts.Given as goal

-- the parts of the sensors that are left are still to be taken
abbrev pub invariant-loop-sensor : goal.invariant-loop-sensor
invariant-loop-sensor l = (w : History) → AsksFor l.fn.split l.self w l.zero → AreToTake l.split w (drop l.sensor-index slow_sensors)
