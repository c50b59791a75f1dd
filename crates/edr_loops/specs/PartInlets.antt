-- What a contract sees of the inlets of the slow sensors.
use Rattle.std.specs.Prelude.{List, [], ◌∷◌, ◌++◌, unwrap_or}
use Rattle.std.specs.List.{Contains}
use Rattle.edr_items.specs.declared.Sensor.{Sensor}
use Rattle.edr_items.specs.PerSlowSensor.{slow_value_of, with_slow_value}
use Rattle.edr_capture.specs.SensorPart.{SensorPart}
use Rattle.edr_loops.specs.Lanes.{SlowParts}

-- those of one sensor; the other three have none
abbrev pub parts_of : Sensor → SlowParts → List SensorPart
parts_of s l = unwrap_or (slow_value_of s l) []

-- the lists with that part at the end of the sensor's
abbrev pub with_part : Sensor → SensorPart → SlowParts → SlowParts
with_part s q l = with_slow_value s (parts_of s l ++ q ∷ []) l

-- the part is one of its sensor's
abbrev pub IsTakenPart : SlowParts → SensorPart → Type 0
IsTakenPart l q = Contains (parts_of q.sensor l) q
