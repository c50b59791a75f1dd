-- The last moments of the sensors.
use Rattle.std.specs.Prelude.{ℕ, Bool, nat_eq, Option, find}
use Rattle.edr_items.specs.declared.Sensor.{Sensor}
use Rattle.edr_items.specs.declared.per_sensor.PerSensor.{PerSensor}
use Rattle.edr_items.specs.PerSensor.{value_of, with_value, each_value}
use Rattle.edr_items.specs.SensorLists.{sensors}

abbrev pub Marks : Type 0
Marks = PerSensor ℕ

-- no sensor has given an item yet
abbrev pub no_marks : Marks
no_marks = each_value 0

-- the mark of one sensor
abbrev pub mark_in : Sensor → Marks → ℕ
mark_in s m = value_of s m

-- the marks with another one for that sensor
abbrev pub with_mark : Sensor → ℕ → Marks → Marks
with_mark s t m = with_value s t m

-- the sensor's mark is that tick
abbrev pub is_marked_at : Marks → ℕ → Sensor → Bool
is_marked_at m t s = nat_eq (mark_in s m) t

-- the lowest-numbered sensor whose mark is that tick
unfoldable pub first_at : Marks → ℕ → Option Sensor
first_at m t = find (is_marked_at m t) sensors
