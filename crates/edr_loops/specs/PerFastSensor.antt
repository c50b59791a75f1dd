-- One value for each fast sensor.
use Rattle.edr_items.specs.declared.Sensor.{Sensor}
use Rattle.edr_items.specs.declared.Sensor.TheVariants as sensor
use Rattle.edr_loops.specs.declared.per_fast_sensor.FastSensor.{FastSensor}
use Rattle.edr_loops.specs.declared.per_fast_sensor.FastSensor.TheVariants.{Along, Across, Restraint}
use Rattle.edr_loops.specs.declared.per_fast_sensor.PerFastSensor.{PerFastSensor}

-- the same as one of all sensors
abbrev pub sensor_of : FastSensor → Sensor
sensor_of Along = sensor.Along
sensor_of Across = sensor.Across
sensor_of Restraint = sensor.Restraint

-- the value of that sensor
abbrev pub fast_at : {A : Type 0} → FastSensor → PerFastSensor A → A
fast_at Along p = p.along
fast_at Across p = p.across
fast_at Restraint p = p.restraint

-- the values with another one for that sensor
abbrev pub with_fast_value : {A : Type 0} → FastSensor → A → PerFastSensor A → PerFastSensor A
with_fast_value Along x p = record p { along = x }
with_fast_value Across x p = record p { across = x }
with_fast_value Restraint x p = record p { restraint = x }

-- the same value for each, and the values that a function gives for the sensors, and for the values of others
abbrev pub each_fast_value : {A : Type 0} → A → PerFastSensor A
each_fast_value x = record { along = x; across = x; restraint = x }

abbrev pub fast_values_by : {A : Type 0} → (FastSensor → A) → PerFastSensor A
fast_values_by h = record { along = h Along; across = h Across; restraint = h Restraint }

abbrev pub map_fast_values : {A B : Type 0} → (A → B) → PerFastSensor A → PerFastSensor B
map_fast_values h p = record { along = h p.along; across = h p.across; restraint = h p.restraint }

-- what holds of each fast sensor
pub record EachFast (P : FastSensor → Type 0) : Type 0 where
  pub along : P Along
  pub across : P Across
  pub restraint : P Restraint
