-- One value for each slow sensor.
use Rattle.std.specs.Prelude.{is_none, find, Option, Some, None, Result, Ok, Err, List, [], ◌∷◌, ◌⊎◌}
use Rattle.edr_items.specs.declared.Sensor.{Sensor}
use Rattle.edr_items.specs.declared.Sensor.TheVariants.{Along, Across, Speed, Throttle, Brake, Belt, Lamp, Restraint}
use Rattle.edr_items.specs.declared.per_sensor.PerSensor.{PerSensor}
use Rattle.edr_items.specs.declared.per_slow_sensor.PerSlowSensor.{PerSlowSensor}
use Rattle.edr_items.specs.Sensor.{slow_sensors, IsSlow}

-- the value of one sensor; the other three have none
abbrev pub slow_value_of : {A : Type 0} → Sensor → PerSlowSensor A → Option A
slow_value_of Along p = None
slow_value_of Across p = None
slow_value_of Speed p = Some p.speed
slow_value_of Throttle p = Some p.throttle
slow_value_of Brake p = Some p.brake
slow_value_of Belt p = Some p.belt
slow_value_of Lamp p = Some p.lamp
slow_value_of Restraint p = None

-- the values with another one for that sensor
abbrev pub with_slow_value : {A : Type 0} → Sensor → A → PerSlowSensor A → PerSlowSensor A
with_slow_value Along x p = p
with_slow_value Across x p = p
with_slow_value Speed x p = record p { speed = x }
with_slow_value Throttle x p = record p { throttle = x }
with_slow_value Brake x p = record p { brake = x }
with_slow_value Belt x p = record p { belt = x }
with_slow_value Lamp x p = record p { lamp = x }
with_slow_value Restraint x p = p

-- the same value for each slow sensor
abbrev pub each_slow_value : {A : Type 0} → A → PerSlowSensor A
each_slow_value x = record { speed = x; throttle = x; brake = x; belt = x; lamp = x }

-- the values that a function gives for those
abbrev pub map_slow_values : {A B : Type 0} → (A → B) → PerSlowSensor A → PerSlowSensor B
map_slow_values h p = record { speed = h p.speed; throttle = h p.throttle; brake = h p.brake; belt = h p.belt; lamp = h p.lamp }

-- ---- each slow sensor

-- what holds of each slow sensor
abbrev pub EachSlow : (Sensor → Type 0) → Type 0
EachSlow P = (s : Sensor) → IsSlow s → P s

-- the value of one slow sensor; the other three have that of the first
abbrev pub slow_at : {A : Type 0} → Sensor → PerSlowSensor A → A
slow_at Along p = p.speed
slow_at Across p = p.speed
slow_at Speed p = p.speed
slow_at Throttle p = p.throttle
slow_at Brake p = p.brake
slow_at Belt p = p.belt
slow_at Lamp p = p.lamp
slow_at Restraint p = p.speed

-- the values that a function gives for the sensors
abbrev pub slow_values_by : {A : Type 0} → (Sensor → A) → PerSlowSensor A
slow_values_by h = record { speed = h Speed; throttle = h Throttle; brake = h Brake; belt = h Belt; lamp = h Lamp }

-- ---- among all sensors

-- those of the slow sensors among the values of all sensors
abbrev pub slow_values : {A : Type 0} → PerSensor A → PerSlowSensor A
slow_values p = record { speed = p.speed; throttle = p.throttle; brake = p.brake; belt = p.belt; lamp = p.lamp }

-- values of all sensors, of which the other three have this one
abbrev pub with_slow_values : {A : Type 0} → A → PerSlowSensor A → PerSensor A
with_slow_values x p = record { along = x; across = x; speed = p.speed; throttle = p.throttle; brake = p.brake; belt = p.belt; lamp = p.lamp; restraint = x }

-- ---- the first sensor without a value

-- the lowest-numbered slow sensor that has no value
unfoldable pub first_without : {A : Type 0} → PerSlowSensor (Option A) → Option Sensor
first_without p = find (λ s. is_none (slow_at s p)) slow_sensors

-- of these sensors a function gives a value for each up to one, and for that one this error
abbrev pub FailsFirst : {T E : Type 0} → (Sensor → Result T E → Type 0) → E → List Sensor → Type 0
FailsFirst gives error [] = ⊥
FailsFirst gives error (s ∷ rest) = gives s (Err error) ⊎ ((value : _) × gives s (Ok value) × FailsFirst gives error rest)
