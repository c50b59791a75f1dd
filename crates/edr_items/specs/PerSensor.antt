-- One value for each sensor.
use Rattle.std.specs.Prelude.{ℕ, ◌+◌}
use Rattle.edr_items.specs.declared.Sensor.{Sensor}
use Rattle.edr_items.specs.declared.Sensor.TheVariants.{Along, Across, Speed, Throttle, Brake, Belt, Lamp, Restraint}
use Rattle.edr_items.specs.declared.per_sensor.PerSensor.{PerSensor}

-- the value of one sensor
abbrev pub value_of : {A : Type 0} → Sensor → PerSensor A → A
value_of Along p = p.along
value_of Across p = p.across
value_of Speed p = p.speed
value_of Throttle p = p.throttle
value_of Brake p = p.brake
value_of Belt p = p.belt
value_of Lamp p = p.lamp
value_of Restraint p = p.restraint

-- the values with another one for that sensor
abbrev pub with_value : {A : Type 0} → Sensor → A → PerSensor A → PerSensor A
with_value Along x p = record p { along = x }
with_value Across x p = record p { across = x }
with_value Speed x p = record p { speed = x }
with_value Throttle x p = record p { throttle = x }
with_value Brake x p = record p { brake = x }
with_value Belt x p = record p { belt = x }
with_value Lamp x p = record p { lamp = x }
with_value Restraint x p = record p { restraint = x }

-- the same value for each sensor
abbrev pub each_value : {A : Type 0} → A → PerSensor A
each_value x = record { along = x; across = x; speed = x; throttle = x; brake = x; belt = x; lamp = x; restraint = x }

-- the values that a function gives for those
abbrev pub map_values : {A B : Type 0} → (A → B) → PerSensor A → PerSensor B
map_values h p = record {
  along = h p.along;
  across = h p.across;
  speed = h p.speed;
  throttle = h p.throttle;
  brake = h p.brake;
  belt = h p.belt;
  lamp = h p.lamp;
  restraint = h p.restraint;
}

-- the values that a function gives for the sensors
abbrev pub values_by : {A : Type 0} → (Sensor → A) → PerSensor A
values_by h = record {
  along = h Along;
  across = h Across;
  speed = h Speed;
  throttle = h Throttle;
  brake = h Brake;
  belt = h Belt;
  lamp = h Lamp;
  restraint = h Restraint;
}

-- the sum of a number of each value
abbrev pub total_of : {A : Type 0} → (A → ℕ) → PerSensor A → ℕ
total_of h p =
    h p.along + h p.across + h p.speed + h p.throttle
    + (h p.brake + h p.belt + h p.lamp + h p.restraint)
