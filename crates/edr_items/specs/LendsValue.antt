-- What the values of the sensors end as, where a `&mut` to one of them is returned.
use Rattle.std.specs.Prelude.{Option}
use Rattle.std.specs.Borrow.{Lends, LendsIf, Fml, RattleType, MutBor}
use Rattle.edr_items.specs.declared.Sensor.{Sensor}
use Rattle.edr_items.specs.declared.per_sensor.PerSensor.{PerSensor}
use Rattle.edr_items.specs.declared.per_slow_sensor.PerSlowSensor.{PerSlowSensor}
use Rattle.edr_items.specs.contracts.per_sensor.PerSensor.{the_row}
use Rattle.edr_items.specs.contracts.per_slow_sensor.PerSlowSensor.{the_row as slow_row}
use Rattle.edr_items.specs.PerSensor.{with_value}
use Rattle.edr_items.specs.PerSlowSensor.{with_slow_value}

-- the sensor ends with the last value after `r`, the others as they were
abbrev pub LendsValue : (T : RattleType) → MutBor (PerSensor T.Denot) → Sensor → MutBor T.Denot → Fml
LendsValue T p s r = Lends (the_row T) T p r (λ w. with_value s w p.now)

-- the same of a slow sensor; where there is none, all stay as they were
abbrev pub LendsSlowValue : (T : RattleType) → MutBor (PerSlowSensor T.Denot) → Sensor → Option (MutBor T.Denot) → Fml
LendsSlowValue T p s r = LendsIf (slow_row T) T p r (λ w. with_slow_value s w p.now) p.now
