use Rattle.std.proofs.Common.{rules, ap, ◌≡◌, ◌∙◌, sym, [], List}
use Rattle.edr_items.specs.declared.Sensor.{Sensor}
use Rattle.edr_items.specs.declared.Item.{Item}
use Rattle.edr_items.specs.declared.per_slow_sensor.PerSlowSensor.{PerSlowSensor}
use Rattle.edr_items.specs.Sensor.{IsSlow}
use Rattle.edr_items.specs.PerSlowSensor.{each_slow_value, slow_at}
use Rattle.edr_items.proofs.PerSlowSensorLemmas.{slow_values-same, slow_at-each}
use Rattle.edr_core.specs.declared.captures.Captures.{Captures}
use Rattle.edr_core.proofs.captures.Captures.new.Goals as goal

abbrev of_kept : PerSlowSensor (List Item) → Captures
of_kept kept = record { kept = kept }

empty : (c : goal.In_ok-try_from_fn) (s : Sensor) → IsSlow s → slow_at s c.in_ok-try_from_fn.field-0 ≡ []
empty c s slow = let h = c.in_ok-try_from_fn.ensures.values s slow in search rules

pub returns : goal.returns
returns c = ap (λ (kept : PerSlowSensor (List Item)). of_kept kept) (slow_values-same c.in_ok-try_from_fn.field-0 (each_slow_value []) (λ s slow. empty c s slow ∙ sym (slow_at-each [] s)))
