use Rattle.std.proofs.Common.{rules, ◌≡◌, ◌∙◌, [], sym, subst}
use Rattle.edr_items.specs.declared.Sensor.{Sensor}
use Rattle.edr_items.specs.Fields.{lists_of}
use Rattle.edr_items.specs.PerSensor.{value_of}
use Rattle.edr_items.specs.SensorLists.{no_items, AreFeeds}
use Rattle.edr_items.proofs.PerSensorLemmas.{values-same, value_of-map, value_of-each}
use Rattle.edr_items.proofs.Feeds.new.Goals as goal

empty : (c : goal.After-from_fn) (s : Sensor) → (value_of s c.from_fn.result).items ≡ []
empty c s = let h = c.from_fn.ensures s in search rules

is_empty : (c : goal.After-from_fn) → lists_of (record { lists = c.from_fn.result }) ≡ no_items
is_empty c = values-same (lists_of (record { lists = c.from_fn.result })) no_items (λ s. value_of-map (λ v. v.items) s c.from_fn.result ∙ empty c s ∙ sym (value_of-each [] s))

pub returns : goal.returns
returns c = is_empty c

pub invariant_of-result : goal.invariant_of-result
invariant_of-result c = subst AreFeeds (sym (is_empty c)) (search rules)
