use Rattle.std.proofs.Common.{rules, sym, ◌∙◌}
use Rattle.edr_items.specs.PerSensor.{map_values, value_of}
use Rattle.edr_items.specs.SensorLists.{items_of}
use Rattle.edr_items.proofs.PerSensorLemmas.{values-same, value_of-map, value_of-by}
use Rattle.edr_cycle.specs.Rest.{lists_past, past}
use Rattle.edr_cycle.proofs.left.Left.after.Goals as goal

pub returns-clause-left : goal.returns-clause-left
returns-clause-left c =
    values-same (map_values (λ l. l.now) c.from_fn.result) (lists_past c.args.last.now c.args.feeds.now)
    (λ s. value_of-map (λ l. l.now) s c.from_fn.result ∙ (let h = c.from_fn.ensures s in search rules)
    ∙ sym (value_of-by (λ r. past (value_of r c.args.last.now) (items_of r c.args.feeds.now)) s))

pub returns-clause-feeds : goal.returns-clause-feeds
returns-clause-feeds c = λ s. let h = c.from_fn.ensures s in search rules
