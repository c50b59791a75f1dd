use Rattle.std.proofs.Common.{rules, ◌∙◌}
use Rattle.edr_items.proofs.PerSensorLemmas.{values-same, value_of-map}
use Rattle.edr_items.specs.PerSensor.{map_values}
use Rattle.edr_cycle.proofs.left.Left.all_of.Goals as goal

pub returns-clause-all : goal.returns-clause-all
returns-clause-all c =
    values-same (map_values (λ l. l.now) c.from_fn.result) c.args.feeds.now
    (λ s. value_of-map (λ l. l.now) s c.from_fn.result ∙ (let h = c.from_fn.ensures s in search rules))

pub returns-clause-feeds : goal.returns-clause-feeds
returns-clause-feeds c = λ s. let h = c.from_fn.ensures s in search rules
