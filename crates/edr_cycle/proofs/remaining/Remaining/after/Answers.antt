use Rattle.std.proofs.Common.{ap, ◌∙◌, ℕ}
use Rattle.edr_items.specs.declared.per_sensor.PerSensor.{PerSensor}
use Rattle.edr_cycle.specs.Rest.{lists_past}
use Rattle.edr_cycle.proofs.RestBeginLemmas.{remains-after}
use Rattle.edr_cycle.proofs.remaining.Remaining.after.Goals as goal

pub returns-clause-remains : goal.returns-clause-remains
returns-clause-remains c =
    let left = c.after.ensures.left ∙ ap (λ (p : PerSensor ℕ). lists_past (record p { along = c.args.along; across = c.args.across; restraint = c.args.restraint }) c.args.feeds.now) c.each-last.ensures in
    remains-after c.args.feeds.now (record { left = c.after.result; captures = c.args.captures }) c.args.along c.args.across c.args.restraint c.after.ensures.feeds c.requires.empty left
