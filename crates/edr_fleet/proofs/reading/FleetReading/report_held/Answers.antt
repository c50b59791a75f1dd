use Rattle.std.proofs.Common.{◌∙◌, ap, drop}
use Rattle.edr_fleet.proofs.ReadingLemmas.{gave_front}
use Rattle.edr_fleet.proofs.reading.FleetReading.report_held.Goals as goal

pub returns-clause-given : goal.returns-clause-given
returns-clause-given g c =
    let added = c.in_ok-add.ensures {u = tt} in
    λ bytes gave. gave_front bytes c.args.self.now _ c.in_ok-front.front gave (c.in_ok-front.ensures {u = tt}) added.workers added.lines added.events added.images added.bytes
    (c.drop_first.ensures ∙ ap (λ v. drop c.in_ok-front.front.end v.items) added.held)
