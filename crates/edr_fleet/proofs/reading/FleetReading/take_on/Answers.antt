use Rattle.std.proofs.Common.{◌∙◌, ap}
use Rattle.edr_fleet.proofs.ReadingLemmas.{gave_on}
use Rattle.edr_fleet.proofs.reading.FleetReading.take_on.Goals as goal

pub returns : goal.returns
returns g c =
    let front = c.in_ok-front.ensures.front in
    let takes = c.in_ok-front.ensures.takes in
    let fills = takes.filled in
    let added = c.in_ok-add.ensures in
    let held = ap (λ v. v.items) c.replace.ensures.after ∙ fills.1 in
    record {
      filled = (
        fills.0,
        (λ bytes gave. gave_on bytes fills.0 c.args.self.now _ c.in_ok-front.front gave front added.workers added.lines added.events added.images added.bytes held),
        fills.2,
        fills.3,
      );
      within = takes.within;
      gives = takes.gives;
      later = takes.later;
      failed = λ e. absurd (cc);
      not_too_long = λ e. absurd (cc);
    }
