use Rattle.std.proofs.Common.{◌≡◌, ◌∙◌, sym, ap}
use Rattle.edr_banks.specs.Opened.{OpenedBanks}
use Rattle.edr_live.specs.Ends.{view_shown}
use Rattle.edr_live.proofs.StepLemmas.{shows_next}
use Rattle.edr_tests.proofs.readers.take_and_show.Goals as goal

pub show-requires-clause-named : goal.show-requires-clause-named
show-requires-clause-named g c =
    let a = c.in_ok-applied.ensures in
    let count = ap (λ (o : OpenedBanks). o.store.header.banks) a.next in
    let long = c.banks-count.ensures.all ∙ c.banks-count.ensures.banks ∙ sym count in
    (shows_next c.args.banks.now c.apply.new.self c.args.command.now c.in_ok-applied.applied (view_shown c.args.writer.now).views c.apply.new.self.store.header.banks a.may a.next a.answer.1 c.requires.views long).0

pub show-requires-clause-views : goal.show-requires-clause-views
show-requires-clause-views g c =
    let a = c.in_ok-applied.ensures in
    let count = ap (λ (o : OpenedBanks). o.store.header.banks) a.next in
    let long = c.banks-count.ensures.all ∙ c.banks-count.ensures.banks ∙ sym count in
    (shows_next c.args.banks.now c.apply.new.self c.args.command.now c.in_ok-applied.applied (view_shown c.args.writer.now).views c.apply.new.self.store.header.banks a.may a.next a.answer.1 c.requires.views long).1
