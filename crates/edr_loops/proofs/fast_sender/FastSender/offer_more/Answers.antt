use Rattle.std.proofs.Common.{◌-◌}
use Rattle.edr_loops.proofs.FastSenderLemmas.{first_on}
use Rattle.edr_loops.proofs.fast_sender.FastSender.offer_more.Goals as goal

pub returns-clause-goes : goal.returns-clause-goes
returns-clause-goes g c =
    let more = c.offer_some.ensures in
    (search, first_on c.args.self.now.next c.offer_some.result (c.min-end.result - c.args.self.now.next) c.args.items.now _ _ c.requires more.sent more.count)
