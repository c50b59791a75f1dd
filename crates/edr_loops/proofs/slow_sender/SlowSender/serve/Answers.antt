use Rattle.std.proofs.Common.{subst, sym}
use Rattle.edr_loops.specs.SlowSenders.{CameOfSlow}
use Rattle.edr_loops.proofs.OfferLemmas.{came-slow}
use Rattle.edr_loops.proofs.slow_sender.SlowSender.serve.Goals as goal

pub returns-clause-came : goal.returns-clause-came
returns-clause-came g c =
    let some = c.offer_some-kept.ensures in
    let part = c.send_part-part.ensures in
    let s = c.args.sensor in
    let xs = c.args.items.now in
    subst (CameOfSlow s xs c.args.self.now c.send_part-part.new.self) (sym c.and.ensures)
    (came-slow s xs c.args.self.now c.offer_some-kept.new.self c.send_part-part.new.self c.offer_some-kept.result c.send_part-part.result
    some.on.0 some.on.1 part.next part.granted some.came (part.came xs some.goes.1))
