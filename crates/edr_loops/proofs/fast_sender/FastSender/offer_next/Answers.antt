use Rattle.std.proofs.Common.{arith, ◌∙◌, ◌<◌, ap, length, refl, sym}
use Rattle.edr_items.specs.Item.{mark_of}
use Rattle.edr_loops.proofs.OfferLemmas.{accepted-next, not-item}
use Rattle.edr_loops.proofs.fast_sender.FastSender.offer_next.Goals as goal

pub returns-in-Err-Item-clause-came : goal.returns-in-Err-Item-clause-came
returns-in-Err-Item-clause-came g c = (
  refl,
  λ fed of.
      let own = sym c.offer.ensures.ring.1 ∙ of in
      let left : c.args.self.now.next < length c.args.items.now = omega (arith, c.if-self-items.false) in
      absurd (not-item _ c.offer.new.self c.in-Err-Item.field-0 c.in-Err-Item.field-0-0
      (accepted-next c.args.sensor _ _ c.args.items.now c.args.self.now.next _ fed own (ap mark_of c.requires) left) c.in-Err-Item.field-0-is c.in-Err-Item.ensures.why),
)
