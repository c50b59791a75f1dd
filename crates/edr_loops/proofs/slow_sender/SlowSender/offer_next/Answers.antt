use Rattle.std.proofs.Common.{arith, ◌<◌, length, refl, sym, take}
use Rattle.std.proofs.lemmas.List.{take_more}
use Rattle.edr_seats.specs.Rings.{items_sent}
use Rattle.edr_loops.proofs.OfferLemmas.{accepted-next, not-slow_item, ungranted-past}
use Rattle.edr_loops.proofs.SlowSenderLemmas.{keeping-item}
use Rattle.edr_loops.proofs.slow_sender.SlowSender.offer_next.Goals as goal

pub returns-in-Ok-clause-goes : goal.returns-in-Ok-clause-goes
returns-in-Ok-clause-goes g c = (c.in-Ok.ensures.same, keeping-item c.args.sensor c.args.items.now _ c.args.self.now _ c.in-Ok.ensures.same (take_more c.args.items.now c.args.self.now.next _ (omega (arith, c.if-self-items.false))) c.in-Ok.ensures.ok c.requires)

pub returns-in-Ok-clause-on : goal.returns-in-Ok-clause-on
returns-in-Ok-clause-on g c =
    let r = c.requires in
    (omega arith, (c.in-Ok.ensures.ok (take c.args.self.now.next c.args.items.now) (items_sent c.args.self.now.seat.sender) r.stands).parts_are)

pub returns-in-Err-Ungranted-clause-came : goal.returns-in-Err-Ungranted-clause-came
returns-in-Err-Ungranted-clause-came g c =
    let left : c.args.self.now.next < length c.args.items.now = omega (arith, c.if-self-items.false) in
    (refl, (_, take_more c.args.items.now c.args.self.now.next _ left, ungranted-past _ _ c.offer.new.self c.in-Err-Ungranted.field-0 _ c.in-Err-Ungranted.field-0-is c.in-Err-Ungranted.ensures.why))

pub returns-in-Err-Item-clause-came : goal.returns-in-Err-Item-clause-came
returns-in-Err-Item-clause-came g c = (
  refl,
  λ fed.
      let r = c.requires in
      let left : c.args.self.now.next < length c.args.items.now = omega (arith, c.if-self-items.false) in
      absurd (not-slow_item _ _ c.offer.new.self c.in-Err-Item.field-0 c.in-Err-Item.field-0-0
      (accepted-next c.args.sensor _ _ c.args.items.now c.args.self.now.next _ fed r.sensor (sym r.stands.mark) left) c.in-Err-Item.field-0-is c.in-Err-Item.ensures.why),
)
