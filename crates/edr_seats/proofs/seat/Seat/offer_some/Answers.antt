use Rattle.std.proofs.Common.{arith, length-take-le, ◌∙◌, ◌++◌, ℕ, List, ap, subst, sym, take}
use Rattle.std.proofs.lemmas.List.{take-take}
use Rattle.edr_items.specs.declared.Item.{Item}
use Rattle.edr_items.specs.Item.{mark_from, mark_of}
use Rattle.edr_seats.specs.Accepted.{AreAccepted}
use Rattle.edr_seats.specs.Rings.{items_sent}
use Rattle.edr_seats.proofs.MarkLemmas.{accepted-take, mark_from-append}
use Rattle.edr_seats.proofs.seat.Seat.offer_some.Goals as goal

pub invariant_of-self : goal.invariant_of-self
invariant_of-self c =
    let within = c.send_some-sent.ensures.count in
    let long = length-take-le c.count_accepted-allowed.result c.args.items.now c.count_accepted-allowed.ensures.count in
    let old = c.args.self.now in
    let sent = take c.send_some-sent.result c.args.items.now in
    record {
      last_is = c.last_of-self.ensures ∙ ap (λ (m : ℕ). mark_from m sent) old.last_is
          ∙ sym (ap mark_of (c.send_some-sent.ensures.sent ∙ ap (λ (xs : List Item). items_sent old.sender ++ xs) (take-take c.send_some-sent.result c.count_accepted-allowed.result c.args.items.now (omega (arith, within, long))))
          ∙ mark_from-append 0 (items_sent old.sender) sent);
    }

pub returns-clause-accepted : goal.returns-clause-accepted
returns-clause-accepted c =
    let within = c.send_some-sent.ensures.count in
    let long = length-take-le c.count_accepted-allowed.result c.args.items.now c.count_accepted-allowed.ensures.count in
    let s = c.args.self.now in
    subst (λ (xs : List Item). AreAccepted s.sensor (mark_of (items_sent s.sender)) xs) (take-take c.send_some-sent.result c.count_accepted-allowed.result c.args.items.now (omega (arith, within, long)))
    (accepted-take s.sensor (mark_of (items_sent s.sender)) c.send_some-sent.result (take c.count_accepted-allowed.result c.args.items.now)
    (subst (λ (m : ℕ). AreAccepted s.sensor m (take c.count_accepted-allowed.result c.args.items.now)) s.last_is c.count_accepted-allowed.ensures.accepted))
