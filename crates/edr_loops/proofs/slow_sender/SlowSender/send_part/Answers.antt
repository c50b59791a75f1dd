use Rattle.std.proofs.Common.{refl}
use Rattle.edr_seats.specs.Rings.{items_sent}
use Rattle.edr_loops.proofs.OfferLemmas.{one-longer}
use Rattle.edr_loops.proofs.SlowSenderLemmas.{keeping-part}
use Rattle.edr_loops.proofs.slow_sender.SlowSender.send_part.Goals as goal

pub returns-in-Sent-clause-goes : goal.returns-in-Sent-clause-goes
returns-in-Sent-clause-goes g c = λ xs h. (c.in-Sent.ensures.same, keeping-part c.args.sensor xs c.in-Sent.zero c.args.self.now _ c.in-Sent.ensures.same refl c.in-Sent.ensures.answer.4 c.in-Sent.ensures.stands h)

pub returns-in-Sent-clause-came : goal.returns-in-Sent-clause-came
returns-in-Sent-clause-came g c = λ xs h.
    one-longer (items_sent c.args.self.now.seat.sender) _ _ (c.in-Sent.ensures.stands _ _ h.stands).parts_are
