use Rattle.edr_seats.specs.Rings.{items_sent}
use Rattle.edr_loops.proofs.UnsentLemmas.{both_sent}
use Rattle.edr_loops.proofs.unsent_orders.UnsentOrders.send.Goals as goal

pub returns-then-not-send_one-2-clause-same : goal.returns-then-not-send_one-2-clause-same
returns-then-not-send_one-2-clause-same c =
    both_sent (items_sent c.args.outbox.now) (items_sent c.send_one.new.outbox) (items_sent c.send_one-2.new.outbox) c.args.self.now.take c.send_one.new.order c.args.self.now.lock c.send_one-2.new.order c.args.self.now.done
    (c.send_one.ensures.all.0 c.if-not-send_one.false) c.send_one.ensures.same c.send_one-2.ensures.same
