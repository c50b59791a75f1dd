use Rattle.std.proofs.Common.{arith, sym, subst}
use Rattle.edr_seats.specs.Rings.{AreOfOneRing}
use Rattle.edr_loops.specs.Orders.{Outbox}
use Rattle.edr_loops.specs.Lanes.{AreFastLanes, ArePartLanes, FastInlets, PartInlets}
use Rattle.edr_drive.proofs.beginning.seat_desks.Goals as goal

pub returns-clause-begins : goal.returns-clause-begins
returns-clause-begins c = λ n opened shared.
    let desk = c.new-desk.ensures in
    let rings = shared.rings in
    let gate = shared.seats.gate in
    record {
      stands = λ horizon. desk.stands n horizon (record {
        core_is = opened.core;
        asker_is = rings.asker_is;
        fast_is = rings.fast_taken_is;
        parts_are = rings.parts_taken_are;
        sent_is = shared.orders_are.sent;
      });
      posted = desk.posted shared.seats.closed (omega (arith, gate));
      tied = λ f. record {
        lanes = subst (λ (i : FastInlets). AreFastLanes c.args.shared.rings.senders.fast i) (sym desk.rings.0) rings.lanes;
        part_lanes = subst (λ (i : PartInlets). ArePartLanes c.args.shared.rings.senders.slow i) (sym desk.rings.1) rings.part_lanes;
        begun = rings.begun f;
        pair = subst (λ (o : Outbox). AreOfOneRing o c.args.shared.orders.inbox) (sym desk.rings.2) shared.orders_are.pair;
        captures = opened.captures_are;
      };
      fresh = shared.orders_are.taken;
    }
