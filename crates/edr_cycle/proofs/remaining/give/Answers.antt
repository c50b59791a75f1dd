use Rattle.edr_cycle.proofs.RestLemmas.{goes, is-later, near-of}
use Rattle.edr_items.specs.SensorLists.{items_of}
use Rattle.edr_cycle.proofs.remaining.give.Goals as goal

pub push-requires : goal.push-requires
push-requires c =
    let r = c.requires in
    let has = r.3 in
    record {
      later = is-later r.0 r.1 r.2 c.args.core.now c.args.rest.now c.args.sensor c.in-Some.item c.next.new.self has.remains c.in-Some.ensures.item c.in-Some.ensures.others
          (near-of r.0 r.1 r.2 c.args.core.now c.args.rest.now c.args.sensor c.in-Some.item (items_of c.args.sensor c.next.new.self) has c.in-Some.ensures.item);
    }

pub returns-clause-goes : goal.returns-clause-goes
returns-clause-goes c = λ f n h has.
    goes f n h c.args.core.now c.args.rest.now c.args.sensor c.in-Some.item c.next.new.self has.remains c.in-Some.ensures.item c.in-Some.ensures.others
    (near-of f n h c.args.core.now c.args.rest.now c.args.sensor c.in-Some.item (items_of c.args.sensor c.next.new.self) has c.in-Some.ensures.item)
    c.accept.result c.accept.new.self c.push.new.self c.accept.ensures.ok c.accept.ensures.err c.accept.ensures.allowed c.push.ensures
