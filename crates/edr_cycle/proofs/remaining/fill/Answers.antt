use Rattle.std.proofs.Common.{arith}
use Rattle.edr_cycle.proofs.RestLemmas.{next-asked, past-some, still-asked}
use Rattle.edr_cycle.proofs.remaining.fill.Goals as goal

pub give-requires : goal.give-requires
give-requires c =
    let r = c.requires in
    let a = c.loop-item.invariant.asked r.0 r.1 r.2 r.3 in
    let upto = c.if-item-zero.false in
    (r.0, r.1, a.0, next-asked r.0 r.1 a.0 c.loop-item.core c.loop-item.rest c.args.zero c.args.sensor c.in-Some.item c.in-Some.ensures.0 a.1 c.in-Some.ensures.1 (omega (arith, upto)))

pub loop-item-preserved : goal.loop-item-preserved
loop-item-preserved c =
    let upto = c.if-item-zero.false in
    record {
      asked = λ f n h asked.
          let a = c.loop-item.invariant.asked f n h asked in
          still-asked f n h a.0 c.loop-item.core c.give.new.core c.loop-item.rest c.give.new.rest c.args.zero a.1 a.2
          (c.give.ensures.goes f n a.0 (next-asked f n a.0 c.loop-item.core c.loop-item.rest c.args.zero c.args.sensor c.in-Some.item c.in-Some.ensures.0 a.1 c.in-Some.ensures.1 (omega (arith, upto))));
      fewer = let now = c.give.ensures.fewer in let before = c.loop-item.invariant.fewer in omega (arith, now, before);
    }

pub returns-then-item-zero-clause-past : goal.returns-then-item-zero-clause-past
returns-then-item-zero-clause-past c = λ f n h asked.
    let a = c.loop-item.invariant.asked f n h asked in
    let late = c.if-item-zero.true in
    past-some f n a.0 c.loop-item.core c.loop-item.rest c.args.zero c.args.sensor c.in-Some.item c.in-Some.ensures.0 a.1 c.in-Some.ensures.1 (omega (arith, late))
