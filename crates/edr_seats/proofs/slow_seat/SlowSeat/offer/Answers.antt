use Rattle.std.proofs.Common.{arith, refl, sym, subst}
use Rattle.edr_items.proofs.FeedLemmas.{refusal_of-rises}
use Rattle.edr_seats.specs.Slow.{SlowSeatIsFor}
use Rattle.edr_seats.specs.SlowContents.{SlowContents}
use Rattle.edr_seats.proofs.MarkLemmas.{mark_of_push}
use Rattle.edr_seats.proofs.SlowLemmas.{accepted-is}
use Rattle.edr_seats.proofs.slow_seat.SlowSeat.offer.Goals as goal

pub push-requires : goal.push-requires
push-requires c =
    let s = c.self.inside in
    let later = refusal_of-rises s.sensor s.last c.args.item (c.in_default.ensures.accepted.0 refl) in
    let near = c.self.invariant.near in
    record { later = omega arith }

pub post_mark-requires-clause-rises : goal.post_mark-requires-clause-rises
post_mark-requires-clause-rises c =
    let s = c.self.inside in
    let later = refusal_of-rises s.sensor s.last c.args.item (c.in_default.ensures.accepted.0 refl) in
    let mark = c.self.invariant.mark in
    let same = c.granted-granted.ensures.mark in
    omega arith

pub invariant_of-self-2 : goal.invariant_of-self-2
invariant_of-self-2 c =
    let s = c.self.inside in
    let h = c.self.invariant in
    let is = accepted-is s.sensor s.last c.args.item (c.in_default.ensures.accepted.0 refl) in
    record {
      slow = h.slow;
      range = c.push.ensures.sensor s.sensor h.range is;
      near = c.push.ensures.mark;
      mark = c.post_mark.ensures.mark;
    }

pub returns-clause-ok : goal.returns-clause-ok
returns-clause-ok c kept parts before =
    let h = subst (λ (v : SlowContents). SlowSeatIsFor v kept parts) (sym c.self.view_is) before in
    record {
      keeps = c.push.ensures.stands kept h.keeps;
      mark = mark_of_push kept c.args.item;
      parts_are = h.parts_are;
    }
