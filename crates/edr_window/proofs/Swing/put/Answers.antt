use Rattle.std.proofs.Common.{arith, refl, ap, sym, subst, ◌≡◌, ◌∙◌, ◌<◌, pos, neg_ℤ, ◌+ℤ◌, ◌-ℤ◌, unsigned_abs, [], to_z, of_z, w64}
use Rattle.std.proofs.lemmas.Int.{ints}
use Rattle.edr_items.specs.declared.TheConstants.{LATEST_MOMENT}
use Rattle.edr_window.specs.declared.candidates.Earlier.{Earlier}
use Rattle.edr_window.specs.Swing.{SwingState, SwingStandsFor}
use Rattle.edr_window.proofs.SwingLemmas.{stands-pushed, holds-pushed, back-small}
use Rattle.edr_window.proofs.Swing.put.Goals as goal

pub give-requires-2 : goal.give-requires-2
give-requires-2 g c =
    let q = c.self.inside in
    let inv = c.self.invariant in
    let room = inv.room in let fewer = inv.fewer in let small = inv.small in
    let e = back-small q.sum (omega arith) in
    let f = back-small (pos 0 -ℤ to_z w64 (of_z w64 q.sum)) (omega (arith, ints, e, small)) in
    (omega arith, (inv.wide, (inv.low_recent, omega (arith, ints, ap unsigned_abs f, e, small))))

pub invariant_of-self : goal.invariant_of-self
invariant_of-self g c =
    let q = c.self.inside in
    let inv = c.self.invariant in
    let room = inv.room in let fewer = inv.fewer in let small = inv.small in let small_v = c.requires.small in
    let e = back-small q.sum (omega arith) in
    let v_is = back-small c.args.v (omega arith) in
    let more_is = back-small (to_z w64 (of_z w64 q.sum) +ℤ to_z w64 (of_z w64 c.args.v)) (omega (arith, ints, e, v_is, small, small_v)) in
    let more = to_z w64 (of_z w64 (to_z w64 (of_z w64 q.sum) +ℤ to_z w64 (of_z w64 c.args.v))) in
    let again : to_z w64 (of_z w64 more) ≡ more = ap (λ z. to_z w64 (of_z w64 z)) more_is ∙ refl in
    let before : q.pushes < LATEST_MOMENT = let r = c.requires.room in let p = ap (λ (s : SwingState). s.pushes) c.self.view_is in omega arith in
    let high = ap (λ (x : Earlier). x.sum) c.first.ensures in
    let low = ap (λ (x : Earlier). x.sum) c.first-2.ensures in
    holds-pushed g.row.K q.pushes q.places q.sum q.high q.low q.rests inv c.args.v [] more c.give.new.self c.give-2.new.self c.are_at_rest-self-inside.result before small_v (omega (arith, ints, e, v_is, more_is))
    c.give.ensures.recent c.give-2.ensures.recent c.give.ensures.some c.give-2.ensures.some
    (λ still. sym high ∙ c.are_at_rest-self-inside.ensures.high still ∙ again)
    (λ still. sym low ∙ c.are_at_rest-self-inside.ensures.low still ∙ ap neg_ℤ again)

pub returns-clause-stands : goal.returns-clause-stands
returns-clause-stands g c = λ values h.
    let q = c.self.inside in
    let inv = c.self.invariant in
    let room = inv.room in let fewer = inv.fewer in let small = inv.small in let small_v = c.requires.small in
    let e = back-small q.sum (omega arith) in
    let f = back-small (pos 0 -ℤ to_z w64 (of_z w64 q.sum)) (omega (arith, ints, e, small)) in
    let v_is = back-small c.args.v (omega arith) in
    let more_is = back-small (to_z w64 (of_z w64 q.sum) +ℤ to_z w64 (of_z w64 c.args.v)) (omega (arith, ints, e, v_is, small, small_v)) in
    stands-pushed g.row.K q.pushes q.places q.sum q.high q.low q.rests inv c.args.v values (subst (λ (s : SwingState). SwingStandsFor g.row.K s values) (sym c.self.view_is) h)
    _ c.give.new.self c.give-2.new.self c.are_at_rest-self-inside.result (omega (arith, ints, e, v_is, more_is))
    c.give.ensures.recent c.give-2.ensures.recent c.give.ensures.some c.give-2.ensures.some
    (λ given rest a is. c.give.ensures.candidates given rest a (is ∙ sym e))
    (λ given rest a is. c.give-2.ensures.candidates given rest a (is ∙ omega (arith, ints, f, e)))

pub overflow_sub-self-inside : goal.overflow_sub-self-inside
overflow_sub-self-inside g c =
    let q = c.self.inside in
    let small = c.self.invariant.small in
    let fewer = c.self.invariant.fewer in
    let room = c.self.invariant.room in
    let e = back-small q.sum (omega arith) in
    omega (arith, ints, e, small)

pub overflow_add-self-3 : goal.overflow_add-self-3
overflow_add-self-3 g c =
    let q = c.self.inside in
    let small = c.self.invariant.small in
    let fewer = c.self.invariant.fewer in
    let room = c.self.invariant.room in
    let small_v = c.requires.small in
    let e = back-small q.sum (omega arith) in
    let v_is = back-small c.args.v (omega arith) in
    omega (arith, ints, e, v_is, small, small_v)

pub are_at_rest-self-inside-requires : goal.are_at_rest-self-inside-requires
are_at_rest-self-inside-requires g c =
    let q = c.self.inside in
    let inv = c.self.invariant in
    let room = inv.room in let fewer = inv.fewer in let small = inv.small in let small_v = c.requires.small in
    let e = back-small q.sum (omega arith) in
    let v_is = back-small c.args.v (omega arith) in
    let more_is = back-small (to_z w64 (of_z w64 q.sum) +ℤ to_z w64 (of_z w64 c.args.v)) (omega (arith, ints, e, v_is, small, small_v)) in
    let again = ap (λ z. to_z w64 (of_z w64 z)) more_is in
    let before : q.pushes < LATEST_MOMENT = let r = c.requires.room in let p = ap (λ (s : SwingState). s.pushes) c.self.view_is in omega arith in
    omega (arith, ints, e, v_is, more_is, again, small, small_v)
