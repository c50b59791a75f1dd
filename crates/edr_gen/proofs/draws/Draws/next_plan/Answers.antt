use Rattle.std.proofs.Common.{arith, ◌≡◌, ◌∙◌, ◌+◌, ◌*◌, ◌%◌, length, sym, ap, ap₂, ℕ, List, [], ◌∷◌, ◌++◌}
use Rattle.edr_gen.specs.declared.plan.Impulse.{Impulse}
use Rattle.edr_gen.specs.Draws.{state_after, draw}
use Rattle.edr_gen.proofs.DrawLemmas.{impulses-next, no-impulses, no-draws, past, planned}
use Rattle.edr_gen.proofs.draws.Draws.next_plan.Goals as goal

pub loop-place-init : goal.loop-place-init
loop-place-init c = record {
  state = c.below-count.ensures.state c.args.self.now.state 0 (sym (no-draws c.args.self.now.state));
  impulses = c.new-impulses.ensures ∙ sym (no-impulses c.args.self.now.state);
  len = ap length c.new-impulses.ensures;
}

pub loop-place-preserved : goal.loop-place-preserved
loop-place-preserved c = record {
  state = c.impulse.ensures.state c.args.self.now.state (5 * c.loop-place.place + 1) c.loop-place.invariant.state ∙ ap (state_after c.args.self.now.state) (omega arith);
  impulses = c.push.ensures.items ∙ ap₂ (λ (xs : List Impulse) (i : Impulse). xs ++ i ∷ []) c.loop-place.invariant.impulses (c.impulse.ensures.value c.args.self.now.state (5 * c.loop-place.place + 1) c.loop-place.invariant.state)
      ∙ sym (impulses-next c.args.self.now.state c.loop-place.place);
  len = c.push.ensures.len ∙ ap (λ (n : ℕ). n + 1) c.loop-place.invariant.len;
}

pub returns-clause-value : goal.returns-clause-value
returns-clause-value c =
    let x : ℕ = c.args.self.now.state in
    let count : c.below-count.result ≡ draw x 1 % 3 = c.below-count.ensures.value x 0 (sym (no-draws x)) in
    planned x c.loop-place.place c.stop-stop.result c.loop-place.impulses.items
    (omega (arith, count, c.loop-place-test.false, c.loop-place.auto.place-end)) c.loop-place.invariant.impulses
    (c.stop-stop.ensures.value x (5 * c.loop-place.place + 1) c.loop-place.invariant.state)

pub returns-clause-state : goal.returns-clause-state
returns-clause-state c =
    let x : ℕ = c.args.self.now.state in
    let count : c.below-count.result ≡ draw x 1 % 3 = c.below-count.ensures.value x 0 (sym (no-draws x)) in
    past x c.loop-place.place c.stop-stop.new.self.state
    (omega (arith, count, c.loop-place-test.false, c.loop-place.auto.place-end))
    (c.stop-stop.ensures.state x (5 * c.loop-place.place + 1) c.loop-place.invariant.state)
