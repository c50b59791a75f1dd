use Rattle.std.proofs.Common.{arith, ◌≡◌, ◌∙◌, ◌+◌, ◌-◌, ◌++◌, [], List, ℕ, ap, sym, refl}
use Rattle.std.proofs.lemmas.List.{append-nil}
use Rattle.std.proofs.Common.{append_assoc}
use Rattle.edr_spell.specs.Samples.{Sample, feeds_given}
use Rattle.edr_spell.proofs.FeedsLemmas.{feeds_given-nil}
use Rattle.edr_gen.specs.Cycles.{samples_after, samples_at}
use Rattle.edr_gen.proofs.TextLemmas.{no-samples, samples-next}
use Rattle.edr_gen.proofs.cycles.feeds_of.Goals as goal

pub loop-passed-init : goal.loop-passed-init
loop-passed-init c = ([], c.new-feeds.ensures ∙ sym feeds_given-nil, refl)

pub loop-passed-preserved : goal.loop-passed-preserved
loop-passed-preserved c =
    let xs : List Sample = c.loop-passed.invariant.0 in
    let impulses = c.args.plan.now.impulses in
    let n : ℕ = c.loop-passed.passed in
    let next = samples-next impulses n (18000 - (n + 1)) (18000 - n) (omega (arith, c.loop-passed-test.true)) in (
      xs ++ samples_at impulses (n + 1),
      c.in_ok-give_tick.ensures xs c.loop-passed.invariant.1,
      c.loop-passed.invariant.2 ∙ ap (λ (ys : List Sample). xs ++ ys) next ∙ sym (append_assoc xs (samples_at impulses (n + 1)) (samples_after impulses (n + 1) (18000 - (n + 1)))),
    )

pub returns : goal.returns
returns c =
    let xs : List Sample = c.loop-passed.invariant.0 in
    let impulses = c.args.plan.now.impulses in
    let none : 18000 - c.loop-passed.passed ≡ 0 = omega (arith, c.loop-passed-test.false) in
    c.loop-passed.invariant.1 ∙ ap feeds_given (sym (c.loop-passed.invariant.2 ∙ ap (λ (k : ℕ). xs ++ samples_after impulses c.loop-passed.passed k) none
    ∙ ap (λ (ys : List Sample). xs ++ ys) (no-samples impulses c.loop-passed.passed) ∙ append-nil xs))
