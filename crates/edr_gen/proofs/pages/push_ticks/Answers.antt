use Rattle.std.proofs.Common.{arith, ◌≡◌, ◌∙◌, sym, ap, ℕ, List, [], ◌++◌, ◌+◌, ◌-◌}
use Rattle.std.proofs.lemmas.List.{append-nil}
use Rattle.edr_gen.specs.Cycles.{samples_after}
use Rattle.edr_gen.specs.Texts.{samples_text}
use Rattle.edr_gen.proofs.TextLemmas.{no-samples, tick-next}
use Rattle.edr_gen.proofs.pages.push_ticks.Goals as goal

pub loop-passed-preserved : goal.loop-passed-preserved
loop-passed-preserved c = record {
  bytes = tick-next c.args.plan.now.impulses c.args.from c.loop-passed.passed c.loop-passed.page.bytes c.push_tick.new.page.bytes c.loop-passed-test.true c.push_tick.ensures.bytes ∙ c.loop-passed.invariant.bytes;
  len = omega (arith, c.loop-passed.invariant.len, c.push_tick.ensures.len);
}

pub returns : goal.returns
returns c =
    let none : 360 - c.loop-passed.passed ≡ 0 = omega (arith, c.loop-passed-test.false) in
    let left : samples_text (samples_after c.args.plan.now.impulses (c.args.from + c.loop-passed.passed) (360 - c.loop-passed.passed)) ≡ [] =
    ap (λ (k : ℕ). samples_text (samples_after c.args.plan.now.impulses (c.args.from + c.loop-passed.passed) k)) none ∙ ap samples_text (no-samples c.args.plan.now.impulses (c.args.from + c.loop-passed.passed)) in
    record { bytes = sym (append-nil c.loop-passed.page.bytes) ∙ ap (λ (xs : List ℕ). c.loop-passed.page.bytes ++ xs) (sym left) ∙ c.loop-passed.invariant.bytes }
