use Rattle.std.proofs.Common.{◌≡◌, ◌∙◌, ◌%◌, ◌++◌, ◌==◌, ap, refl, append_assoc}
use Rattle.std.proofs.lemmas.Result.{on_ok_weaker}
use Rattle.edr_spell.specs.Samples.{feeds_given}
use Rattle.edr_gen.specs.Cycles.{crash_of, has_firing, restraint_samples, samples_at, slow_samples}
use Rattle.edr_gen.proofs.cycles.give_tick.Goals as goal

pub returns : goal.returns
unfolding samples_at
returns c = on_ok_weaker c.give_restraint.result (λ gives. λ xs e.
    let t = c.args.tick in
    let impulses = c.args.plan.now.impulses in
    let fires : c.has_firing.result ≡ has_firing impulses t = c.has_firing.ensures in
    let whole : ((xs ++ crash_of impulses t) ++ slow_samples (t % 100 == 0) t) ++ restraint_samples c.has_firing.result (t % 1000 == 0) t ≡ xs ++ (crash_of impulses t ++ slow_samples (t % 100 == 0) t ++ restraint_samples c.has_firing.result (t % 1000 == 0) t) = simp append_assoc in
    let same : xs ++ (crash_of impulses t ++ slow_samples (t % 100 == 0) t ++ restraint_samples c.has_firing.result (t % 1000 == 0) t) ≡ xs ++ samples_at impulses t = rw fires refl in
    gives _ (c.in_ok-give_slow.ensures _ (c.in_ok-give_crash.ensures xs e))
    ∙ ap feeds_given (whole ∙ same)) c.give_restraint.ensures
