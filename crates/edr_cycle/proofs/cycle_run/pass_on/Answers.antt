use Rattle.edr_cycle.proofs.StillLemmas.{passes-then}
use Rattle.edr_cycle.proofs.cycle_run.pass_on.Goals as goal

pub loop-preserved : goal.loop-preserved
loop-preserved c = λ n p is.
    let h = c.loop.invariant n p is in
    passes-then c.loop.core c.pass_next.new.core c.args.left.now c.loop.left c.pass_next.new.left n p h (c.pass_next.ensures.passes c.loop-test.true n h.last h.core_is)
