use Rattle.std.proofs.Common.{arith, ◌+◌, ap, ℕ}
use Rattle.edr_large.proofs.CountingLemmas.{counted_all, counted_more, plan_few, plan_level}
use Rattle.edr_large.proofs.runs.run_cycles.Goals as goal

pub rows_of-rows-requires : goal.rows_of-rows-requires
rows_of-rows-requires c = plan_few c.in_ok-cycle.cycle c.loop-done.generator c.in_ok-cycle.ensures.cycle

pub run_cycle-requires-clause-level : goal.run_cycle-requires-clause-level
run_cycle-requires-clause-level c = plan_level c.in_ok-cycle.cycle c.loop-done.generator c.in_ok-cycle.ensures.cycle

pub loop-done-preserved : goal.loop-done-preserved
loop-done-preserved c =
    let h = c.loop-done.invariant in
    let more = ap (λ (n : ℕ). c.loop-done.rows + n) c.rows_of-rows.ensures in
    counted_more c.args.number c.args.cycles c.loop-done._done c.loop-done.generator c.next_cycle.new.self c.loop-done.rows (c.loop-done.rows + c.rows_of-rows.result) c.loop-done.acks.items c.run_cycle.new.acks.items c.loop-done.image.items c.in_ok-image-2.image.items
    c.in_ok-cycle.cycle c.loop-done-test.true h c.in_ok-cycle.ensures.cycle c.in_ok-cycle.ensures.state more c.in_ok-image-2.ensures.size (c.in_ok-image-2.ensures.ran h.ran.outcome.store h.ran.outcome.count h.ran.says)

pub returns-clause-ran : goal.returns-clause-ran
returns-clause-ran c = counted_all c.args.number c.args.cycles c.loop-done._done c.loop-done.generator c.loop-done.rows c.loop-done.acks.items c.loop-done.image.items (omega (arith, c.loop-done-test.false)) c.loop-done.invariant
