use Rattle.std.proofs.Common.{arith, refl}
use Rattle.std.proofs.lemmas.Result.{err_from_is_err_and}
use Rattle.edr_cycle.specs.declared.started.StartFault.TheVariants as fault
use Rattle.edr_replay.specs.Replayed.{EndsShort, LeftAlone}
use Rattle.edr_replay.proofs.LeavingLemmas.{short_more, short_none}
use Rattle.edr_replay.proofs.RunningLemmas.{ends_at_once, ends_in_next, running_first, running_more}
use Rattle.edr_replay.proofs.replay.Goals as goal

pub returns-in_err-reports : goal.returns-in_err-reports
returns-in_err-reports g c =
    let p = err_from_is_err_and c.from_residual.result c.from_residual.ensures.1 in
    let N = g.N.Nvm in
    let d = c.args.nvm.now in
    let cs = c.args.cycles.now in
    ends_at_once (EndsShort cs) cs d c.from_residual.result (g.met.N.Nvm.goes_on_self d) (short_none cs (N.content d) (N.settled d) fault.OutOfMemory) (rw (p.1, p.2) refl)

pub loop-cycle-init : goal.loop-cycle-init
loop-cycle-init g c =
    running_first c.args.cycles.now _ c.in_ok-reports.reports.items c.args.nvm.now (g.met.N.Nvm.goes_on_self c.args.nvm.now) c.in_ok-reports.ensures.items c.in_ok-reports.ensures.capacity

pub returns-in_err-report : goal.returns-in_err-report
returns-in_err-report g c =
    let p = err_from_is_err_and c.from_residual-in_err-report.result c.from_residual-in_err-report.ensures.1 in
    let old = c.args.nvm.now in
    let mid = c.loop-cycle.nvm in
    let new = c.run_cycle.new.nvm in
    let cs = c.args.cycles.now in
    ends_in_next LeftAlone (EndsShort cs) cs c.cycle-item.result c.loop-cycle.cycle-index _ c.loop-cycle.reports.items old mid new _ c.from_residual-in_err-report.result
    (g.met.N.Nvm.goes_on_again old mid new) c.loop-cycle.invariant c.loop-cycle-test.true c.cycle-item.is c.in_err-report.ensures (short_more cs c.loop-cycle.cycle-index _ _ _ _ _ _ _ _) (rw (p.1, p.2) refl)

pub loop-cycle-preserved : goal.loop-cycle-preserved
loop-cycle-preserved g c =
    let old = c.args.nvm.now in
    let mid = c.loop-cycle.nvm in
    let new = c.run_cycle.new.nvm in
    running_more LeftAlone c.args.cycles.now c.cycle-item.result c.loop-cycle.cycle-index _ _ c.loop-cycle.reports.items c.push_reserved.new.self.items c.in_ok-report.report old mid new
    (g.met.N.Nvm.goes_on_again old mid new) c.loop-cycle.invariant c.loop-cycle-test.true c.cycle-item.is c.in_ok-report.ensures c.push_reserved.ensures.items
    (let same = c.push_reserved.ensures.capacity in let room = c.loop-cycle.invariant.room in omega (arith, same, room))
