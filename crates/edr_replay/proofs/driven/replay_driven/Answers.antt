use Rattle.std.proofs.Common.{refl, rules, arith, subst, ℕ}
use Rattle.std.proofs.lemmas.Result.{err_from_is_err_and}
use Rattle.std.proofs.lemmas.Iterator.Adapters.{YieldsList-from_vec}
use Rattle.std.proofs.lemmas.Iterator.Consumers.{YieldsList-turn}
use Rattle.std.specs.Prelude.{length, vec_capacity}
use Rattle.edr_cycle.specs.declared.started.StartFault.TheVariants as fault
use Rattle.edr_replay.specs.Replayed.{EndsCutShort, LeftOrCounted}
use Rattle.edr_replay.proofs.DrivenLemmas.{cut_short_more, cut_short_none, one_more}
use Rattle.edr_replay.proofs.RunningLemmas.{Running, ends_at_once, ends_in_next, running_first, running_more}
use Rattle.edr_replay.proofs.driven.replay_driven.Goals as goal

pub returns-in_err-reports : goal.returns-in_err-reports
returns-in_err-reports g c =
    let p = err_from_is_err_and c.from_residual.result c.from_residual.ensures.1 in
    let N = g.N.Nvm in
    let d = c.args.nvm.now in
    let cs = c.args.cycles.items in
    ends_at_once (EndsCutShort cs) cs d c.from_residual.result (g.met.N.Nvm.goes_on_self d) (cut_short_none cs (N.content d) (N.settled d) fault.OutOfMemory) (rw (p.1, p.2) refl)

pub loop-cycle-init : goal.loop-cycle-init
loop-cycle-init g c = running_first c.args.cycles.items _ c.in_ok-reports.reports.items c.args.nvm.now (g.met.N.Nvm.goes_on_self c.args.nvm.now) c.in_ok-reports.ensures.items (search rules)

pub returns-in_err-report : goal.returns-in_err-report
returns-in_err-report g c =
    let p = err_from_is_err_and c.from_residual-in_err-report.result c.from_residual-in_err-report.ensures.1 in
    let old = c.args.nvm.now in
    let mid = c.loop-cycle.nvm in
    let new = c.drive_one.new.nvm in
    let cs = c.args.cycles.items in
    let turn = YieldsList-turn (YieldsList-from_vec cs (search rules) (search rules)) c.loop-cycle.yielded _ c.loop-cycle.yielded_by _ c.next.new.self c.in-Some.cycle c.in-Some.is c.next.ensures.steps in
    ends_in_next LeftOrCounted (EndsCutShort cs) cs c.in-Some.cycle (length c.loop-cycle.yielded) _ c.loop-cycle.reports.items old mid new _ c.from_residual-in_err-report.result
    (g.met.N.Nvm.goes_on_again old mid new) c.loop-cycle.invariant turn.0 turn.1 c.in_err-report.ensures (cut_short_more cs (length c.loop-cycle.yielded) _ _ _ _ _ _ _ _) (rw (p.1, p.2) refl)

pub loop-cycle-preserved : goal.loop-cycle-preserved
loop-cycle-preserved g c =
    let old = c.args.nvm.now in
    let mid = c.loop-cycle.nvm in
    let new = c.drive_one.new.nvm in
    let cs = c.args.cycles.items in
    let turn = YieldsList-turn (YieldsList-from_vec cs (search rules) (search rules)) c.loop-cycle.yielded _ c.loop-cycle.yielded_by _ c.next.new.self c.in-Some.cycle c.in-Some.is c.next.ensures.steps in
    subst (λ (k : ℕ). Running g.N.Nvm cs k (vec_capacity c.push_reserved.new.self) c.push_reserved.new.self.items old new) (one_more c.loop-cycle.yielded c.in-Some.cycle)
    (running_more LeftOrCounted cs c.in-Some.cycle (length c.loop-cycle.yielded) _ _ c.loop-cycle.reports.items c.push_reserved.new.self.items c.in_ok-report.report old mid new
    (g.met.N.Nvm.goes_on_again old mid new) c.loop-cycle.invariant turn.0 turn.1 c.in_ok-report.ensures c.push_reserved.ensures.items
    (let same = c.push_reserved.ensures.capacity in let room = c.loop-cycle.invariant.room in omega (arith, same, room)))
