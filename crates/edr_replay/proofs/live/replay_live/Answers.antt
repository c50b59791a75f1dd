use Rattle.std.proofs.Common.{refl, rules, arith, subst, ℕ}
use Rattle.std.proofs.lemmas.Result.{err_from_is_err_and}
use Rattle.std.proofs.lemmas.Iterator.Adapters.{YieldsList-from_vec}
use Rattle.std.proofs.lemmas.Iterator.Consumers.{YieldsList-turn}
use Rattle.std.specs.Prelude.{length, vec_capacity}
use Rattle.edr_replay.proofs.DrivenLemmas.{one_more}
use Rattle.edr_replay.proofs.LiveRunLemmas.{RunningLive, live_ends_at_once, live_ends_in_next, live_first, running_live_more}
use Rattle.edr_replay.proofs.live.replay_live.Goals as goal

pub returns-in_err-reports : goal.returns-in_err-reports
returns-in_err-reports g c =
    let p = err_from_is_err_and c.from_residual.result c.from_residual.ensures.1 in
    live_ends_at_once c.args.cycles.items c.args.nvm.now c.from_residual.result (g.met.N.Nvm.goes_on_self c.args.nvm.now) (rw (p.1, p.2) refl)

pub returns-in_err-lines : goal.returns-in_err-lines
returns-in_err-lines g c =
    let p = err_from_is_err_and c.from_residual-in_err-lines.result c.from_residual-in_err-lines.ensures.1 in
    live_ends_at_once c.args.cycles.items c.args.nvm.now c.from_residual-in_err-lines.result (g.met.N.Nvm.goes_on_self c.args.nvm.now) (rw (p.1, p.2) refl)

pub loop-cycle-init : goal.loop-cycle-init
loop-cycle-init g c =
    live_first c.args.cycles.items _ _ c.in_ok-reports.reports.items c.in_ok-lines.lines.items c.args.nvm.now (g.met.N.Nvm.goes_on_self c.args.nvm.now) c.in_ok-reports.ensures.items c.in_ok-lines.ensures.items (search rules) (search rules)

pub returns-in_err-ran : goal.returns-in_err-ran
returns-in_err-ran g c =
    let p = err_from_is_err_and c.from_residual-in_err-ran.result c.from_residual-in_err-ran.ensures.1 in
    let old = c.args.nvm.now in
    let mid = c.loop-cycle.nvm in
    let new = c.drive_one_live.new.nvm in
    let cs = c.args.cycles.items in
    let turn = YieldsList-turn (YieldsList-from_vec cs (search rules) (search rules)) c.loop-cycle.yielded _ c.loop-cycle.yielded_by _ c.next.new.self c.in-Some.cycle c.in-Some.is c.next.ensures.steps in
    live_ends_in_next cs c.in-Some.cycle (length c.loop-cycle.yielded) _ _ _ c.loop-cycle.reports.items c.loop-cycle.lines.items old mid new _ c.from_residual-in_err-ran.result
    (g.met.N.Nvm.goes_on_again old mid new) c.loop-cycle.invariant turn.0 turn.1 c.in_err-ran.ensures (rw (p.1, p.2) refl)

pub loop-cycle-preserved : goal.loop-cycle-preserved
loop-cycle-preserved g c =
    let old = c.args.nvm.now in
    let mid = c.loop-cycle.nvm in
    let new = c.drive_one_live.new.nvm in
    let cs = c.args.cycles.items in
    let turn = YieldsList-turn (YieldsList-from_vec cs (search rules) (search rules)) c.loop-cycle.yielded _ c.loop-cycle.yielded_by _ c.next.new.self c.in-Some.cycle c.in-Some.is c.next.ensures.steps in
    let below = turn.0 in
    let few = c.requires.few in
    let long = c.len-in-loop-cycle.ensures in
    let count = c.loop-cycle.invariant.cycles.count in
    let same = c.push_reserved.ensures.capacity in
    let room = c.loop-cycle.invariant.cycles.room in
    let same_lines = c.push_line.ensures.capacity in
    let room_lines = c.loop-cycle.invariant.room in
    subst (λ (k : ℕ). RunningLive g.N.Nvm cs k (vec_capacity c.push_reserved.new.self) (vec_capacity c.push_line.new.lines) c.push_reserved.new.self.items c.push_line.new.lines.items old new) (one_more c.loop-cycle.yielded c.in-Some.cycle)
    (running_live_more cs c.in-Some.cycle (length c.loop-cycle.yielded) _ _ _ _ _ c.loop-cycle.reports.items c.push_reserved.new.self.items c.loop-cycle.lines.items c.push_line.new.lines.items c.in_ok-ran.ran old mid new
    (g.met.N.Nvm.goes_on_again old mid new) c.loop-cycle.invariant turn.0 turn.1 (omega (arith, below, few, long, count)) c.in_ok-ran.ensures c.push_reserved.ensures.items c.push_line.ensures.items
    (omega (arith, same, room)) (omega (arith, same_lines, room_lines)))
