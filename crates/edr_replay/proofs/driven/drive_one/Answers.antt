use Rattle.std.proofs.Common.{refl, rules, subst}
use Rattle.std.proofs.lemmas.Result.{err_from_is_err_and}
use Rattle.edr_items.specs.SensorLists.{SensorLists}
use Rattle.edr_cycle.specs.Ends.{MeetsCycle}
use Rattle.edr_device.specs.FuseState.{fused_content, fused_settled, fused_since}
use Rattle.edr_replay.specs.declared.phases.StartedCycle.{StartedCycle}
use Rattle.edr_replay.specs.Phases.{BeginsAs}
use Rattle.edr_replay.specs.Replayed.{LeftOrCounted}
use Rattle.edr_replay.proofs.EndPhaseLemmas.{ended, ran_fused}
use Rattle.edr_replay.proofs.WholeCycleLemmas.{alone_leaves, commands_end, start_fails, start_stops, wants_at_once, wants_begun}
use Rattle.edr_replay.proofs.driven.drive_one.Goals as goal

pub returns-in_default : goal.returns-in_default
returns-in_default g c = wants_at_once c.args.cycle c.args.nvm.now (g.met.N.Nvm.goes_on_self c.args.nvm.now)

pub returns-in_err-start_until : goal.returns-in_err-start_until
returns-in_err-start_until g c =
    let p = err_from_is_err_and c.from_residual.result c.from_residual.ensures.1 in
    let N = g.N.Nvm in
    let old = c.args.nvm.now in
    let new = c.start_until.new.nvm in
    start_fails LeftOrCounted c.args.cycle _ old new _ c.from_residual.result (alone_leaves _ (N.content old) (N.settled old) (N.content new) (N.settled new)) c.in_err-start_until.ensures (rw (p.1, p.2) refl)

pub returns-in-Stopped : goal.returns-in-Stopped
returns-in-Stopped g c = start_stops LeftOrCounted c.args.cycle _ c.args.nvm.now c.start_until.new.nvm _ c.requires.start_stop c.in-Stopped.is c.in_ok-start_until.ensures

pub returns-in_err-end-in-Started : goal.returns-in_err-end-in-Started
returns-in_err-end-in-Started g c =
    let p = err_from_is_err_and c.from_residual-in_err-end-in-Started.result c.from_residual-in_err-end-in-Started.ensures.1 in
    let N = g.N.Nvm in
    let begun = subst (λ (b : StartedCycle). BeginsAs b c.args.cycle.start_stop c.horizon-ticks.result (N.extent c.args.nvm.now) (N.content c.args.nvm.now) (N.settled c.args.nvm.now) (N.content c.start_until.new.nvm) (N.settled c.start_until.new.nvm)) c.in-Started.is c.in_ok-start_until.ensures.ran in
    wants_begun c.args.cycle c.in-Started.started.number c.in-Started.started.banks.store c.args.nvm.now c.start_until.new.nvm _ c.from_residual-in_err-end-in-Started.result
    (record { lent = c.start_until.ensures.lent; found = begun.3; past = c.start_until.ensures.past }) (search rules) (rw (p.1, p.2) refl)

pub returns : goal.returns
returns g c =
    let N = g.N.Nvm in
    let cycle = c.args.cycle in
    let s = c.in-Started.started in
    let old = c.args.nvm.now in
    let mid = c.start_until.new.nvm in
    let armed = c.fused-fuse.result in
    let fuse = c.drive_cycle-end.new.nvm in
    let end = c.in_ok-end-in-Started.end in
    let cut = c.was_cut-cut.result in
    let run = c.in_ok-end-in-Started.ensures in
    let e = c.end_run.ensures in
    let begun = subst (λ (b : StartedCycle). BeginsAs b cycle.start_stop c.horizon-ticks.result (N.extent old) (N.content old) (N.settled old) (N.content mid) (N.settled mid)) c.in-Started.is c.in_ok-start_until.ensures.ran in
    commands_end LeftOrCounted cycle s.number s.banks.store end.failed cut end.log.acks armed fuse old mid c.end_run.new.nvm c.end_run.result
    g.met.N.Nvm.goes_on_again (λ u image within left. g.met.N.Nvm.counts_now fuse.nvm.now u image within left)
    begun.0 (record { lent = c.start_until.ensures.lent; found = begun.3; past = c.start_until.ensures.past }) c.fused-fuse.ensures.now
    (ran_fused cycle.feeds cycle.stop s.number s.banks.store end.failed cut end.log.acks armed fuse c.requires.feeds c.fused-fuse.ensures.state run.lent.size run.lent.device run.lent.tells
    (subst (λ (f : SensorLists). MeetsCycle fused_content fused_settled fused_since (λ x. x.ticks) (λ x. x.last_good) f s.number s.banks.store end.failed end.log.acks armed fuse) c.in-Ok.ensures.ok run.cycle)
    run.cause c.was_cut-cut.ensures.planned c.was_cut-cut.ensures.unplanned)
    (ended N cycle.stop s.number _ end.failed cut end.log.acks c.end_run.result _ fuse.nvm.now c.end_run.new.nvm (search rules) run.number e)
