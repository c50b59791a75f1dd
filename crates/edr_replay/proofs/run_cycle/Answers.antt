use Rattle.std.proofs.Common.{refl, rules, subst}
use Rattle.std.proofs.lemmas.Result.{err_from_is_err_and}
use Rattle.edr_replay.specs.declared.phases.StartedCycle.{StartedCycle}
use Rattle.edr_replay.specs.Phases.{BeginsAs}
use Rattle.edr_replay.specs.Replayed.{LeftAlone}
use Rattle.edr_replay.proofs.EndPhaseLemmas.{ended, ran_fused}
use Rattle.edr_replay.proofs.WholeCycleLemmas.{commands_end, start_fails, start_stops}
use Rattle.edr_replay.proofs.run_cycle.Goals as goal

pub returns-in_err-start_until : goal.returns-in_err-start_until
returns-in_err-start_until g c =
    let p = err_from_is_err_and c.from_residual.result c.from_residual.ensures.1 in
    start_fails LeftAlone c.args.cycle.now _ c.args.nvm.now c.start_until.new.nvm _ c.from_residual.result (λ alone. alone) c.in_err-start_until.ensures (rw (p.1, p.2) refl)

pub returns-in-Stopped : goal.returns-in-Stopped
returns-in-Stopped g c = start_stops LeftAlone c.args.cycle.now _ c.args.nvm.now c.start_until.new.nvm _ c.requires.start_stop c.in-Stopped.is c.in_ok-start_until.ensures

pub returns-in-Started : goal.returns-in-Started
returns-in-Started g c =
    let N = g.N.Nvm in
    let cycle = c.args.cycle.now in
    let s = c.in-Started.started in
    let old = c.args.nvm.now in
    let mid = c.start_until.new.nvm in
    let armed = c.fused-fuse.result in
    let fuse = c.run_alone-end.new.nvm in
    let end = c.run_alone-end.result in
    let cut = c.was_cut-cut.result in
    let run = c.run_alone-end.ensures in
    let e = c.end_run.ensures in
    let begun = subst (λ (b : StartedCycle). BeginsAs b cycle.start_stop c.horizon.result (N.extent old) (N.content old) (N.settled old) (N.content mid) (N.settled mid)) c.in-Started.is c.in_ok-start_until.ensures.ran in
    commands_end LeftAlone cycle s.number s.banks.store end.failed cut end.log.acks armed fuse old mid c.end_run.new.nvm c.end_run.result
    g.met.N.Nvm.goes_on_again (λ u image within left. g.met.N.Nvm.counts_now fuse.nvm.now u image within left)
    begun.0 (record { lent = c.start_until.ensures.lent; found = begun.3; past = c.start_until.ensures.past }) c.fused-fuse.ensures.now
    (ran_fused cycle.feeds cycle.stop s.number s.banks.store end.failed cut end.log.acks armed fuse c.requires.feeds c.fused-fuse.ensures.state run.lent.size run.lent.device run.lent.tells run.cycle run.cause c.was_cut-cut.ensures.planned c.was_cut-cut.ensures.unplanned)
    (ended N cycle.stop s.number _ end.failed cut end.log.acks c.end_run.result _ fuse.nvm.now c.end_run.new.nvm (search rules) run.number e)
