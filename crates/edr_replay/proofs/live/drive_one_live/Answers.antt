use Rattle.std.proofs.Common.{◌≡◌, Err, Ok, refl, rules, subst}
use Rattle.std.proofs.lemmas.Result.{err_from_is_err_and}
use Rattle.edr_items.specs.SensorLists.{SensorLists}
use Rattle.edr_image.specs.Steps.{after}
use Rattle.edr_live.specs.Shown.{padded}
use Rattle.edr_run.specs.Schedule.{steps_of_first}
use Rattle.edr_cycle.specs.declared.started.StartFault.TheVariants as fault
use Rattle.edr_cycle.specs.Ends.{MeetsCycle}
use Rattle.edr_device.specs.FuseState.{fused_content, fused_settled, fused_since}
use Rattle.edr_replay.specs.declared.phases.StartedCycle.{StartedCycle}
use Rattle.edr_replay.specs.Phases.{BeginsAs}
use Rattle.edr_replay.specs.Replayed.{LeftOrCounted, RunsCycle}
use Rattle.edr_replay.proofs.EndPhaseLemmas.{ended, ran_fused}
use Rattle.edr_replay.proofs.LiveCycleLemmas.{failed_live, log_low, ran_live, stop_of, stopped_live, unshown_live}
use Rattle.edr_replay.proofs.WholeCycleLemmas.{HasBegun, alone_leaves, commands_end, start_fails, start_stops, wants_at_once, wants_begun}
use Rattle.edr_replay.proofs.live.drive_one_live.Goals as goal

pub returns-in_default : goal.returns-in_default
returns-in_default g c =
    let d = c.args.nvm.now in
    failed_live c.args.place c.args.cycle d d fault.OutOfMemory (Err fault.OutOfMemory) (wants_at_once c.args.cycle d (g.met.N.Nvm.goes_on_self d)) refl

pub returns-in_err-start_until : goal.returns-in_err-start_until
returns-in_err-start_until g c =
    let p = err_from_is_err_and c.from_residual.result c.from_residual.ensures.1 in
    let N = g.N.Nvm in
    let old = c.args.nvm.now in
    let new = c.start_until.new.nvm in
    failed_live c.args.place c.args.cycle old new _ c.from_residual.result
    (start_fails LeftOrCounted c.args.cycle _ old new _ (Err _) (alone_leaves _ (N.content old) (N.settled old) (N.content new) (N.settled new)) c.in_err-start_until.ensures refl) (rw (p.1, p.2) refl)

pub returns-in-Stopped : goal.returns-in-Stopped
returns-in-Stopped g c =
    stopped_live c.args.place c.args.cycle c.args.nvm.now c.start_until.new.nvm c.args.cycle.start_stop _
    (start_stops LeftOrCounted c.args.cycle _ c.args.nvm.now c.start_until.new.nvm _ c.requires.start_stop c.in-Stopped.is c.in_ok-start_until.ensures) refl

pub returns-in_err-end-in-Started : goal.returns-in_err-end-in-Started
returns-in_err-end-in-Started g c =
    let p = err_from_is_err_and c.from_residual-in_err-end-in-Started.result c.from_residual-in_err-end-in-Started.ensures.1 in
    let N = g.N.Nvm in
    let begun = subst (λ (b : StartedCycle). BeginsAs b c.args.cycle.start_stop c.horizon-ticks.result (N.extent c.args.nvm.now) (N.content c.args.nvm.now) (N.settled c.args.nvm.now) (N.content c.start_until.new.nvm) (N.settled c.start_until.new.nvm)) c.in-Started.is c.in_ok-start_until.ensures.ran in
    failed_live c.args.place c.args.cycle c.args.nvm.now _ fault.OutOfMemory c.from_residual-in_err-end-in-Started.result
    (wants_begun c.args.cycle c.in-Started.started.number c.in-Started.started.banks.store c.args.nvm.now c.start_until.new.nvm _ (Err fault.OutOfMemory)
    (record { lent = c.start_until.ensures.lent; found = begun.3; past = c.start_until.ensures.past }) (search rules) refl) (rw (p.1, p.2) refl)

pub returns-in_err-report-in-Started : goal.returns-in_err-report-in-Started
returns-in_err-report-in-Started g c =
    let p = err_from_is_err_and c.from_residual-in_err-report-in-Started.result c.from_residual-in_err-report-in-Started.ensures.1 in
    let N = g.N.Nvm in
    let cycle = c.args.cycle in
    let s = c.in-Started.started in
    let old = c.args.nvm.now in
    let mid = c.start_until.new.nvm in
    let armed = c.fused-fuse.result in
    let fuse = c.drive_cycle_live-run.new.nvm in
    let live = c.in_ok-end-in-Started.field-0 in
    let end = live.end in
    let cut = c.was_cut-stopped.result in
    let run = c.in_ok-end-in-Started.ensures in
    let begun = subst (λ (b : StartedCycle). BeginsAs b cycle.start_stop c.horizon-ticks.result (N.extent old) (N.content old) (N.settled old) (N.content mid) (N.settled mid)) c.in-Started.is c.in_ok-start_until.ensures.ran in
    let has_begun : HasBegun N s.number s.banks.store old mid = record { lent = c.start_until.ensures.lent; found = begun.3; past = c.start_until.ensures.past } in
    let e = c.in_err-report-in-Started.ensures in
    let came : RunsCycle N LeftOrCounted cycle old c.end_run.new.nvm (Err c.in_err-report-in-Started.field-0.0) =
    commands_end LeftOrCounted cycle s.number s.banks.store end.failed cut end.log.acks armed fuse old mid c.end_run.new.nvm (Err c.in_err-report-in-Started.field-0.0)
    g.met.N.Nvm.goes_on_again (λ u image within left. g.met.N.Nvm.counts_now fuse.nvm.now u image within left)
    begun.0 has_begun c.fused-fuse.ensures.now
    (ran_fused cycle.feeds cycle.stop s.number s.banks.store end.failed cut end.log.acks armed fuse c.requires.feeds c.fused-fuse.ensures.state run.lent.size run.lent.device run.lent.tells
    (subst (λ (f : SensorLists). MeetsCycle fused_content fused_settled fused_since (λ x. x.ticks) (λ x. x.last_good) f s.number s.banks.store end.failed end.log.acks armed fuse) c.in-Ok.ensures.ok run.cycle)
    run.cause c.was_cut-stopped.ensures.planned c.was_cut-stopped.ensures.unplanned)
    (ended N cycle.stop s.number _ end.failed cut end.log.acks (Err c.in_err-report-in-Started.field-0.0) _ fuse.nvm.now c.end_run.new.nvm (search rules) run.number e) in
    failed_live c.args.place cycle old c.end_run.new.nvm c.in_err-report-in-Started.field-0.0 c.from_residual-in_err-report-in-Started.result came (rw (p.1, p.2) refl)

pub returns-then-cut : goal.returns-then-cut
returns-then-cut g c =
    let N = g.N.Nvm in
    let cycle = c.args.cycle in
    let s = c.in-Started.started in
    let old = c.args.nvm.now in
    let mid = c.start_until.new.nvm in
    let armed = c.fused-fuse.result in
    let fuse = c.drive_cycle_live-run.new.nvm in
    let live = c.in_ok-end-in-Started.field-0 in
    let end = live.end in
    let cut = c.was_cut-stopped.result in
    let run = c.in_ok-end-in-Started.ensures in
    let begun = subst (λ (b : StartedCycle). BeginsAs b cycle.start_stop c.horizon-ticks.result (N.extent old) (N.content old) (N.settled old) (N.content mid) (N.settled mid)) c.in-Started.is c.in_ok-start_until.ensures.ran in
    let has_begun : HasBegun N s.number s.banks.store old mid = record { lent = c.start_until.ensures.lent; found = begun.3; past = c.start_until.ensures.past } in
    let e = c.in_ok-report-in-Started.ensures in
    let came : RunsCycle N LeftOrCounted cycle old c.end_run.new.nvm (Ok c.in_ok-report-in-Started.report) =
    commands_end LeftOrCounted cycle s.number s.banks.store end.failed cut end.log.acks armed fuse old mid c.end_run.new.nvm (Ok c.in_ok-report-in-Started.report)
    g.met.N.Nvm.goes_on_again (λ u image within left. g.met.N.Nvm.counts_now fuse.nvm.now u image within left)
    begun.0 has_begun c.fused-fuse.ensures.now
    (ran_fused cycle.feeds cycle.stop s.number s.banks.store end.failed cut end.log.acks armed fuse c.requires.feeds c.fused-fuse.ensures.state run.lent.size run.lent.device run.lent.tells
    (subst (λ (f : SensorLists). MeetsCycle fused_content fused_settled fused_since (λ x. x.ticks) (λ x. x.last_good) f s.number s.banks.store end.failed end.log.acks armed fuse) c.in-Ok.ensures.ok run.cycle)
    run.cause c.was_cut-stopped.ensures.planned c.was_cut-stopped.ensures.unplanned)
    (ended N cycle.stop s.number _ end.failed cut end.log.acks (Ok c.in_ok-report-in-Started.report) _ fuse.nvm.now c.end_run.new.nvm (search rules) run.number e) in
    unshown_live c.args.place cycle old c.end_run.new.nvm c.in_ok-report-in-Started.report (Err fault.OutOfMemory) came refl

pub line_of-requires : goal.line_of-requires
line_of-requires g c =
    let s = c.in-Started.started in
    let live = c.in_ok-end-in-Started.field-0 in
    let run = c.in_ok-end-in-Started.ensures in
    let met = subst (λ (f : SensorLists). MeetsCycle fused_content fused_settled fused_since (λ x. x.ticks) (λ x. x.last_good) f s.number s.banks.store live.end.failed live.end.log.acks c.fused-fuse.result c.drive_cycle_live-run.new.nvm) c.in-Ok.ensures.ok run.cycle in
    log_low c.args.cycle.feeds s.number s.banks.store live.end.failed live.end.log.acks live.last.applied c.requires.feeds run.last.within met.log_of_all met.log_begins

pub returns : goal.returns
returns g c =
    let N = g.N.Nvm in
    let cycle = c.args.cycle in
    let s = c.in-Started.started in
    let old = c.args.nvm.now in
    let mid = c.start_until.new.nvm in
    let armed = c.fused-fuse.result in
    let fuse = c.drive_cycle_live-run.new.nvm in
    let live = c.in_ok-end-in-Started.field-0 in
    let end = live.end in
    let cut = c.was_cut-stopped.result in
    let run = c.in_ok-end-in-Started.ensures in
    let begun = subst (λ (b : StartedCycle). BeginsAs b cycle.start_stop c.horizon-ticks.result (N.extent old) (N.content old) (N.settled old) (N.content mid) (N.settled mid)) c.in-Started.is c.in_ok-start_until.ensures.ran in
    let has_begun : HasBegun N s.number s.banks.store old mid = record { lent = c.start_until.ensures.lent; found = begun.3; past = c.start_until.ensures.past } in
    let e = c.in_ok-report-in-Started.ensures in
    let came : RunsCycle N LeftOrCounted cycle old c.end_run.new.nvm (Ok c.in_ok-report-in-Started.report) =
    commands_end LeftOrCounted cycle s.number s.banks.store end.failed cut end.log.acks armed fuse old mid c.end_run.new.nvm (Ok c.in_ok-report-in-Started.report)
    g.met.N.Nvm.goes_on_again (λ u image within left. g.met.N.Nvm.counts_now fuse.nvm.now u image within left)
    begun.0 has_begun c.fused-fuse.ensures.now
    (ran_fused cycle.feeds cycle.stop s.number s.banks.store end.failed cut end.log.acks armed fuse c.requires.feeds c.fused-fuse.ensures.state run.lent.size run.lent.device run.lent.tells
    (subst (λ (f : SensorLists). MeetsCycle fused_content fused_settled fused_since (λ x. x.ticks) (λ x. x.last_good) f s.number s.banks.store end.failed end.log.acks armed fuse) c.in-Ok.ensures.ok run.cycle)
    run.cause c.was_cut-stopped.ensures.planned c.was_cut-stopped.ensures.unplanned)
    (ended N cycle.stop s.number _ end.failed cut end.log.acks (Ok c.in_ok-report-in-Started.report) _ fuse.nvm.now c.end_run.new.nvm (search rules) run.number e) in
    let told = stop_of end.failed cut end.number s.number cycle.stop end.log.acks c.in_ok-report-in-Started.report run.number e.whole e.stopped in
    let are = subst (λ (f : SensorLists). live.last.views ≡ padded 16 (after s.banks.store (steps_of_first f s.number s.banks.store live.last.applied)).banks) c.in-Ok.ensures.ok run.last.views in
    ran_live c.args.place cycle s.number s.banks.store told.0 end.log.acks live.last.applied live.last.views c.in_ok-report-in-Started.report old mid c.end_run.new.nvm _
    has_begun came told.1 (run.last.all c.if-cut.false) are (rw c.line_of.ensures refl)
