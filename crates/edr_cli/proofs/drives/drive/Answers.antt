use Rattle.std.proofs.Common.{rules, inl, refl}
use Rattle.edr_words.specs.declared.Form.{Form}
use Rattle.edr_cli.specs.declared.fault.Fault.TheVariants as fault
use Rattle.edr_cli.specs.Drives.{IsDriveCause, AreDrive}
use Rattle.edr_cli.specs.Words.{IsUsageCause}
use Rattle.edr_cli.specs.Lives.{LiveRunIs}
use Rattle.edr_cli.specs.Runs.{Runs, RunIs}
use Rattle.edr_cli.specs.Outside.{input, memory}
use Rattle.edr_cli.proofs.DispatchLemmas.{as_drive}
use Rattle.edr_cli.proofs.DriveLemmas.{driven_only_memory}
use Rattle.edr_cli.proofs.EndingLemmas.{ends, served, tells_fault, tells_fault_part, when_ok}
use Rattle.edr_cli.proofs.ImageLemmas.{err_map}
use Rattle.edr_cli.proofs.OutcomeLemmas.{fleet_short, runs_short}
use Rattle.edr_cli.proofs.drives.drive.Goals as goal

-- ---- memory ran out before the words were read

pub returns-in-Err-clause-usage : goal.returns-in-Err-clause-usage
returns-in-Err-clause-usage g c = λ other fine. tells_fault g.K.Sink IsUsageCause fault.OutOfMemory c.tell.result c.args.sink.now c.tell.new.sink tt c.tell.ensures.gains fine

pub returns-in-Err-clause-usage_part : goal.returns-in-Err-clause-usage_part
returns-in-Err-clause-usage_part g c = λ other failed. tells_fault_part g.K.Sink IsUsageCause fault.OutOfMemory c.tell.result c.args.sink.now c.tell.new.sink tt c.tell.ensures.gains failed

pub returns-in-Err-clause-drive : goal.returns-in-Err-clause-drive
returns-in-Err-clause-drive g c = λ form workers asked.
    runs_short g.S.Source g.K.Sink g.N.Nvm IsDriveCause (RunIs form) c.tell.result c.args.source.now c.args.sink.now c.tell.new.sink c.args.nvm.now (inl (inl refl)) c.tell.ensures.gains

pub returns-in-Err-clause-live : goal.returns-in-Err-clause-live
returns-in-Err-clause-live g c = λ workers asked.
    runs_short g.S.Source g.K.Sink g.N.Nvm IsDriveCause LiveRunIs c.tell.result c.args.source.now c.args.sink.now c.tell.new.sink c.args.nvm.now (inl (inl refl)) c.tell.ensures.gains

pub returns-in-Err-clause-fleet : goal.returns-in-Err-clause-fleet
returns-in-Err-clause-fleet g c = λ workers asked.
    fleet_short g.S.Source g.K.Sink c.tell.result c.args.source.now c.args.sink.now c.tell.new.sink c.tell.ensures.gains

-- ---- a run by threads

pub returns-in-Some-Drive-clause-drive : goal.returns-in-Some-Drive-clause-drive
returns-in-Some-Drive-clause-drive g c = λ form workers asked.
    let S = g.S.Source in
    let K = g.K.Sink in
    let D = g.N.Nvm in
    let i = input S c.args.source.now in
    let i' = input S c.drive_source.new.source in
    let old = memory D c.args.nvm.now in
    let new = memory D c.drive_source.new.nvm in
    let r = c.drive_source.result in
    let s = c.finish.result in
    let f = c.in-Some-Drive.form in
    let is : AreDrive f c.in-Some-Drive.workers c.args.words.now = search rules in
    let served_by : Runs S K D IsDriveCause (RunIs f) s c.args.source.now c.drive_source.new.source c.args.sink.now c.finish.new.sink c.args.nvm.now c.drive_source.new.nvm = record {
      at_end = when_ok K r _ s c.args.sink.now c.finish.new.sink c.drive_source.ensures.end c.finish.ensures.fault;
      ends = ends K r (λ v. v.items) (RunIs f i old new) (IsDriveCause i i' old new) s c.args.sink.now c.finish.new.sink c.drive_source.ensures.text c.drive_source.ensures.cause c.finish.ensures.text c.finish.ensures.fault;
      past = c.drive_source.ensures.past;
      complete = λ can calm quiet_device quiet. served K r (λ v. v.items) s c.args.sink.now c.finish.new.sink
          (err_map r _ _ (λ f cause. driven_only_memory i i' old new f can.bytes can.image can.cycles can.store can.count can.given can.spelled.0 can.spelled.1 can.told can.says can.room calm quiet_device cause) c.drive_source.ensures.cause)
          c.finish.ensures.text c.finish.ensures.fault quiet;
    } in
    as_drive (λ (x : Form). Runs S K D IsDriveCause (RunIs x) s c.args.source.now c.drive_source.new.source c.args.sink.now c.finish.new.sink c.args.nvm.now c.drive_source.new.nvm) c.args.words.now f form c.in-Some-Drive.workers workers is served_by asked

pub returns-in-Some-DriveLive-clause-live : goal.returns-in-Some-DriveLive-clause-live
returns-in-Some-DriveLive-clause-live g c = λ workers asked. c.serve_live.ensures.runs

-- ---- a fleet

pub returns-in-Some-Fleet-clause-fleet : goal.returns-in-Some-Fleet-clause-fleet
returns-in-Some-Fleet-clause-fleet g c = λ workers asked. c.serve_fleet.ensures.tells

-- ---- other words

pub returns-in_default-clause-usage : goal.returns-in_default-clause-usage
returns-in_default-clause-usage g c = λ other fine. tells_fault g.K.Sink IsUsageCause fault.Usage c.tell-in_default.result c.args.sink.now c.tell-in_default.new.sink tt c.tell-in_default.ensures.gains fine

pub returns-in_default-clause-usage_part : goal.returns-in_default-clause-usage_part
returns-in_default-clause-usage_part g c = λ other failed. tells_fault_part g.K.Sink IsUsageCause fault.Usage c.tell-in_default.result c.args.sink.now c.tell-in_default.new.sink tt c.tell-in_default.ensures.gains failed
