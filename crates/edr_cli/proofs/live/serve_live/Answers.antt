use Rattle.edr_cli.specs.Drives.{IsDriveCause}
use Rattle.edr_cli.specs.Lives.{LiveRunIs}
use Rattle.edr_cli.specs.Outside.{input, memory}
use Rattle.edr_cli.proofs.DriveLemmas.{driven_only_memory}
use Rattle.edr_cli.proofs.EndingLemmas.{ends, served, when_ok}
use Rattle.edr_cli.proofs.ImageLemmas.{err_map}
use Rattle.edr_cli.proofs.live.serve_live.Goals as goal

pub returns-clause-runs : goal.returns-clause-runs
returns-clause-runs g c =
    let S = g.S.Source in
    let K = g.K.Sink in
    let D = g.N.Nvm in
    let i = input S c.args.source.now in
    let i' = input S c.live_source.new.source in
    let old = memory D c.args.nvm.now in
    let new = memory D c.live_source.new.nvm in
    let r = c.live_source.result in
    let s = c.finish.result in
    record {
      at_end = when_ok K r _ s c.args.sink.now c.finish.new.sink c.live_source.ensures.end c.finish.ensures.fault;
      ends = ends K r (λ v. v.items) (LiveRunIs i old new) (IsDriveCause i i' old new) s c.args.sink.now c.finish.new.sink c.live_source.ensures.text c.live_source.ensures.cause c.finish.ensures.text c.finish.ensures.fault;
      past = c.live_source.ensures.past;
      complete = λ can calm quiet_device quiet. served K r (λ v. v.items) s c.args.sink.now c.finish.new.sink
          (err_map r _ _ (λ f cause. driven_only_memory i i' old new f can.bytes can.image can.cycles can.store can.count can.given can.spelled.0 can.spelled.1 can.told can.says can.room calm quiet_device cause) c.live_source.ensures.cause)
          c.finish.ensures.text c.finish.ensures.fault quiet;
    }
