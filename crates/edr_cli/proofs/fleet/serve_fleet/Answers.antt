use Rattle.edr_cli.specs.Fleets.{FleetIs, IsFleetCause}
use Rattle.edr_cli.specs.Outside.{input}
use Rattle.edr_cli.proofs.EndingLemmas.{ends, served, when_ok}
use Rattle.edr_cli.proofs.fleet.serve_fleet.Goals as goal

pub returns-clause-tells : goal.returns-clause-tells
returns-clause-tells g c =
    let S = g.S.Source in
    let K = g.K.Sink in
    let i = input S c.args.source.now in
    let i' = input S c.fleet_source.new.source in
    let r = c.fleet_source.result in
    let s = c.finish.result in
    record {
      at_end = when_ok K r _ s c.args.sink.now c.finish.new.sink c.fleet_source.ensures.end c.finish.ensures.fault;
      ends = ends K r (λ v. v.items) (FleetIs i) (IsFleetCause i i') s c.args.sink.now c.finish.new.sink c.fleet_source.ensures.text c.fleet_source.ensures.cause c.finish.ensures.text c.finish.ensures.fault;
      complete = λ told calm quiet. served K r (λ v. v.items) s c.args.sink.now c.finish.new.sink (c.fleet_source.ensures.complete told calm) c.finish.ensures.text c.finish.ensures.fault quiet;
    }
