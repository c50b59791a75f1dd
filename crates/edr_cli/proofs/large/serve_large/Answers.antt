use Rattle.edr_large.specs.Large.{AreLinesOf}
use Rattle.edr_cli.specs.Texts.{IsNumberCause}
use Rattle.edr_cli.proofs.EndingLemmas.{ends, served}
use Rattle.edr_cli.proofs.large.serve_large.Goals as goal

pub returns-clause-makes : goal.returns-clause-makes
returns-clause-makes g c =
    let K = g.K.Sink in
    let r = c.counts.result in
    let s = c.finish.result in
    record {
      ends = ends K r (λ v. v.items) (AreLinesOf c.args.number c.args.cycles) IsNumberCause s c.args.sink.now c.finish.new.sink c.counts.ensures.text c.counts.ensures.cause c.finish.ensures.text c.finish.ensures.fault;
      complete = λ quiet. served K r (λ v. v.items) s c.args.sink.now c.finish.new.sink c.counts.ensures.cause c.finish.ensures.text c.finish.ensures.fault quiet;
    }
