use Rattle.edr_cli.specs.Reports.{IsImageCause, ReportIs}
use Rattle.edr_cli.specs.Outside.{memory}
use Rattle.edr_cli.proofs.CompletenessLemmas.{image_only_memory}
use Rattle.edr_cli.proofs.EndingLemmas.{ends, served}
use Rattle.edr_cli.proofs.ImageLemmas.{err_map}
use Rattle.edr_cli.proofs.report.serve_report.Goals as goal

pub returns-clause-shows : goal.returns-clause-shows
returns-clause-shows g c =
    let K = g.K.Sink in
    let D = g.N.Nvm in
    let old = memory D c.args.nvm.now in
    let new = memory D c.report.new.nvm in
    let r = c.report.result in
    let s = c.finish.result in
    record {
      ends = ends K r (λ v. v.items) (ReportIs c.args.form old new) (IsImageCause old new) s c.args.sink.now c.finish.new.sink c.report.ensures.text c.report.ensures.cause c.finish.ensures.text c.finish.ensures.fault;
      stays = c.report.ensures.stays;
      complete = λ image told none quiet_device quiet. served K r (λ v. v.items) s c.args.sink.now c.finish.new.sink
          (err_map r _ _ (λ f cause. image_only_memory old new f image told none quiet_device cause) c.report.ensures.cause) c.finish.ensures.text c.finish.ensures.fault quiet;
    }
