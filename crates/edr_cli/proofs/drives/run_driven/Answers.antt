use Rattle.std.proofs.Common.{subst, map, List, inl}
use Rattle.std.proofs.lemmas.Result.{err_from_is_err_and}
use Rattle.edr_image.specs.declared.log.CycleReport.{CycleReport}
use Rattle.edr_image.specs.Reports.{report_of}
use Rattle.edr_cli.specs.Reports.{IsImageCause}
use Rattle.edr_cli.specs.Outside.{memory}
use Rattle.edr_cli.specs.Steps.{IsDrivenCause, Reports, ReportsHeld}
use Rattle.edr_cli.proofs.DriveLemmas.{driven_cause}
use Rattle.edr_cli.proofs.ImageLemmas.{err_map, ok_map}
use Rattle.edr_cli.proofs.PastLemmas.{past_stays}
use Rattle.edr_cli.proofs.ReplayLemmas.{report_cause, run_reports}
use Rattle.edr_cli.proofs.drives.run_driven.Goals as goal

pub returns-in_err-reports-clause-cause : goal.returns-in_err-reports-clause-cause
returns-in_err-reports-clause-cause g c =
    let D = g.N.Nvm in
    let old = memory D c.args.nvm.now in
    let new = memory D c.replay_driven.new.nvm in
    let p = err_from_is_err_and c.from_residual.result c.from_residual.ensures.1 in
    rw (p.1, p.2) (driven_cause c.args.cycles.items old new _ c.in_err-reports.ensures.fault c.in_err-reports.ensures.refused c.in_err-reports.ensures.short c.in_err-reports.ensures.spent c.in_err-reports.ensures.left c.in_err-reports.ensures.memory)

pub returns-clause-text : goal.returns-clause-text
returns-clause-text g c =
    let D = g.N.Nvm in
    let old = memory D c.args.nvm.now in
    let mid = memory D c.replay_driven.new.nvm in
    let new = memory D c.report_held.new.nvm in
    let rs = c.in_ok-reports.reports.items in
    ok_map c.report_held.result (λ out. ReportsHeld c.args.form (map report_of c.deref.result.now) mid out.items) (λ out. Reports c.args.form c.args.cycles.items old new out.items)
    (λ out is. run_reports c.args.form c.args.cycles.items old mid new rs out.items c.in_ok-reports.ensures.ran c.report_held.ensures.read.stays.same_content c.report_held.ensures.read.stays.same_settled
    (subst (λ (xs : List CycleReport). ReportsHeld c.args.form (map report_of xs) mid out.items) c.deref.ensures.value is)) c.report_held.ensures.text

pub returns-clause-cause : goal.returns-clause-cause
returns-clause-cause g c =
    let D = g.N.Nvm in
    let old = memory D c.args.nvm.now in
    let mid = memory D c.replay_driven.new.nvm in
    let new = memory D c.report_held.new.nvm in
    err_map c.report_held.result (λ f. IsImageCause mid new f) (λ f. IsDrivenCause c.args.cycles.items old new f)
    (λ f cause. inl (report_cause c.args.cycles.items old mid new c.in_ok-reports.reports.items f c.in_ok-reports.ensures.ran c.report_held.ensures.read.stays.same_content c.report_held.ensures.read.stays.same_settled c.in_ok-reports.ensures.lent.size c.in_ok-reports.ensures.lent.later cause))
    c.report_held.ensures.cause

pub returns-clause-past : goal.returns-clause-past
returns-clause-past g c =
    let D = g.N.Nvm in
    past_stays (D.content c.args.nvm.now) (D.content c.replay_driven.new.nvm) (D.content c.report_held.new.nvm) (D.settled c.args.nvm.now) (D.settled c.replay_driven.new.nvm) (D.settled c.report_held.new.nvm) c.report_held.ensures.read.stays.same_content c.report_held.ensures.read.stays.same_settled c.in_ok-reports.ensures.past
