use Rattle.std.proofs.Common.{◌≡◌, ◌++◌, subst, map, List, inl}
use Rattle.std.proofs.lemmas.Result.{err_from_is_err_and}
use Rattle.edr_image.specs.declared.log.CycleReport.{CycleReport}
use Rattle.edr_image.specs.Reports.{report_of}
use Rattle.edr_words.specs.declared.Form.TheVariants.{Text}
use Rattle.edr_cli.specs.Outside.{memory}
use Rattle.edr_run.specs.declared.live.LiveLine.{LiveLine}
use Rattle.edr_cli.specs.Lives.{live_text}
use Rattle.edr_cli.specs.Steps.{ReportsHeld}
use Rattle.edr_cli.proofs.DriveLemmas.{driven_cause}
use Rattle.edr_cli.proofs.LiveLemmas.{lines_short, live_reports, without_lines}
use Rattle.edr_cli.proofs.PastLemmas.{past_stays}
use Rattle.edr_cli.proofs.ReplayLemmas.{report_cause}
use Rattle.edr_cli.proofs.live.run_live.Goals as goal

pub returns-in_err-lived-clause-cause : goal.returns-in_err-lived-clause-cause
returns-in_err-lived-clause-cause g c =
    let D = g.N.Nvm in
    let old = memory D c.args.nvm.now in
    let new = memory D c.replay_live.new.nvm in
    let p = err_from_is_err_and c.from_residual.result c.from_residual.ensures.1 in
    rw (p.1, p.2) (driven_cause c.args.cycles.items old new _ c.in_err-lived.ensures.fault c.in_err-lived.ensures.refused c.in_err-lived.ensures.short c.in_err-lived.ensures.spent c.in_err-lived.ensures.left c.in_err-lived.ensures.memory)

pub returns-in_err-report-clause-cause : goal.returns-in_err-report-clause-cause
returns-in_err-report-clause-cause g c =
    let D = g.N.Nvm in
    let old = memory D c.args.nvm.now in
    let mid = memory D c.replay_live.new.nvm in
    let new = memory D c.report_held.new.nvm in
    let cs = c.args.cycles.items in
    let run = c.in_ok-lived.lived in
    let ran = without_lines cs old mid run.reports.items run.lines.items c.in_ok-lived.ensures.ran in
    let p = err_from_is_err_and c.from_residual-in_err-report.result c.from_residual-in_err-report.ensures.1 in
    rw (p.1, p.2) (inl (report_cause cs old mid new run.reports.items _ ran c.report_held.ensures.read.stays.same_content c.report_held.ensures.read.stays.same_settled c.in_ok-lived.ensures.lent.size c.in_ok-lived.ensures.lent.later c.in_err-report.ensures.cause))

pub returns-in_err-with_lines-clause-cause : goal.returns-in_err-with_lines-clause-cause
returns-in_err-with_lines-clause-cause g c =
    let D = g.N.Nvm in
    let old = memory D c.args.nvm.now in
    let mid = memory D c.replay_live.new.nvm in
    let new = memory D c.report_held.new.nvm in
    let run = c.in_ok-lived.lived in
    let p = err_from_is_err_and c.from_residual-in_err-with_lines.result c.from_residual-in_err-with_lines.ensures.1 in
    rw (p.1, p.2) (lines_short c.args.cycles.items old mid new run.reports.items run.lines.items c.in_ok-lived.ensures.ran c.report_held.ensures.read.stays.same_content c.report_held.ensures.read.stays.same_settled)

pub returns-clause-text : goal.returns-clause-text
returns-clause-text g c =
    let D = g.N.Nvm in
    let old = memory D c.args.nvm.now in
    let mid = memory D c.replay_live.new.nvm in
    let new = memory D c.report_held.new.nvm in
    let run = c.in_ok-lived.lived in
    live_reports c.args.cycles.items old mid new run.reports.items run.lines.items c.in_ok-report.report.items c.in_ok-with_lines.field-0.items c.in_ok-lived.ensures.ran c.report_held.ensures.read.stays.same_content c.report_held.ensures.read.stays.same_settled
    (subst (λ (xs : List CycleReport). ReportsHeld Text (map report_of xs) mid c.in_ok-report.report.items) c.deref.ensures.value c.in_ok-report.ensures.text)
    (subst (λ (xs : List LiveLine). c.in_ok-with_lines.field-0.items ≡ c.in_ok-report.report.items ++ live_text xs) c.deref-2.ensures.value c.in_ok-with_lines.ensures)

pub returns-clause-past : goal.returns-clause-past
returns-clause-past g c =
    let D = g.N.Nvm in
    past_stays (D.content c.args.nvm.now) (D.content c.replay_live.new.nvm) (D.content c.report_held.new.nvm) (D.settled c.args.nvm.now) (D.settled c.replay_live.new.nvm) (D.settled c.report_held.new.nvm) c.report_held.ensures.read.stays.same_content c.report_held.ensures.read.stays.same_settled c.in_ok-lived.ensures.past

pub returns-in_err-with_lines-clause-past : goal.returns-in_err-with_lines-clause-past
returns-in_err-with_lines-clause-past g c =
    let D = g.N.Nvm in
    past_stays (D.content c.args.nvm.now) (D.content c.replay_live.new.nvm) (D.content c.report_held.new.nvm) (D.settled c.args.nvm.now) (D.settled c.replay_live.new.nvm) (D.settled c.report_held.new.nvm) c.report_held.ensures.read.stays.same_content c.report_held.ensures.read.stays.same_settled c.in_ok-lived.ensures.past
