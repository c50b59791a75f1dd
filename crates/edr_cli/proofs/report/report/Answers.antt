use Rattle.std.proofs.lemmas.Result.{err_from_is_err_and}
use Rattle.edr_cli.specs.Outside.{memory}
use Rattle.edr_cli.proofs.ImageLemmas.{reported, same_told}
use Rattle.edr_cli.proofs.report.report.Goals as goal

pub returns-clause-text : goal.returns-clause-text
returns-clause-text g c =
    let D = g.N.Nvm in
    let b = c.in_ok-banks.banks in
    reported c.args.form (memory D c.args.nvm.now) (memory D c.open_settled.new.nvm) b.store b.count _ c.in_ok-banks.ensures.found c.in_ok-report_of_banks.ensures.text

pub returns-in_err-report_of_banks-clause-cause : goal.returns-in_err-report_of_banks-clause-cause
returns-in_err-report_of_banks-clause-cause g c =
    let D = g.N.Nvm in
    let old = memory D c.args.nvm.now in
    let new = memory D c.open_settled.new.nvm in
    let p = err_from_is_err_and c.from_residual-in_err-report_of_banks.result c.from_residual-in_err-report_of_banks.ensures.1 in
    rw (p.1, p.2) (same_told old.content new.content c.open_settled.ensures.lent.tells (λ image told. (c.in_ok-banks.ensures.found image told).quiet.0))
