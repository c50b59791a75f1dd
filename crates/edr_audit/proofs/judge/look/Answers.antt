use Rattle.std.proofs.Common.{◌≡◌, Bool, false, true, sym, ap, subst, ◌∙◌}
use Rattle.edr_report.specs.Lines.{text_of}
use Rattle.edr_audit.specs.Branches.{BranchState}
use Rattle.edr_audit.specs.Compared.{compare, difference_in}
use Rattle.edr_audit.specs.Judged.{FoundSoFar}
use Rattle.edr_audit.specs.Tail.{tail_lines}
use Rattle.edr_audit.proofs.JudgeLemmas.{met_first, met_later, passed}
use Rattle.edr_audit.proofs.judge.look.Goals as goal

not_one : (b : Bool) → b ≡ false → b ≡ true → ⊥
not_one b e f = let both : false ≡ true = sym e ∙ f in absurd cc

pub returns-then-not-fits : goal.returns-then-not-fits
returns-then-not-fits c = λ bs so. passed c.args.report.now c.args.to.now bs c.args.branch.now c.args.first so (λ is. not_one c.fits.result c.if-not-fits.true (c.fits.ensures.1 is))

pub returns-in-None-first : goal.returns-in-None-first
returns-in-None-first c =
    let report = c.args.report.now in
    let to = c.args.to.now in
    λ bs so. met_first report to bs c.args.branch.now c.in-Some.offset (subst (FoundSoFar report to bs) c.in-None-first.is so) (c.fits.ensures.0 c.if-not-fits.false)
    (ap (λ (x : BranchState). difference_in report (compare report x.text (text_of (tail_lines to)))) (sym c.branch.view_is) ∙ sym (c.difference.ensures ∙ ap (difference_in report) c.with_tail.ensures) ∙ c.in-Some.is)

pub returns-in-Some-first : goal.returns-in-Some-first
returns-in-Some-first c =
    let report = c.args.report.now in
    let to = c.args.to.now in
    λ bs so. met_later report to bs c.args.branch.now c.in-Some.offset c.in-Some-first.first (subst (FoundSoFar report to bs) c.in-Some-first.is so)
    (ap (λ (x : BranchState). difference_in report (compare report x.text (text_of (tail_lines to)))) (sym c.branch.view_is) ∙ sym (c.difference.ensures ∙ ap (difference_in report) c.with_tail.ensures) ∙ c.in-Some.is)
