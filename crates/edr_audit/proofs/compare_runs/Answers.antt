use Rattle.std.proofs.Common.{◌≡◌, Bool, true, false, List, [], ◌∷◌, sym, ap, subst, ◌∙◌}
use Rattle.edr_image.specs.declared.Header.{Header}
use Rattle.edr_audit.specs.Branches.{BranchState, all_branches}
use Rattle.edr_audit.specs.Judged.{IsJudged}
use Rattle.edr_audit.proofs.AuditLemmas.{headers-differ, runs-are}
use Rattle.edr_audit.proofs.compare_runs.Goals as goal

not_one : (b : Bool) → b ≡ false → b ≡ true → ⊥
not_one b e f = let both : false ≡ true = sym e ∙ f in absurd cc

pub returns-then-not-is_same_header : goal.returns-then-not-is_same_header
returns-then-not-is_same_header c =
    λ before trace after audited. headers-differ before trace after c.args.report.now c.args.from c.args.to.now c.args.cycles.now audited
    (λ same. not_one c.is_same_header.result c.if-not-is_same_header.true (c.is_same_header.ensures.1 (c.header-header.ensures ∙ same ∙ sym c.header.ensures)))

pub returns : goal.returns
returns c =
    λ before trace after audited. runs-are before trace after c.args.report.now c.args.from c.args.to.now c.args.cycles.now c.in_ok-branches.branches.items c.judge.result audited
    (sym c.header-header.ensures ∙ c.is_same_header.ensures.0 c.if-not-is_same_header.false ∙ c.header.ensures)
    (c.in_ok-branches.ensures
    ∙ ap (λ (h : Header). all_branches c.args.report.now h 1 c.args.cycles.now (c.first_branch-first.result ∷ [])) c.header-header.ensures
    ∙ ap (λ (b : BranchState). all_branches c.args.report.now c.args.from.store.header 1 c.args.cycles.now (b ∷ [])) c.first_branch-first.ensures)
    (subst (λ (bs : List BranchState). IsJudged c.args.report.now c.args.to.now bs c.judge.result) c.deref.ensures.value c.judge.ensures)
