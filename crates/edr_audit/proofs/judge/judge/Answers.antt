use Rattle.std.proofs.Common.{◌++◌, ◌∷◌, [], None, List, ap, sym, subst, ◌∙◌, take}
use Rattle.std.proofs.lemmas.List.{take_more}
use Rattle.edr_audit.specs.Branches.{BranchState}
use Rattle.edr_audit.specs.Judged.{FoundSoFar, LooksAt}
use Rattle.edr_audit.proofs.EventLemmas.{take_past}
use Rattle.edr_audit.proofs.judge.judge.Goals as goal

pub loop-k-preserved : goal.loop-k-preserved
loop-k-preserved c =
    let report = c.args.report.now in
    let to = c.args.to.now in
    let bs = c.args.branches.now in
    let k = c.loop-k.k in
    let b = c.index-branches-k.result in
    let step = subst (LooksAt report to b c.loop-k.first) c.in-SoFar.is c.look.ensures in
    subst (λ (xs : List BranchState). FoundSoFar report to xs c.in-SoFar.next) (ap (λ (x : BranchState). take k bs ++ x ∷ []) c.index-branches-k.is ∙ sym (take_more bs k b c.loop-k-test.true)) (step (take k bs) c.loop-k.invariant)

pub returns-in-None : goal.returns-in-None
returns-in-None c =
    subst (λ (xs : List BranchState). FoundSoFar c.args.report.now c.args.to.now xs None) (take_past c.args.branches.now c.loop-k.k c.loop-k-test.false)
    (subst (FoundSoFar c.args.report.now c.args.to.now (take c.loop-k.k c.args.branches.now)) c.in-None.is c.loop-k.invariant)
