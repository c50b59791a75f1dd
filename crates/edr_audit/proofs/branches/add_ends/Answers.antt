use Rattle.std.proofs.Common.{◌∙◌, ◌++◌, ◌∷◌, [], Vec, Global, ap}
use Rattle.edr_image.specs.declared.BankView.{BankView}
use Rattle.edr_audit.specs.Branches.{branch_with}
use Rattle.edr_audit.proofs.EndLemmas.{mapped_more}
use Rattle.edr_audit.proofs.branches.add_ends.Goals as goal

pub loop-banks-preserved : goal.loop-banks-preserved
loop-banks-preserved c =
    mapped_more (λ v. branch_with c.args.count c.args.text v.items) c.args.branches.now.items c.loop-banks.branches.items c.add_end.new.branches.items c.args.ends.now c.loop-banks.banks-index c.banks-item.result
    c.loop-banks-test.true c.loop-banks.invariant
    (c.in_ok-add_end.ensures ∙ ap (λ (v : Vec BankView Global). c.loop-banks.branches.items ++ branch_with c.args.count c.args.text v.items ∷ []) c.banks-item.is)
