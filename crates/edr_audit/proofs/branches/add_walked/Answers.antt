use Rattle.std.proofs.Common.{◌≡◌, ◌++◌, OnOk, ap, subst, sym, ◌∙◌}
use Rattle.edr_audit.proofs.EndLemmas.{over_is}
use Rattle.edr_audit.proofs.branches.add_walked.Goals as goal

pub returns-else-goes_on : goal.returns-else-goes_on
returns-else-goes_on c =
    subst (λ xs. OnOk c.add_ends.result (c.add_ends.new.branches.items ≡ c.args.branches.now.items ++ xs))
    (over_is c.args.walker c.end-number.result.number c.end-number.result.cut c.into_ends.result.items c.deref.result.now c.end-number.result.walk.ends
    c.end-number.ensures.number c.end-number.ensures.cut c.deref.ensures.value c.into_ends.ensures.ends (ap (λ w. w.ends) c.end-number.ensures.walk) (sym c.goes_on.ensures ∙ c.if-goes_on.false))
    c.add_ends.ensures
