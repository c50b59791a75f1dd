use Rattle.std.proofs.Common.{◌∷◌, []}
use Rattle.edr_image.specs.Steps.{Fill, Lock}
use Rattle.edr_gates.proofs.TakenStepLemmas.{first_failed, then_came}
use Rattle.edr_gates.proofs.lists.fill_locked.Goals as goal

pub returns-in_err-fill : goal.returns-in_err-fill
returns-in_err-fill g c = first_failed (Fill c.args.bank c.args.pre.now ∷ []) (Lock c.args.bank ∷ []) _ _ _ c.from_residual.result c.from_residual.ensures.0
    (g.met.N.Nvm.only_now c.args.nvm.now) c.in_err-fill.ensures

pub returns : goal.returns
returns g c = then_came (Fill c.args.bank c.args.pre.now ∷ []) (Lock c.args.bank ∷ []) _ _ _ _ _
    (g.met.N.Nvm.only_now c.args.nvm.now) (g.met.N.Nvm.goes_on_again _ _ _) c.in_ok-fill.ensures c.lock.ensures
