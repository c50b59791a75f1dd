-- The new event is not done.
use Rattle.std.proofs.Common.{◌≡◌, None, ap, refl, arith}
use Rattle.edr_banks.specs.Fields.{opened_of}
use Rattle.edr_banks.specs.Opened.{OpenedBanks}
use Rattle.edr_banks.proofs.TaskLemmas.{hold_still}
use Rattle.edr_banks.proofs.Banks.hold.Goals as goal

pub invariant_of-self : goal.invariant_of-self
invariant_of-self c =
    let number : c.self.inside.header.banks ≡ c.args.self.now.store.header.banks = ap (λ (o : OpenedBanks). o.store.header.banks) c.self.view_is in
    rw c.index-place.ensures.index (hold_still (opened_of c.self.inside) c.args.bank (record { pre = c.args.pre; locked = c.args.locked; crash = None }) c.self.invariant c.index-place.ensures.number.0 (omega (arith, number, c.requires)) refl)
