-- A lock leaves the event that is held.
use Rattle.std.proofs.Common.{◌≡◌, ◌∙◌, ◌<◌, ◌-◌, ap, subst, sym, arith, length}
use Rattle.std.specs.Prelude.{slice_set}
use Rattle.std.proofs.lemmas.List.{get_or_read}
use Rattle.edr_image.specs.declared.BankView.{BankView}
use Rattle.edr_image.specs.declared.BankView.TheVariants.{Void}
use Rattle.edr_image.specs.Banks.{bank_at}
use Rattle.edr_image.specs.Steps.{with_lock}
use Rattle.edr_banks.specs.Fields.{opened_of}
use Rattle.edr_banks.specs.Opened.{IsOpened, OpenedBanks}
use Rattle.edr_banks.proofs.TaskLemmas.{lock_still}
use Rattle.edr_banks.proofs.Banks.lock.Goals as goal

pub invariant_of-self : goal.invariant_of-self
invariant_of-self c =
    let o = opened_of c.self.inside in
    let number : c.self.inside.header.banks ≡ c.args.self.now.store.header.banks = ap (λ (o : OpenedBanks). o.store.header.banks) c.self.view_is in
    let below : c.args.bank - 1 < length c.self.inside.banks.items = omega (arith, number, c.index-place.ensures.number.0, c.requires, c.self.invariant.all) in
    let there = get_or_read c.self.inside.banks.items (c.args.bank - 1) c.index.result.now below (rw c.index-place.ensures.index at c.index.ensures) Void in
    let is : c.with_lock.result ≡ with_lock (bank_at c.self.inside.banks.items c.args.bank) = c.with_lock.ensures ∙ ap with_lock there in
    rw c.index-place.ensures.index (subst (λ (view : BankView). IsOpened (record o { store = record o.store { banks = slice_set o.store.banks (c.args.bank - 1) view } })) (sym is) (lock_still o c.args.bank c.self.invariant))
