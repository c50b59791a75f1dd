use Rattle.std.proofs.Common.{◌∙◌, ap, length, take, arith, take_all, List, slice_set}
use Rattle.edr_image.specs.declared.BankView.{BankView}
use Rattle.edr_live.specs.Shown.{padded}
use Rattle.edr_live.proofs.ViewLemmas.{length-padded, padded_next}
use Rattle.edr_live.proofs.opening.views_of.Goals as goal

pub listed : goal.listed
listed c =
    let t = c.loop-bank-test.true in
    let few = c.banks-bank-end.ensures.most in
    let size = ap length c.loop-bank.invariant ∙ length-padded 16 (take c.loop-bank.bank c.args.banks.now.store.banks) in
    omega (arith, t, few, size)

pub bounds-views-bank : goal.bounds-views-bank
bounds-views-bank c =
    let t = c.loop-bank-test.true in
    let few = c.banks-bank-end.ensures.most in
    omega (arith, t, few)

pub loop-bank-preserved : goal.loop-bank-preserved
loop-bank-preserved c =
    let t = c.loop-bank-test.true in
    let few = c.banks-bank-end.ensures.most in
    let all = c.banks-bank-end.ensures.all in
    let k = c.loop-bank.bank in
    let banks = c.args.banks.now.store.banks in
    ap (λ (views : List BankView). slice_set views k c.view.result) c.loop-bank.invariant
    ∙ ap (λ (b : BankView). slice_set (padded 16 (take k banks)) k b) c.view.ensures
    ∙ padded_next 16 k banks (omega (arith, t, all)) (omega (arith, t, few))

pub returns : goal.returns
returns c =
    let t = c.loop-bank-test.false in
    let all = c.banks-bank-end.ensures.all in
    c.loop-bank.invariant ∙ ap (padded 16) (take_all c.loop-bank.bank c.args.banks.now.store.banks (omega (arith, t, all)))
