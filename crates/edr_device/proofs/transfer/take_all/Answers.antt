use Rattle.std.proofs.Common.{◌+◌, ℕ, arith, length-take}
use Rattle.std.proofs.lemmas.Result.{err_from_is_err_and}
use Rattle.edr_device.proofs.TransferLemmas.{gives_at_most}
use Rattle.edr_device.proofs.transfer.take_all.Goals as goal

pub returns-in_err-take_more-clause-err : goal.returns-in_err-take_more-clause-err
returns-in_err-take_more-clause-err g c =
    let S = g.S.Source in
    let p = err_from_is_err_and c.from_residual-in_err-take_more.result c.from_residual-in_err-take_more.ensures.1 in
    let told = c.in_err-take_more.ensures.err in
    rw p.1 (gives_at_most _ (c.args.limit + 1) c.loop-buffer.taken.items (S.left c.args.source.now) (S.left c.loop-buffer.source) (S.left c.take_more.new.source) (omega (arith, length-take {A = ℕ})) c.loop-buffer.invariant.gives told)
