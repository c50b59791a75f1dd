use Rattle.std.proofs.Common.{ℕ, arith, length-drop}
use Rattle.std.proofs.lemmas.List.{take_rest}
use Rattle.edr_device.proofs.TransferLemmas.{appends_more}
use Rattle.edr_device.proofs.transfer.put_all.Goals as goal

pub loop-at-preserved : goal.loop-at-preserved
loop-at-preserved g c =
    let K = g.K.Sink in
    let within = rw (take_rest c.args.bytes.now c.loop-at.at) at c.in_ok-at.ensures.within in
    let told = rw (take_rest c.args.bytes.now c.loop-at.at) at c.in_ok-at.ensures.told in
    record {
      within = omega (arith, within, length-drop {A = ℕ});
      put = appends_more c.loop-at.at c.in_ok-at.field-0 c.args.bytes.now (K.content c.args.sink.now) (K.content c.loop-at.sink) (K.content c.put.new.self) c.loop-at.invariant.put told;
      later = omega (arith, c.loop-at.invariant.later, c.put.ensures.cause.later);
      nothing = λ none. absurd (omega (arith, none, c.in_ok-at.ensures.some));
    }
