use Rattle.std.proofs.Common.{rules, Some, None}
use Rattle.edr_reading.proofs.ValueLemmas.{stop-whole}
use Rattle.edr_reading.proofs.values.stop.Goals as goal

pub returns : goal.returns
returns c = record { read = search rules; whole = λ s h is. stop-whole c.args.bytes.now (Some c.in_ok-call.call) s c.if-is_word.ensures c.in_ok-call.ensures.whole h is }

pub returns-in_err-call : goal.returns-in_err-call
returns-in_err-call c = rw c.from_residual.ensures (record { read = tt; whole = λ s h is. stop-whole c.args.bytes.now None s c.if-is_word.ensures c.in_err-call.ensures.whole h is })
