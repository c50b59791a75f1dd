use Rattle.std.proofs.Common.{rules, arith, ap, Some}
use Rattle.edr_reading.proofs.ValueLemmas.{none-fires}
use Rattle.edr_reading.proofs.values.firing.Goals as goal

pub returns-then-is_word : goal.returns-then-is_word
returns-then-is_word c = record { read = search rules; whole = λ t h is. ap Some (none-fires c.args.bytes.now c.args.latest t (omega (arith, c.ranges.latest.fits)) h c.if-is_word.ensures is) }
