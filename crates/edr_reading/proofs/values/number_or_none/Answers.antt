use Rattle.std.proofs.Common.{rules, arith}
use Rattle.edr_reading.proofs.SlotLemmas.{none-slot}
use Rattle.edr_reading.proofs.values.number_or_none.Goals as goal

pub returns-in-Some : goal.returns-in-Some
returns-in-Some c = record { read = search rules; whole = λ x more h ends is. none-slot c.args.bytes.now c.in-Some.rest.now more c.args.highest x (omega (arith, c.ranges.highest.fits)) h c.in-Some.ensures.read is }
