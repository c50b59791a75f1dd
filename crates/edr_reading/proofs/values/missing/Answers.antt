use Rattle.std.proofs.Common.{arith}
use Rattle.edr_reading.proofs.ValueLemmas.{missing-read}
use Rattle.edr_reading.proofs.values.missing.Goals as goal

pub returns : goal.returns
returns c = missing-read c.args.bytes.now c.from-high.result c.args.window c.two_within.result (omega (arith, c.from-high.ensures)) c.two_within.ensures
