use Rattle.std.proofs.Common.{refl}
use Rattle.edr_reading.proofs.SlotLemmas.{no-change}
use Rattle.edr_reading.proofs.event.plain_crash.Goals as goal

pub invariant_of-result : goal.invariant_of-result
invariant_of-result c = no-change c.args.end c.requires.0 c.requires.1 _ refl refl refl refl refl refl refl refl refl

pub returns-clause-bounds : goal.returns-clause-bounds
returns-clause-bounds c = no-change c.args.end c.requires.0 c.requires.1 _ refl refl refl refl refl refl refl refl refl
