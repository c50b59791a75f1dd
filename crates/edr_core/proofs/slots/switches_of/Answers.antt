use Rattle.std.proofs.Common.{arith, None}
use Rattle.edr_definitions.specs.Parts.{switch}
use Rattle.edr_core.proofs.SlotLemmas.{filled-map}
use Rattle.edr_core.proofs.slots.switches_of.Goals as goal

pub returns : goal.returns
returns c = filled-map switch c.args.slots.now c.loop-k.switches None None (omega arith) (λ k lt. c.loop-k.invariant.1 k (omega arith))
