use Rattle.std.proofs.Common.{arith, None, unsigned_abs}
use Rattle.std.specs.Prelude.{option_map}
use Rattle.edr_core.proofs.SlotLemmas.{filled-map, number-at}
use Rattle.edr_core.proofs.slots.speeds.Goals as goal

pub returns : goal.returns
returns c = filled-map (λ s. option_map unsigned_abs s) c.args.slots.now c.loop-k.speeds None None (omega arith) (λ k lt. c.loop-k.invariant.1 k (omega arith))

pub speed_of-requires : goal.speed_of-requires
speed_of-requires c = number-at 300 c.args.slots.now c.loop-k.k c.requires (omega arith)
