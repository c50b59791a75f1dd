use Rattle.std.proofs.Common.{arith, None, unsigned_abs}
use Rattle.std.specs.Prelude.{option_map}
use Rattle.edr_core.proofs.SlotLemmas.{filled-map, number-at}
use Rattle.edr_core.proofs.slots.per_cents.Goals as goal

pub returns : goal.returns
returns c = filled-map (λ s. option_map unsigned_abs s) c.args.slots.now c.loop-k.per_cents None None (omega arith) (λ k lt. c.loop-k.invariant.1 k (omega arith))

pub per_cent_of-requires : goal.per_cent_of-requires
per_cent_of-requires c = number-at 100 c.args.slots.now c.loop-k.k c.requires (omega arith)
