use Rattle.edr_definitions.proofs.RingLaws.{slot-captured}
use Rattle.edr_definitions.proofs.growth.a_ring_gives_the_slots.Goals as goal

pub returns : goal.returns
returns c = λ n t xs h. slot-captured n t xs h.rises h.near
