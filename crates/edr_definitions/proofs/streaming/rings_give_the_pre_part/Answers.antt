use Rattle.edr_definitions.proofs.FreezeLaws.{pre_part-frozen}
use Rattle.edr_definitions.proofs.streaming.rings_give_the_pre_part.Goals as goal

pub returns : goal.returns
returns c = λ room z f h n place. pre_part-frozen room f n z place h.enough h.feeds h.near
