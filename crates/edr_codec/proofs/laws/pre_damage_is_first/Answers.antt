use Rattle.edr_codec.proofs.GrammarLaws.{pre_damage-means}
use Rattle.edr_codec.proofs.laws.pre_damage_is_first.Goals as goal

pub returns : goal.returns
returns c = λ form is bytes long small k. pre_damage-means form is bytes k long small
