use Rattle.edr_codec.proofs.GrammarLaws.{crash_damage-means}
use Rattle.edr_codec.proofs.laws.crash_damage_is_first.Goals as goal

pub returns : goal.returns
returns c = λ form bytes long small k. crash_damage-means form bytes k long small
