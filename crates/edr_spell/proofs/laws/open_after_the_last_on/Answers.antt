use Rattle.edr_spell.proofs.OpenLemmas.{open-last_on, last_on-open}
use Rattle.edr_spell.proofs.laws.open_after_the_last_on.Goals as goal

pub returns : goal.returns
returns c = λ rows xs. (open-last_on rows xs, last_on-open rows xs)
