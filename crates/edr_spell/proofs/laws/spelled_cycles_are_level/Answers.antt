use Rattle.edr_spell.proofs.CycleLemmas.{spelled-cycles}
use Rattle.edr_spell.proofs.laws.spelled_cycles_are_level.Goals as goal

pub returns : goal.returns
returns c = spelled-cycles
