use Rattle.edr_definitions.proofs.ToldLaws.{tick_change-whole}
use Rattle.edr_definitions.proofs.laws.each_tick_is_told_as_it_comes.Goals as goal

pub returns : goal.returns
returns c = tick_change-whole
