use Rattle.edr_definitions.proofs.SearchLaws.{StandsFor-start}
use Rattle.edr_definitions.proofs.laws.a_search_begins_with_the_cycle.Goals as goal

pub returns : goal.returns
returns c = StandsFor-start
