use Rattle.edr_definitions.proofs.StandingLaws.{StandsFor-chain}
use Rattle.edr_definitions.proofs.laws.a_search_tells_the_chain.Goals as goal

pub returns : goal.returns
returns c = StandsFor-chain
