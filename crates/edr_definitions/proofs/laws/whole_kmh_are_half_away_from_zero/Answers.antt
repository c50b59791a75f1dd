use Rattle.edr_definitions.proofs.RoundLaws.{kmh_of-between, between-kmh_of, kmh_of-mirrored}
use Rattle.edr_definitions.proofs.laws.whole_kmh_are_half_away_from_zero.Goals as goal

pub returns-clause-nearest : goal.returns-clause-nearest
returns-clause-nearest c = λ n k. (kmh_of-between n k, λ h. between-kmh_of n k h.0 h.1)

pub returns-clause-mirrored : goal.returns-clause-mirrored
returns-clause-mirrored c = kmh_of-mirrored
