use Rattle.edr_definitions.proofs.EventLaws.{events-follow}
use Rattle.edr_definitions.proofs.laws.events_follow_one_another.Goals as goal

pub returns : goal.returns
returns c = events-follow
