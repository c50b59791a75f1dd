use Rattle.edr_definitions.proofs.CoreLaws.{core-past}
use Rattle.edr_definitions.proofs.streaming.an_event_is_past_the_last_one.Goals as goal

pub returns : goal.returns
returns c = λ core x h. core-past core.lists core.cycle core.tick core.search core.state x.begun x.change h x.told
