use Rattle.edr_cycle.proofs.KeepingLemmas.{first_steps-keep}
use Rattle.edr_cycle.proofs.laws.first_steps_keep_events.Goals as goal

pub returns : goal.returns
returns c = first_steps-keep
