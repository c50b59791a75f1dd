use Rattle.edr_definitions.proofs.ScheduleLaws.{items-after_steps, steps-same}
use Rattle.edr_definitions.proofs.laws.arrival_order_is_free.Goals as goal

pub returns-clause-lists : goal.returns-clause-lists
returns-clause-lists c = items-after_steps

pub returns-clause-same : goal.returns-clause-same
returns-clause-same c = steps-same
