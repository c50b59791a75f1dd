use Rattle.edr_definitions.proofs.OrderLaws.{issues-in_order}
use Rattle.edr_definitions.proofs.laws.commands_stand_by_tick.Goals as goal

pub returns : goal.returns
returns c = issues-in_order
