use Rattle.edr_definitions.proofs.ScheduleLaws.{signals-under_way}
use Rattle.edr_definitions.proofs.laws.a_closed_tick_stands.Goals as goal

pub returns : goal.returns
returns c = signals-under_way
