use Rattle.edr_definitions.proofs.KeepLaws.{commands-start}
use Rattle.edr_definitions.proofs.WholeLaws.{whole-start}
use Rattle.edr_definitions.proofs.streaming.a_core_begins_with_the_cycle.Goals as goal

pub returns-clause-stands : goal.returns-clause-stands
returns-clause-stands c = λ core. whole-start core.lists core.cycle core.state core.crash

pub returns-clause-none_yet : goal.returns-clause-none_yet
returns-clause-none_yet c = commands-start
