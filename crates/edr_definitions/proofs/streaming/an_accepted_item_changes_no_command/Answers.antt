use Rattle.edr_definitions.proofs.WholeLaws.{whole-accept, commands-accept, issues-accept}
use Rattle.edr_definitions.proofs.streaming.an_accepted_item_changes_no_command.Goals as goal

pub returns-clause-stands : goal.returns-clause-stands
returns-clause-stands c = λ core. whole-accept core.lists core.cycle core.tick core.search core.state core.crash

pub returns-clause-same : goal.returns-clause-same
returns-clause-same c = commands-accept

pub returns-clause-ticks : goal.returns-clause-ticks
returns-clause-ticks c = issues-accept
