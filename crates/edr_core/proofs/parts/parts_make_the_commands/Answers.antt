use Rattle.edr_core.proofs.PartsLaws.{commands-with, issues-with}
use Rattle.edr_core.proofs.parts.parts_make_the_commands.Goals as goal

pub returns-clause-commands : goal.returns-clause-commands
returns-clause-commands c = λ f g n t h. commands-with f g n h t

pub returns-clause-ticks : goal.returns-clause-ticks
returns-clause-ticks c = λ f g n t h. issues-with f g n h t
