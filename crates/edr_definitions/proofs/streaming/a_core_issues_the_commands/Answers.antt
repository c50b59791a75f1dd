use Rattle.edr_definitions.proofs.WholeLaws.{whole-stands, whole-issues}
use Rattle.edr_definitions.proofs.streaming.a_core_issues_the_commands.Goals as goal

pub returns-clause-stands : goal.returns-clause-stands
returns-clause-stands c = λ core x h within. whole-stands core.lists core.cycle core.tick core.search core.state core.crash x.begun x.change h x.told within

pub returns-clause-issues : goal.returns-clause-issues
returns-clause-issues c = λ core x h. whole-issues core.lists core.cycle core.tick core.search core.state core.crash x.begun x.change h x.told
