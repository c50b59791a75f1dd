use Rattle.edr_definitions.proofs.WholeLaws.{whole-searching}
use Rattle.edr_definitions.proofs.streaming.a_core_between_candidates_keeps_the_last_event.Goals as goal

pub returns : goal.returns
returns c = λ core k p h. whole-searching core.lists core.cycle core.tick core.search core.state k core.crash p h.0 h.1
