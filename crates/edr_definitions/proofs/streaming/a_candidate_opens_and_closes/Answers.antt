use Rattle.edr_definitions.proofs.OpenLaws.{is_open-next, zero-open, nothing-searching}
use Rattle.edr_definitions.proofs.streaming.a_candidate_opens_and_closes.Goals as goal

pub returns-clause-open : goal.returns-clause-open
returns-clause-open c = is_open-next

pub returns-clause-one : goal.returns-clause-one
returns-clause-one c = λ m t s h. zero-open m t s h.0 h.1

pub returns-clause-none : goal.returns-clause-none
returns-clause-none c = λ m t s h. nothing-searching m t s h.0 h.1
