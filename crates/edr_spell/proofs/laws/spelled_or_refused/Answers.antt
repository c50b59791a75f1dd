use Rattle.edr_spell.proofs.LawLemmas.{spell-or_fault, spell-not_fault, spell-one, fault-one}
use Rattle.edr_spell.proofs.laws.spelled_or_refused.Goals as goal

pub returns : goal.returns
returns c = record { either = spell-or_fault; apart = spell-not_fault; one_spelled = spell-one; one_fault = fault-one }
