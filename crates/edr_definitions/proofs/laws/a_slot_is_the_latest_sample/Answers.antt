use Rattle.edr_definitions.proofs.SlotLaws.{slot-is_latest, latest-is_slot, slot-has_none, none-is_slot, slot-before}
use Rattle.edr_definitions.proofs.laws.a_slot_is_the_latest_sample.Goals as goal

pub returns-clause-present : goal.returns-clause-present
returns-clause-present c = λ xs t v rising. (slot-is_latest xs t v rising, latest-is_slot xs t v rising)

pub returns-clause-absent : goal.returns-clause-absent
returns-clause-absent c = λ xs t. (slot-has_none xs t, none-is_slot xs t)

pub returns-clause-before : goal.returns-clause-before
returns-clause-before c = slot-before
