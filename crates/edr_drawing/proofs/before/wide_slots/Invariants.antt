use Rattle.std.proofs.Common.{◌≡◌, length, take}
use Rattle.edr_record.specs.declared.TheConstants.{LONG_SLOTS}
use Rattle.edr_drawing.proofs.before.wide_slots.Given as goal

-- the slots that were passed are the same
abbrev pub invariant-loop-k : goal.invariant-loop-k
invariant-loop-k l = (take l.k l.wider ≡ take l.k l.slots) × (length l.wider ≡ LONG_SLOTS)
