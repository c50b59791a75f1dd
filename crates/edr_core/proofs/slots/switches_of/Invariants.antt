use Rattle.std.proofs.Common.{◌≡◌, ℕ, ◌<◌, None, length, get_or}
use Rattle.edr_definitions.specs.Parts.{switch}
use Rattle.edr_record.specs.declared.TheConstants.{LONG_SLOTS}
use Rattle.edr_core.proofs.slots.switches_of.Given as goal

abbrev pub invariant-loop-k : goal.invariant-loop-k
invariant-loop-k l = (length l.switches ≡ LONG_SLOTS) × ((k : ℕ) → k < l.k → get_or l.switches k None ≡ switch (get_or l.fn.slots k None))
