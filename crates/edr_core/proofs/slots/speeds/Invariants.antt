use Rattle.std.proofs.Common.{◌≡◌, ℕ, ◌<◌, None, length, get_or, unsigned_abs}
use Rattle.std.specs.Prelude.{option_map}
use Rattle.edr_record.specs.declared.TheConstants.{LONG_SLOTS}
use Rattle.edr_core.proofs.slots.speeds.Given as goal

abbrev pub invariant-loop-k : goal.invariant-loop-k
invariant-loop-k l = (length l.speeds ≡ LONG_SLOTS) × ((k : ℕ) → k < l.k → get_or l.speeds k None ≡ option_map unsigned_abs (get_or l.fn.slots k None))
