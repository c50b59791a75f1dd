use Rattle.std.proofs.Common.{ℕ, ◌<◌, ◌≤◌}
use Rattle.edr_reading.specs.Reading.{HasNoBank}
use Rattle.edr_reading.proofs.event.free_bank.Given as goal

-- each so far was found
abbrev pub invariant-loop-bank : goal.invariant-loop-bank
invariant-loop-bank l = (b : ℕ) → 1 ≤ b → b < l.bank → HasNoBank l.found b → ⊥
