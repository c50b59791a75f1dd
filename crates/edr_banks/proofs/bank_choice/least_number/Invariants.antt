use Rattle.std.proofs.Common.{◌≡◌, ◌+◌, drop}
use Rattle.edr_banks.specs.Lesser.{referred_event}
use Rattle.edr_banks.proofs.LeastKeyLemmas.{least_free}
use Rattle.edr_banks.proofs.bank_choice.least_number.Given as goal

-- the least of the banks from the place k on
abbrev pub invariant-loop-k : goal.invariant-loop-k
invariant-loop-k l = referred_event l.least ≡ least_free (l.k + 1) (drop l.k l.banks)
