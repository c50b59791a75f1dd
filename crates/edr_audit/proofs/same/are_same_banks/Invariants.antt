use Rattle.std.proofs.Common.{◌≡◌, take}
use Rattle.edr_audit.proofs.same.are_same_banks.Given as goal

-- the banks so far are the same
abbrev pub invariant-loop-k : goal.invariant-loop-k
invariant-loop-k l = take l.k l.a ≡ take l.k l.b
