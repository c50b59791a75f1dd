use Rattle.std.proofs.Common.{take}
use Rattle.edr_audit.specs.Judged.{FoundSoFar}
use Rattle.edr_audit.proofs.judge.judge.Given as goal

-- what was found among the branches so far
abbrev pub invariant-loop-k : goal.invariant-loop-k
invariant-loop-k l = FoundSoFar l.report l.to (take l.k l.branches) l.first
