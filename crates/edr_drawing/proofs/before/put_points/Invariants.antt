use Rattle.std.proofs.Common.{◌≡◌, ◌++◌, drop, false}
use Rattle.edr_drawing.specs.Before.{points}
use Rattle.edr_drawing.proofs.before.put_points.Given as goal

-- what is left gives the rest
abbrev pub invariant-loop-k : goal.invariant-loop-k
invariant-loop-k l = l.out.items ++ points l.profile l.lane l.k l.is_joined (drop l.k l.slots) ≡ l.initial.out.items ++ points l.profile l.lane 0 false l.slots
