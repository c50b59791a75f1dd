use Rattle.std.proofs.Common.{◌≤◌}
use Rattle.edr_capture.specs.Kept.{IsCountBetween}
use Rattle.edr_capture.proofs.count_down_to.Given as goal

abbrev pub invariant-loop-high : goal.invariant-loop-high
invariant-loop-high l = IsCountBetween l.ring.items l.fn.at 0 l.high × (l.high ≤ l.fn.most)

abbrev pub decreases-loop-high : goal.decreases-loop-high
decreases-loop-high l = l.high
