use Rattle.std.proofs.Common.{◌≡◌, ◌≤◌, max, drop}
use Rattle.edr_drawing.specs.Scales.{furthest}
use Rattle.edr_drawing.proofs.scales.furthest.Given as goal

-- what is left gives the rest
abbrev pub invariant-loop-point : goal.invariant-loop-point
invariant-loop-point l = (max l.most (furthest l.way (drop l.point-index l.points)) ≡ furthest l.way l.points) × (l.most ≤ 32_768)
