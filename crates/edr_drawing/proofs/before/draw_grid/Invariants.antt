use Rattle.std.proofs.Common.{◌≡◌, ◌++◌, ◌*◌}
use Rattle.edr_drawing.specs.{Scales.flat_map_below, Before.grid_line}
use Rattle.edr_drawing.proofs.before.draw_grid.Given as goal

abbrev pub invariant-loop-i : goal.invariant-loop-i
invariant-loop-i l = l.out.items ≡ l.initial.out.items ++ flat_map_below (λ i. grid_line l.lane (l.lane.step * i)) l.i
