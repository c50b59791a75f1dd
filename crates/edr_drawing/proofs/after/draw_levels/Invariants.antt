use Rattle.std.proofs.Common.{◌≡◌, ◌++◌, ◌*◌}
use Rattle.edr_drawing.specs.{Scales.flat_map_below, After.level}
use Rattle.edr_drawing.proofs.after.draw_levels.Given as goal

abbrev pub invariant-loop-i : goal.invariant-loop-i
invariant-loop-i l = l.out.items ≡ l.initial.out.items ++ flat_map_below (λ i. level l.scale (l.scale.step * i)) l.i
