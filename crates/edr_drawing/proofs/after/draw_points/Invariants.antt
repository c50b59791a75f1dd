use Rattle.std.proofs.Common.{◌≡◌, ◌++◌, drop}
use Rattle.edr_drawing.specs.After.{axis_shapes}
use Rattle.edr_drawing.proofs.after.draw_points.Given as goal

-- what is left gives the rest
abbrev pub invariant-loop-i : goal.invariant-loop-i
invariant-loop-i l =
    l.out.items ++ axis_shapes l.scale l.mark l.i (drop l.i l.points) ≡ l.initial.out.items ++ axis_shapes l.scale l.mark 0 l.points
