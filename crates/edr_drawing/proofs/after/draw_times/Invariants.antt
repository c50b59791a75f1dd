use Rattle.std.proofs.Common.{◌≡◌, ◌++◌, ◌+◌, ◌*◌}
use Rattle.edr_drawing.specs.{declared.after.TheConstants.TIMES_APART, Scales.flat_map_below, After.time_line}
use Rattle.edr_drawing.proofs.after.draw_times.Given as goal

abbrev pub invariant-loop-i : goal.invariant-loop-i
invariant-loop-i l =
    l.out.items ≡ l.initial.out.items ++ flat_map_below (λ i. time_line l.scale (TIMES_APART * (i + 1))) l.i
