use Rattle.std.proofs.Common.{◌≡◌, ◌++◌}
use Rattle.edr_drawing.specs.Before.{time_lines}
use Rattle.edr_drawing.proofs.before.draw_times.Given as goal

abbrev pub invariant-loop-k : goal.invariant-loop-k
invariant-loop-k l = l.out.items ≡ l.initial.out.items ++ time_lines l.profile l.k
