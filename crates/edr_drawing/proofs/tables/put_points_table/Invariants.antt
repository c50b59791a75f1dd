use Rattle.std.proofs.Common.{◌≡◌, ◌++◌}
use Rattle.edr_drawing.specs.Tables.{time_cells}
use Rattle.edr_drawing.proofs.tables.put_points_table.Given as goal

abbrev pub invariant-loop-i : goal.invariant-loop-i
invariant-loop-i l = l.out.items ≡ l.initial.out.items ++ time_cells l.i
