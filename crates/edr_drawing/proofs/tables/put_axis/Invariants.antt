use Rattle.std.proofs.Common.{◌≡◌, ◌++◌, flat_map, take}
use Rattle.edr_drawing.specs.Tables.{change_cell}
use Rattle.edr_drawing.proofs.tables.put_axis.Given as goal

abbrev pub invariant-loop-point : goal.invariant-loop-point
invariant-loop-point l = l.out.items ≡ l.initial.out.items ++ flat_map change_cell (take l.point-index l.points)
