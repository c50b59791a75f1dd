use Rattle.std.proofs.Common.{◌≡◌, ◌++◌, ◌+◌, ◌*◌}
use Rattle.edr_drawing.specs.{Scales.{flat_map_below}, Tables.{slot_row}}
use Rattle.edr_drawing.proofs.tables.put_block.Given as goal

abbrev pub invariant-loop-i : goal.invariant-loop-i
invariant-loop-i l = l.out.items ≡ l.initial.out.items ++ flat_map_below (λ i. slot_row l.pre (l.count * l.number + i)) l.i
