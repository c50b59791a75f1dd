use Rattle.std.proofs.Common.{◌≡◌, ◌++◌}
use Rattle.edr_drawing.specs.{Scales.{flat_map_below}, Tables.{block}}
use Rattle.edr_drawing.proofs.tables.put_by_time.Given as goal

abbrev pub invariant-loop-part : goal.invariant-loop-part
invariant-loop-part l = l.out.items ≡ l.initial.out.items ++ flat_map_below (block l.pre) l.part
