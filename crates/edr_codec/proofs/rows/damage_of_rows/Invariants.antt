use Rattle.std.proofs.Common.{◌≡◌, ◌+◌, drop}
use Rattle.std.specs.List.{flat_map, sum_by}
use Rattle.edr_image.specs.PartBytes.{damage_of_fields}
use Rattle.edr_codec.specs.Rows.{fields_of, row_size}
use Rattle.edr_codec.proofs.rows.damage_of_rows.Given as goal

abbrev pub invariant-loop-row : goal.invariant-loop-row
invariant-loop-row l =
    (l.at + sum_by row_size (drop l.row-index l.rows) ≡ sum_by row_size l.rows)
    × (damage_of_fields l.bytes 0 (flat_map fields_of l.rows) ≡ damage_of_fields l.bytes l.at (flat_map fields_of (drop l.row-index l.rows)))
