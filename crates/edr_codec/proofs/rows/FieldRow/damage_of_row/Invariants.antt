use Rattle.std.proofs.Common.{◌≡◌, ◌+◌, ◌-◌, ◌*◌, replicate}
use Rattle.edr_image.specs.PartBytes.{damage_of_fields, field}
use Rattle.edr_codec.specs.Rows.{ranges_of, fields_of}
use Rattle.edr_codec.proofs.rows.FieldRow.damage_of_row.Given as goal

abbrev pub invariant-loop-k : goal.invariant-loop-k
invariant-loop-k l = damage_of_fields l.bytes l.at (fields_of l.self) ≡ damage_of_fields l.bytes (l.at + l.self.size * l.k) (replicate (l.self.count - l.k) (field l.self.size (ranges_of l.self)))
