use Rattle.std.proofs.Common.{◌≡◌, ◌+◌, ◌-◌, ◌^◌, ◌<◌}
use Rattle.edr_image.specs.PartBytes.{damage_of_field}
use Rattle.edr_codec.specs.Rows.{ranges_of}
use Rattle.edr_codec.proofs.rows.FieldRow.damaged_byte.Given as goal

abbrev pub invariant-loop-k : goal.invariant-loop-k
invariant-loop-k l =
    (l.begun < 256 ^ l.k)
    × (damage_of_field (ranges_of l.self) l.bytes l.at 0 l.self.size ≡ damage_of_field (ranges_of l.self) l.bytes (l.at + l.k) l.begun (l.self.size - l.k))
