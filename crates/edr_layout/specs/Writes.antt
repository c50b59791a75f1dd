-- The writes that data stands for, as the definitions have them.
use Rattle.std.specs.Prelude.{ℕ, List, [], ◌∷◌}
use Rattle.edr_image.specs.Image.{Write, open_gate}
use Rattle.edr_layout.specs.declared.writes.ByteWrite.{ByteWrite}
use Rattle.edr_layout.specs.declared.writes.Gated.{Gated}

-- the one write of a mark
abbrev pub mark_writes : ByteWrite → List Write
mark_writes m = record { at = m.at; bytes = m.byte ∷ [] } ∷ []

-- the piece, and after it its gate
abbrev pub gated_writes : {SIZE : ℕ} → Gated SIZE → List Write
gated_writes g = record { at = g.at; bytes = g.piece } ∷ open_gate g.gate ∷ []
