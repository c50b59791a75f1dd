use Rattle.std.proofs.Common.{◌≡◌, ℕ, ◌+◌, ◌*◌, ◌<◌, get_or, length}
use Rattle.edr_image.specs.PartBytes.{number_at}
use Rattle.edr_codec.proofs.pieces.read_all.Given as goal

abbrev pub invariant-loop-k : goal.invariant-loop-k
invariant-loop-k g l =
    (length l.value-items ≡ g.row.N)
    × ((i : ℕ) (d : g.row.P.Denot) → i < l.k → get_or l.value-items i d ≡ g.P.PartValue.value_of (number_at l.bytes (l.at + g.P.PartValue.size * i) g.P.PartValue.size))
