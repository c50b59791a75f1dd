use Rattle.std.proofs.Common.{◌≡◌, ◌+◌, ◌*◌, ◌++◌, length, take}
use Rattle.std.specs.List.{flat_map}
use Rattle.edr_codec.proofs.pieces.put_all.Given as goal

abbrev pub invariant-loop-k : goal.invariant-loop-k
invariant-loop-k g l =
    (length l.out ≡ length l.initial.out)
    × (take (l.at + g.P.PartValue.size * l.k) l.out ≡ take l.at l.initial.out ++ flat_map g.P.PartValue.bytes_of (take l.k l.values))
