use Rattle.std.proofs.Common.{◌∙◌, ◌+◌, ◌*◌, ℕ, sym, arith}
use Rattle.std.proofs.lemmas.Simd.{map-map}
use Rattle.std.proofs.lemmas.List.FromFn.{fill_by_all}
use Rattle.std.specs.List.{range_with_len}
use Rattle.edr_image.specs.PartBytes.{number_at}
use Rattle.edr_codec.proofs.pieces.read_all.Goals as goal

pub returns : goal.returns
returns g c =
    let number = λ (k : ℕ). number_at c.args.bytes.now (c.args.at + g.P.PartValue.size * k) g.P.PartValue.size in
    let d = c.default-values.result in
    let filled = fill_by_all (λ (k : ℕ). g.P.PartValue.value_of (number k)) c.loop-k.value-items g.row.N d c.loop-k.invariant.0
    (λ k within. c.loop-k.invariant.1 k d (omega arith)) in
    filled ∙ sym (map-map g.P.PartValue.value_of number (range_with_len 0 g.row.N))
