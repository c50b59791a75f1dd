use Rattle.std.proofs.Common.{◌∙◌, sym}
use Rattle.edr_image.specs.PartBytes.{field}
use Rattle.edr_codec.specs.Rows.{ranges_of}
use Rattle.edr_codec.proofs.FieldLemmas.{row-goes_on, is_some-false}
use Rattle.edr_codec.proofs.rows.FieldRow.damage_of_row.Goals as goal

pub loop-k-preserved : goal.loop-k-preserved
loop-k-preserved c =
    let none = is_some-false c.damage_of_field-damage.result (sym c.is_some.ensures ∙ c.if-is_some.false) in
    c.loop-k.invariant
    ∙ row-goes_on c.args.bytes.now c.args.at c.args.self.now.count c.loop-k.k (field c.args.self.now.size (ranges_of c.args.self.now)) c.loop-k-test.true (sym c.damage_of_field-damage.ensures.value ∙ none)
