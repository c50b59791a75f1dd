use Rattle.std.proofs.Common.{◌∙◌, ap, map}
use Rattle.edr_record.specs.declared.Profile.TheVariants.{Short, Long}
use Rattle.edr_image.specs.PartBytes.{numbers_at, switch_from, unless}
use Rattle.edr_codec.proofs.PreLemmas.{slots-read}
use Rattle.edr_codec.proofs.pre.slots_from.Goals as goal

pub returns-in-Short : goal.returns-in-Short
returns-in-Short c =
    let bytes = c.args.bytes.now in
    slots-read c.args.form.now bytes Short c.read_all.result c.read_all-in-Short.result c.read_all-in-Short-2.result c.requires.slots c.in-Short.ensures c.read_all.ensures
    (c.read_all-in-Short.ensures ∙ ap (λ i. map (unless 0xff) (numbers_at bytes i 1 11)) c.throttle_at.ensures)
    (c.read_all-in-Short-2.ensures ∙ ap (λ i. map switch_from (numbers_at bytes i 1 11)) c.brake_at.ensures)

pub returns-in-Long : goal.returns-in-Long
returns-in-Long c =
    let bytes = c.args.bytes.now in
    slots-read c.args.form.now bytes Long c.read_all-in-Long.result c.read_all-in-Long-2.result c.read_all-in-Long-3.result c.requires.slots c.in-Long.ensures c.read_all-in-Long.ensures
    (c.read_all-in-Long-2.ensures ∙ ap (λ i. map (unless 0xff) (numbers_at bytes i 1 201)) c.throttle_at-in-Long.ensures)
    (c.read_all-in-Long-3.ensures ∙ ap (λ i. map switch_from (numbers_at bytes i 1 201)) c.brake_at-in-Long.ensures)
