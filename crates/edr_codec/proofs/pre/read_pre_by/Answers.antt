use Rattle.std.specs.Prelude.{slice_index}
use Rattle.edr_image.specs.PartBytes.{pre_at_by}
use Rattle.edr_codec.proofs.GrammarLaws.{pre_at-in_bounds}
use Rattle.edr_codec.proofs.PreLemmas.{by-record, pre-profile}
use Rattle.edr_codec.proofs.pre.read_pre_by.Goals as goal

pub pre_from-requires-clause-slots : goal.pre_from-requires-clause-slots
pre_from-requires-clause-slots c =
    let within = pre-profile c.args.form.now c.args.bytes.now c.requires.form c.in_ok-check_pre.ensures.whole in
    c.requires.slots (slice_index c.args.bytes.now 9) within.0 within.1

pub pre_from-requires-clause-bounds : goal.pre_from-requires-clause-bounds
pre_from-requires-clause-bounds c =
    let form = c.args.form.now in
    let bytes = c.args.bytes.now in
    by-record form (pre_at_by form bytes 0) c.requires.form c.requires.slots (pre_at-in_bounds form bytes c.requires.form c.in_ok-check_pre.ensures.whole)
