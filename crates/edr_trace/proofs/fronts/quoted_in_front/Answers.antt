use Rattle.edr_trace.proofs.RecordLemmas.{field-quoted}
use Rattle.edr_trace.proofs.fronts.quoted_in_front.Goals as goal

pub returns : goal.returns
returns c =
    field-quoted c.in_ok-field.field.now c.args.bytes.now c.in_ok-inside.inside.now c.in_ok-field.rest.now c.in_ok-rest.rest.now
    c.in_ok-field.ensures.plain c.in_ok-inside.ensures c.in_ok-field.ensures.parts c.in_ok-rest.ensures
