use Rattle.std.proofs.Common.{◌∷◌}
use Rattle.edr_trace.proofs.RecordLemmas.{sample-in}
use Rattle.edr_trace.proofs.fronts.sample_in_front.Goals as goal

pub returns : goal.returns
returns c =
    let value = c.in_ok-value in
    sample-in c.args.sensor c.in_ok-moment.moment value.value c.sample_row.result c.args.bytes.now c.in_ok-moment.rest.now (value.end ∷ value.rest.now) c.in_ok-rest.rest.now
    c.sample_row.ensures.is c.sample_row.ensures.row c.in_ok-moment.ensures value.ensures c.in_ok-rest.ensures
