use Rattle.std.proofs.Common.{refl, inl, [], ◌∷◌, Some, pos}
use Rattle.edr_trace.proofs.RecordLemmas.{sample-taken}
use Rattle.edr_trace.proofs.plain.take_sample.Goals as goal

pub returns-then-is_taken-clause-taken : goal.returns-then-is_taken-clause-taken
returns-then-is_taken-clause-taken c =
    let rest = c.in-Some.rest.now in
    sample-taken c.args.sensor (record { moment = c.in_ok-moment.moment; value = Some (pos 0) }) c.args.trace.now c.is_taken.new.self c.args.bytes.now c.in_ok-moment.rest.now (10 ∷ rest) rest
    (c.is_taken.ensures.taken c.if-is_taken.true) c.in_ok-moment.ensures c.in-Some.ensures (record { text = 10 ∷ []; is_end = inl refl; parts = refl })

pub returns-then-is_taken-2-clause-taken : goal.returns-then-is_taken-2-clause-taken
returns-then-is_taken-2-clause-taken c =
    let value = c.in_ok-value in
    sample-taken c.args.sensor (record { moment = c.in_ok-moment.moment; value = value.value }) c.args.trace.now c.is_taken-2.new.self c.args.bytes.now c.in_ok-moment.rest.now (value.end ∷ value.rest.now) c.in_ok-rest.rest.now
    (c.is_taken-2.ensures.taken c.if-is_taken-2.true) c.in_ok-moment.ensures value.ensures c.in_ok-rest.ensures
