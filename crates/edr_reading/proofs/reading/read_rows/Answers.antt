use Rattle.std.proofs.Common.{◌∙◌, sym, ap, subst, ℕ, List, map, take, length, min}
use Rattle.csv.specs.Records.{fields_of}
use Rattle.edr_reading.specs.{Reader.IsRefused, Reading.fields}
use Rattle.edr_reading.specs.declared.reader.Refused.TheVariants as refused
use Rattle.edr_reading.proofs.FaultLemmas.{field-fault, length-fault, read-more, record-at}
use Rattle.edr_reading.proofs.reading.read_rows.Goals as goal

pub returns-in-Err-Field-clause-fault : goal.returns-in-Err-Field-clause-fault
returns-in-Err-Field-clause-fault c =
    let records = map fields_of c.args.records.now in
    let i = c.loop-record.record-index in
    let at = record-at fields_of c.args.records.now i c.record-item.result c.loop-record-test.true c.record-item.is in
    rw c.in-Err-Field.field-is (field-fault c.loop-record.reader records i c.in-Err-Field.field at.0 c.loop-record.invariant
    (subst (λ (r : List (List ℕ)). IsRefused (take i records) r (refused.Field c.in-Err-Field.field)) (c.in-Some.ensures ∙ sym at.1) (rw c.in-Err-Field.field-0-is at (c.in-Err-Field.ensures (take i records) c.loop-record.invariant))))

pub returns-in_default-clause-fault : goal.returns-in_default-clause-fault
returns-in_default-clause-fault c =
    let records = map fields_of c.args.records.now in
    let i = c.loop-record.record-index in
    let at = record-at fields_of c.args.records.now i c.record-item.result c.loop-record-test.true c.record-item.is in
    length-fault c.loop-record.reader records i _ at.0 c.loop-record.invariant (c.min.ensures ∙ ap (λ (k : ℕ). min k 4_294_967_295) (c.len.ensures ∙ ap length (sym at.1))) (λ e. c.in_default.ensures (sym (ap length at.1) ∙ e))

pub loop-record-preserved : goal.loop-record-preserved
loop-record-preserved c =
    let records = map fields_of c.args.records.now in
    let i = c.loop-record.record-index in
    let at = record-at fields_of c.args.records.now i c.record-item.result c.loop-record-test.true c.record-item.is in
    read-more c.take.new.self records i (fields c.in-Some.fields) at.0 (c.in-Some.ensures ∙ sym at.1) (c.in-Ok.ensures (take i records) c.loop-record.invariant)
