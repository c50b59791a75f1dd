use Rattle.edr_trace.specs.Fronts.{IsRowTaken}
use Rattle.edr_trace.proofs.ReadLemmas.{row-leads, row-counted, passed-leads, row-told}
use Rattle.edr_trace.proofs.take_one.Goals as goal

pub returns-in-Ok-Some-clause-taken : goal.returns-in-Ok-Some-clause-taken
returns-in-Ok-Some-clause-taken c =
    let t : IsRowTaken c.args.trace.now c.take_next.new.trace c.args.bytes.now c.in-Ok-Some.after.now = (rw c.in-Ok-Some.field-0-is at c.in-Ok-Some.ensures.taken) in
    row-leads c.args.bytes.now c.in-Ok-Some.after.now c.args.trace.now c.take_next.new.trace c.args.progress.now t

pub returns-in-Ok-Some-clause-count : goal.returns-in-Ok-Some-clause-count
returns-in-Ok-Some-clause-count c =
    let t : IsRowTaken c.args.trace.now c.take_next.new.trace c.args.bytes.now c.in-Ok-Some.after.now = (rw c.in-Ok-Some.field-0-is at c.in-Ok-Some.ensures.taken) in
    row-counted c.args.bytes.now c.in-Ok-Some.after.now c.args.trace.now c.take_next.new.trace c.args.progress.now t

pub returns-in-Err-clause-refused : goal.returns-in-Err-clause-refused
returns-in-Err-clause-refused c =
    row-told c.args.bytes.now c.args.trace.now c.args.progress.now c.in-Err.refused c.at_row.result c.in-Err.ensures.refused c.at_row.ensures

pub returns-in-Some-clause-taken : goal.returns-in-Some-clause-taken
returns-in-Some-clause-taken c =
    passed-leads c.args.bytes.now c.in-Some.after.now c.args.trace.now c.take_next.new.trace c.args.progress.now (c.in-Ok-None.ensures.none c.in-Ok-None.field-0-is) c.in-Some.ensures
