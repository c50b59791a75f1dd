use Rattle.std.proofs.Common.{arith, rules, sym, subst, ℕ, List, [], ◌++◌}
use Rattle.edr_trace.specs.declared.reading.Way.TheVariants as way
use Rattle.edr_trace.specs.Told.{TellsRefusal}
use Rattle.edr_trace.specs.Given.{Given, AreReadBut, AreReadBy}
use Rattle.edr_trace.proofs.ReadingLemmas.{by-way, all-taken, front-taken, told-still, rows-taken, bytes-kept, rest-kept, told-after}
use Rattle.edr_trace.proofs.reading.TraceReading.take_front.Goals as goal

pub returns-in-Csv-clause-given : goal.returns-in-Csv-clause-given
returns-in-Csv-clause-given c = λ before h.
    let self = c.args.self.now in
    let bytes = c.args.bytes.now in
    let pieces = c.in-Csv.pieces in
    let kept = bytes-kept before pieces bytes self.trace self.progress (by-way self.way (way.Csv pieces) before self.trace self.progress c.in-Csv.is h.are_read) in
    record { are_read = all-taken before bytes (way.Csv c.push.new.self) self.trace self.progress (rw c.in_ok-push-in-Csv.ensures.ok kept) }

pub returns-in-Refused-clause-given : goal.returns-in-Refused-clause-given
returns-in-Refused-clause-given c = λ before h.
    let self = c.args.self.now in
    let bytes = c.args.bytes.now in
    let e = c.in-Refused.field-0 in
    let told = told-still before bytes e (by-way self.way (way.Refused e) before self.trace self.progress c.in-Refused.is h.are_read) in
    record { are_read = all-taken before bytes self.way self.trace self.progress (by-way (way.Refused e) self.way (before ++ bytes) self.trace self.progress (sym c.in-Refused.is) told) }

pub take_lines-requires : goal.take_lines-requires
take_lines-requires c =
    let self = c.args.self.now in
    let before = c.requires.0 in
    let read : AreReadBut [] before self.trace self.progress = by-way self.way way.Rows before self.trace self.progress c.in-Rows.is c.requires.1.are_read in
    omega (arith, read.0, c.requires.2)

pub returns-in_err-left-clause-refused : goal.returns-in_err-left-clause-refused
returns-in_err-left-clause-refused c =
    let self = c.args.self.now in
    let bytes = c.args.bytes.now in
    let e = c.in_err-left.field-0.0 in
    let told : (before more : List ℕ) → Given before self → TellsRefusal ((before ++ bytes) ++ more) e =
    λ before more h. told-after before bytes self.trace self.progress e (by-way self.way way.Rows before self.trace self.progress c.in-Rows.is h.are_read) c.in_err-left.ensures.refused more in
    search rules

pub returns-then-left-le-LONGEST_ROW-clause-given : goal.returns-then-left-le-LONGEST_ROW-clause-given
returns-then-left-le-LONGEST_ROW-clause-given c = λ before h.
    let self = c.args.self.now in
    let bytes = c.args.bytes.now in
    let left = c.in_ok-left.left.now in
    let taken = c.in_ok-left.ensures.taken in
    let new = c.take_lines.new in
    let read = rows-taken before bytes taken.0 left self.trace new.trace self.progress new.progress (by-way self.way way.Rows before self.trace self.progress c.in-Rows.is h.are_read) taken.1 c.in_ok-left.ensures.count taken.2 in
    let plain = by-way way.Rows self.way (before ++ taken.0) new.trace new.progress (sym c.in-Rows.is) read in
    record { are_read = subst (λ (x : List ℕ). AreReadBy self.way (before ++ x) new.trace new.progress) (sym (front-taken bytes taken.0 left taken.1)) plain }

pub returns-clause-given : goal.returns-clause-given
returns-clause-given c = λ before h.
    let self = c.args.self.now in
    let bytes = c.args.bytes.now in
    let left = c.in_ok-left.left.now in
    let taken = c.in_ok-left.ensures.taken in
    let new = c.take_lines.new in
    let kept = rest-kept before bytes taken.0 left self.trace new.trace self.progress new.progress (by-way self.way way.Rows before self.trace self.progress c.in-Rows.is h.are_read) taken.1 c.in_ok-left.ensures.count taken.2 in
    record { are_read = all-taken before bytes (way.Csv c.push-2.new.self) new.trace new.progress (rw (c.in_ok-push.ensures.ok, c.new-pieces.ensures) kept) }
