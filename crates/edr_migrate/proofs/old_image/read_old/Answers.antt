-- What its front and its banks say, the image says.
use Rattle.std.proofs.Common.{◌≡◌, Some, arith, refl}
use Rattle.std.proofs.lemmas.Result.{err_from_is_err_and}
use Rattle.edr_image.specs.declared.forms.TheConstants.{VERSION_1}
use Rattle.edr_image.specs.Image.{old_refusal}
use Rattle.edr_banks.proofs.HeaderByteLemmas.{header_within}
use Rattle.edr_migrate.proofs.OldReadingLemmas.{front_of, read_is, refused_by_bank, refused_by_front, refused_by_size, refused_short}
use Rattle.edr_migrate.proofs.old_image.read_old.Goals as goal

pub returns-then-size-clause-refused : goal.returns-then-size-clause-refused
returns-then-size-clause-refused c = refused_short c.args.old.now (omega (arith, c.if-size.true))

pub returns-in-Err-clause-refused : goal.returns-in-Err-clause-refused
returns-in-Err-clause-refused c =
    let old = c.args.old.now in
    let first = c.copy_from_slice.new.self in
    refused_by_front old first c.in-Err.refused (front_of first old c.copy_from_slice.ensures.after) (omega (arith, c.if-size.false)) c.in-Err.ensures.refused

pub returns-then-size-needed-clause-refused : goal.returns-then-size-needed-clause-refused
returns-then-size-needed-clause-refused c =
    let old = c.args.old.now in
    let first = c.copy_from_slice.new.self in
    refused_by_size old first c.in-Ok.header c.old_image_size-needed.result (front_of first old c.copy_from_slice.ensures.after) (omega (arith, c.if-size.false)) c.in-Ok.ensures.read c.in-Ok.ensures.accepted c.old_image_size-needed.ensures (omega (arith, c.if-size-needed.true))

pub count_events-requires-clause-to : goal.count_events-requires-clause-to
count_events-requires-clause-to c = (header_within VERSION_1 c.copy_from_slice.new.self c.in-Ok.header c.in-Ok.ensures.accepted c.in-Ok.ensures.read).1

pub returns-in_err-events-clause-refused : goal.returns-in_err-events-clause-refused
returns-in_err-events-clause-refused c =
    let old = c.args.old.now in
    let first = c.copy_from_slice.new.self in
    let p = err_from_is_err_and c.from_residual.result c.from_residual.ensures.1 in
    let refused : old_refusal old ≡ Some c.in_err-events.field-0.0 =
    refused_by_bank old first c.in-Ok.header c.in_err-events.field-0.0 (front_of first old c.copy_from_slice.ensures.after) (omega (arith, c.if-size.false)) c.in-Ok.ensures.read c.in-Ok.ensures.accepted (omega (arith, c.if-size-needed.false, c.old_image_size-needed.ensures)) c.in_err-events.ensures.refused in
    rw (p.1, p.2) refused

pub returns-clause-read : goal.returns-clause-read
returns-clause-read c =
    let old = c.args.old.now in
    let first = c.copy_from_slice.new.self in (
      refl,
      read_is old first c.in-Ok.header c.read_count.result (front_of first old c.copy_from_slice.ensures.after) (omega (arith, c.if-size.false)) c.in-Ok.ensures.read c.in-Ok.ensures.accepted c.read_count.ensures (omega arith) (omega (arith, c.if-size-needed.false, c.old_image_size-needed.ensures)) c.in_ok-events.ensures.passed,
      c.in_ok-events.ensures.events,
    )
