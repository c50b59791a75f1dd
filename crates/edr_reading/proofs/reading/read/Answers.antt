use Rattle.std.proofs.{Common.{◌≡◌, sym, subst, ℕ, List, map, Result, Ok, Err}, lemmas.Result.err_from_is_err_and}
use Rattle.csv.specs.{Reading.{default_config, strip_bom}, Records.fields_of}
use Rattle.csv.specs.declared.parser.State.TheVariants as st
use Rattle.edr_spell.proofs.CsvLemmas.{same_records}
use Rattle.edr_spell.specs.Spell.{RecordsOf}
use Rattle.std.specs.Result.{IfErr}
use Rattle.edr_image.specs.{declared.Found.Found, Reports.Report}
use Rattle.edr_reading.specs.{Reading.{IsReading, report_rows, FieldRows}, Reader.IsRowRefusal}
use Rattle.edr_reading.specs.declared.reading.{Reading.Reading, ReportRefused.{ReportRefused, TheVariants.OutOfMemory}}
use Rattle.edr_reading.proofs.FaultLemmas.{end-fault, end-read, memory-alone, or-ok}
use Rattle.edr_reading.proofs.reading.read.Goals as goal

refused-of : (bytes : List ℕ) (records : FieldRows) (res : Result Reading ReportRefused) → RecordsOf bytes records → IfErr res (IsRowRefusal records) → IfErr res (λ e. (reports : List Report) (found : List Found) (n : ℕ) → IsReading reports found n → RecordsOf bytes (report_rows reports found n) → e ≡ OutOfMemory)
refused-of bytes records (Ok r) read h = tt
refused-of bytes records (Err e) read h = λ reports found n is are. memory-alone records (Err e) h (reports, found, n, is, same_records default_config st.StartRecord (strip_bom bytes) records (report_rows reports found n) read are)

pub returns-in_err-reader-clause-refused : goal.returns-in_err-reader-clause-refused
returns-in_err-reader-clause-refused c =
    let records = map fields_of c.deref.result.now in
    let read = subst (λ (x : List _). RecordsOf c.args.bytes.now (map fields_of x)) (sym c.deref.ensures.value) (rw (or-ok _ _ _ c.in_ok-records.ensures) at c.records.ensures) in
    let p = err_from_is_err_and c.from_residual-in_err-reader.result c.from_residual-in_err-reader.ensures.1 in
    rw (p.1, p.2) (refused-of c.args.bytes.now records (Err c.in_err-reader.field-0.0) read c.in_err-reader.ensures.fault)

pub returns-in_default : goal.returns-in_default
returns-in_default c =
    let records = map fields_of c.deref.result.now in
    let read = subst (λ (x : List _). RecordsOf c.args.bytes.now (map fields_of x)) (sym c.deref.ensures.value) (rw (or-ok _ _ _ c.in_ok-records.ensures) at c.records.ensures) in
    let fault = end-fault c.in_ok-reader.reader records c.in_ok-reader.ensures.read c.in_default.not-Nothing in
    record { read = tt; told = tt; count = tt; refused = refused-of c.args.bytes.now records (Err _) read fault; fault = (records, read, fault) }

pub returns-clause-read : goal.returns-clause-read
returns-clause-read c =
    let records = map fields_of c.deref.result.now in
    let read = subst (λ (x : List _). RecordsOf c.args.bytes.now (map fields_of x)) (sym c.deref.ensures.value) (rw (or-ok _ _ _ c.in_ok-records.ensures) at c.records.ensures) in
    let end = rw (or-ok _ _ _ c.in_ok-or.ensures) at c.end_cycle.ensures in
    subst (RecordsOf c.args.bytes.now) (end-read c.in_ok-reader.reader records c.in-Nothing.count _ _ c.in_ok-reader.ensures.read c.in-Nothing.is end.run end.found).0 read

pub returns-clause-told : goal.returns-clause-told
returns-clause-told c =
    let records = map fields_of c.deref.result.now in
    let end = rw (or-ok _ _ _ c.in_ok-or.ensures) at c.end_cycle.ensures in
    (end-read c.in_ok-reader.reader records c.in-Nothing.count _ _ c.in_ok-reader.ensures.read c.in-Nothing.is end.run end.found).1
