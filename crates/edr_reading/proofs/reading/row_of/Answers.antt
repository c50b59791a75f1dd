use Rattle.std.proofs.Common.{arith}
use Rattle.csv.specs.Records.{fields_of}
use Rattle.edr_reading.proofs.TableLemmas.{field_at-there, three-fields}
use Rattle.edr_reading.proofs.reading.row_of.Goals as goal

pub returns-in_err-get : goal.returns-in_err-get
returns-in_err-get c = rw c.from_residual.ensures (λ e. field_at-there (fields_of c.args.found.now) 0 (omega (arith, e)) c.in_err-get.ensures.value)

pub returns-in_err-get-2 : goal.returns-in_err-get-2
returns-in_err-get-2 c = rw c.from_residual-in_err-get-2.ensures (λ e. field_at-there (fields_of c.args.found.now) 1 (omega (arith, e)) c.in_err-get-2.ensures.value)

pub returns-in_err-get-3 : goal.returns-in_err-get-3
returns-in_err-get-3 c = rw c.from_residual-in_err-get-3.ensures (λ e. field_at-there (fields_of c.args.found.now) 2 (omega (arith, e)) c.in_err-get-3.ensures.value)

pub returns : goal.returns
returns c = three-fields (fields_of c.args.found.now) _ _ _ (omega (arith, c.len.ensures, c.if-len-ne3.false)) c.in_ok-get.ensures.value c.in_ok-get-2.ensures.value c.in_ok-get-3.ensures.value
