use Rattle.std.proofs.Common.{append_assoc}
use Rattle.edr_cli.proofs.fault.push_old_refused.Goals as goal

pub returns-in-Bank-clause-bytes : goal.returns-in-Bank-clause-bytes
returns-in-Bank-clause-bytes c =
    let first = rw c.from.ensures at c.push_number.ensures.bytes in
    let second = rw (c.from-in-Bank.ensures, first) at c.push_number-in-Bank.ensures.bytes in
    let third = rw (c.from-in-Bank-2.ensures, second) at c.push_number-in-Bank-2.ensures.bytes in
    rw c.in-Bank.is (simp append_assoc (simp append_assoc at third))
