use Rattle.edr_report.proofs.printer.Printer.put_cycle.Goals as goal

pub returns-in_ok-write-in-StartStopped : goal.returns-in_ok-write-in-StartStopped
returns-in_ok-write-in-StartStopped g c =
    let name = rw c.clear.ensures.bytes at c.in_ok-write.ensures.bytes in
    let value = rw c.clear-2.ensures.bytes at c.in_ok-write-in-StartStopped.ensures.bytes in
    rw c.in-StartStopped.is (rw (name, value) at c.put_named.ensures)
