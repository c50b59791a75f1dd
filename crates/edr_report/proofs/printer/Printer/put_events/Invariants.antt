use Rattle.std.proofs.Common.{◌≡◌, ◌≤◌, take, length}
use Rattle.edr_report.specs.{Printed.Takes, Report.{events_lines, found_records}}
use Rattle.edr_report.proofs.printer.Printer.put_events.Given as goal

abbrev pub invariant-loop-bank : goal.invariant-loop-bank
invariant-loop-bank g l =
    (Takes g.L.Lines l.initial.self.lines l.self.lines (events_lines 1 (found_records (take l.bank-index l.found))))
    × (l.block ≡ length (found_records (take l.bank-index l.found)))
    × (l.block ≤ l.bank-index)
