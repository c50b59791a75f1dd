use Rattle.std.proofs.Common.{map, take}
use Rattle.edr_report.specs.{Printed.Takes, Report.event_line}
use Rattle.edr_report.proofs.printer.Printer.put_event.Given as goal

abbrev pub invariant-loop-name : goal.invariant-loop-name
invariant-loop-name g l =
    Takes g.L.Lines l.initial.self.lines l.self.lines (map (λ e. event_line l.block l.bank l.event e.0.now e.1) (take l.name-index l.lines))
