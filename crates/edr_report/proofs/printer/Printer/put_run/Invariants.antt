use Rattle.std.proofs.Common.{map, take}
use Rattle.edr_image.specs.Reports.{report_of}
use Rattle.edr_report.specs.{Printed.Takes, Report.run_lines}
use Rattle.edr_report.proofs.printer.Printer.put_run.Given as goal

abbrev pub invariant-loop-i : goal.invariant-loop-i
invariant-loop-i g l = Takes g.L.Lines l.initial.self.lines l.self.lines (run_lines 1 (map report_of (take l.i l.run)))
