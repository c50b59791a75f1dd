use Rattle.std.proofs.Common.{take}
use Rattle.edr_report.specs.{Printed.Takes, Report.damage_lines}
use Rattle.edr_report.proofs.printer.Printer.put_damaged.Given as goal

abbrev pub invariant-loop-bank : goal.invariant-loop-bank
invariant-loop-bank g l = Takes g.L.Lines l.initial.self.lines l.self.lines (damage_lines (take l.bank-index l.found))
