use Rattle.std.proofs.Common.{map, take}
use Rattle.edr_report.specs.{Printed.Takes, Report.ack_line}
use Rattle.edr_report.proofs.printer.Printer.put_cycle.Given as goal

-- the commands that were passed are told after the cycle's own line
abbrev pub invariant-loop-ack : goal.invariant-loop-ack
invariant-loop-ack g l = Takes g.L.Lines l.initial.self.lines l.self.lines (map (ack_line l.place) (take l.ack-index l.acks))
