use Rattle.std.proofs.Common.{◌∙◌, map, subst}
use Rattle.std.proofs.lemmas.List.{take_all}
use Rattle.edr_report.specs.{Printed.Takes, Report.{event_line, event_lines}}
use Rattle.edr_report.proofs.printer.Printer.put_event.Goals as goal

pub returns : goal.returns
unfolding event_lines
returns g c =
    let all = take_all c.loop-name.name-index c.as_slice-lines.result.now c.loop-name-test.false ∙ c.as_slice-lines.ensures in
    subst (λ ls. Takes g.L.Lines c.args.self.now.lines c.loop-name.self.lines (map (λ l. event_line c.args.block c.args.bank c.args.event.now l.0.now l.1) ls)) all c.loop-name.invariant
