use Rattle.std.proofs.Common.{refl}
use Rattle.edr_report.specs.Report.{report_lines}
use Rattle.edr_report.proofs.PrintedLemmas.{takes-more}
use Rattle.edr_report.proofs.printer.print.Goals as goal

pub returns : goal.returns
unfolding report_lines
returns g c =
    let name = rw c.clear.ensures.bytes at c.in_ok-push_str.ensures.bytes in
    let value = rw c.clear-2.ensures.bytes at c.in_ok-put_count.ensures in
    let count = rw (name, value) at c.in_ok-put_named.ensures in
    let events = takes-more g.L.Lines _ _ _ _ _ _ c.in_ok-put_run.ensures c.in_ok-put_events.ensures refl in
    let banks = takes-more g.L.Lines _ _ _ _ _ _ events c.in_ok-put_damaged.ensures refl in
    let all = takes-more g.L.Lines _ _ _ _ _ _ banks count refl in
    rw c.new-printer.ensures at all.bytes
