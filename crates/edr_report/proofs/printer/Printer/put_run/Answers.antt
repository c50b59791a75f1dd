use Rattle.std.proofs.Common.{arith, ◌≡◌, ◌∷◌, [], ◌++◌, ◌∙◌, sym, ap, ℕ, ◌+◌, map, take, length}
use Rattle.std.proofs.lemmas.List.{map_more, length-map, length-take}
use Rattle.edr_image.specs.Reports.{report_of}
use Rattle.edr_report.specs.Report.{cycle_lines, run_lines}
use Rattle.edr_report.proofs.PrintedLemmas.{takes-more, numbered-more}
use Rattle.edr_report.proofs.printer.Printer.put_run.Goals as goal

pub loop-i-preserved : goal.loop-i-preserved
loop-i-preserved g c =
    let at = c.loop-i in
    let report = report_of c.index-run-i.result in
    let done = map report_of (take at.i c.args.run.now) in
    let place : 1 + length done ≡ at.i + 1 = omega (arith, length-map (take at.i c.args.run.now) report_of, length-take at.i c.args.run.now) in
    let further : map report_of (take (at.i + 1) c.args.run.now) ≡ done ++ report ∷ [] =
    map_more report_of c.args.run.now at.i c.index-run-i.result c.loop-i-test.true ∙ ap (λ x. done ++ report_of x ∷ []) (sym c.index-run-i.is) in
    let more = ap (run_lines 1) further ∙ numbered-more (λ r. cycle_lines r.0 r.1) 1 done report ∙ ap (λ (k : ℕ). run_lines 1 done ++ cycle_lines k report) place in
    takes-more g.L.Lines _ _ _ _ _ _ at.invariant c.in_ok-put_cycle.ensures more
