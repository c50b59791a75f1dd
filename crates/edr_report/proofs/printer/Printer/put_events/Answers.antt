use Rattle.std.proofs.Common.{arith, ◌≡◌, ◌∙◌, ap, ℕ, ◌+◌, List, ◌++◌, length, take, length-append}
use Rattle.edr_record.specs.declared.Record.{Record}
use Rattle.edr_report.specs.Report.{found_records, event_lines, events_lines}
use Rattle.edr_report.proofs.{PrintedLemmas.{takes-more, numbered-more}, FoundLemmas.{records-event, records-other}}
use Rattle.edr_report.proofs.printer.Printer.put_events.Goals as goal
use Rattle.edr_report.proofs.printer.Printer.put_events.Goals.{in-Event+in_ok-put_event, in_default}

pub loop-bank-preserved : goal.loop-bank-preserved
loop-bank-preserved g c =
    let at = c.loop-bank in
    let found = c.args.found.now in
    let bank = c.bank-item.result in
    let done : List (ℕ × Record) = found_records (take at.bank-index found) in
    elim c.match-bank.branch [
      | in-Event+in_ok-put_event w ↦
          let r = w.in-Event.record in
          let next = records-event found at.bank-index bank r c.loop-bank-test.true c.bank-item.is w.in-Event.is in
          let place : 1 + length done ≡ at.block + 1 = omega arith in
          let more =
          ap (events_lines 1) next
          ∙ numbered-more (λ e. event_lines e.0 e.1.0 e.1.1) 1 done (bank.bank, r)
          ∙ ap (λ (k : ℕ). events_lines 1 done ++ event_lines k bank.bank r) place in
          let count : at.block + 1 ≡ length (found_records (take (at.bank-index + 1) found)) =
          omega (arith, simp length-append at (ap length next)) in
          rw (w.self-is, w.block-is) (takes-more g.L.Lines _ _ _ _ _ _ at.invariant.0 w.in_ok-put_event.ensures more, count, omega arith)
      | in_default w ↦
          let next = records-other found at.bank-index bank c.loop-bank-test.true c.bank-item.is w.in_default.not-Event in
          rw (w.self-is, w.block-is, next) (at.invariant.0, at.invariant.1, omega arith)
    ]
