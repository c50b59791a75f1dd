use Rattle.std.proofs.Common.{◌∙◌, ap, refl, ℕ}
use Rattle.std.specs.Prelude.{codes, decimal}
use Rattle.edr_report.specs.Words.{yes_no}
use Rattle.edr_audit.proofs.EventLineLemmas.{event_told, line_more}
use Rattle.edr_audit.proofs.event_lines.with_event.Goals as goal

pub returns : goal.returns
returns c =
    let r = c.args.report.now in
    event_told r c.args.block c.args.bank c.args.event.now c.args.text c.with_number-text.result c.with_number-text-2.result c.with_pre-text.result c.with_changes-text.result c.with_firings-text.result c.with_word.result
    c.with_number-text.ensures
    (line_more r c.with_number-text.result c.with_number-text-2.result c.with_number-text.result (codes "bank") (decimal c.from.result) _ c.with_number-text-2.ensures refl (ap (λ (n : ℕ). decimal n) c.from.ensures))
    c.with_pre-text.ensures c.with_changes-text.ensures c.with_firings-text.ensures
    (line_more r c.with_firings-text.result c.with_word.result c.with_firings-text.result (codes "complete file recorded") c.yes_no-complete.result.now _ c.with_word.ensures refl (c.yes_no-complete.ensures ∙ ap yes_no c.is_complete.ensures))
