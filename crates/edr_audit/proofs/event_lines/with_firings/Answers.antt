use Rattle.std.proofs.Common.{◌∙◌, Option, ap, refl, ℕ}
use Rattle.std.specs.Prelude.{codes}
use Rattle.edr_report.specs.Report.{event_lines}
use Rattle.edr_report.specs.Words.{firing_words}
use Rattle.edr_audit.proofs.EventLineLemmas.{fired_is, line_more}
use Rattle.edr_audit.proofs.event_lines.with_firings.Goals as goal

pub returns : goal.returns
unfolding event_lines
returns c =
    let r = c.args.report.now in
    let event = c.args.event.now in
    let t1 = line_more r c.args.text c.with_time-text.result c.args.text (codes "driver frontal deployment") (firing_words c.first_firing.result) _ c.with_time-text.ensures refl (ap (λ (t : Option ℕ). firing_words t) c.first_firing.ensures ∙ fired_is event 0) in
    let t2 = line_more r c.with_time-text.result c.with_time-text-2.result _ (codes "passenger frontal deployment") (firing_words c.first_firing-2.result) _ c.with_time-text-2.ensures t1 (ap (λ (t : Option ℕ). firing_words t) c.first_firing-2.ensures ∙ fired_is event 1) in
    let t3 = line_more r c.with_time-text-2.result c.with_time-text-3.result _ (codes "driver side deployment") (firing_words c.first_firing-3.result) _ c.with_time-text-3.ensures t2 (ap (λ (t : Option ℕ). firing_words t) c.first_firing-3.ensures ∙ fired_is event 2) in
    let t4 = line_more r c.with_time-text-3.result c.with_time-text-4.result _ (codes "passenger side deployment") (firing_words c.first_firing-4.result) _ c.with_time-text-4.ensures t3 (ap (λ (t : Option ℕ). firing_words t) c.first_firing-4.ensures ∙ fired_is event 3) in
    let t5 = line_more r c.with_time-text-4.result c.with_time-text-5.result _ (codes "driver curtain deployment") (firing_words c.first_firing-5.result) _ c.with_time-text-5.ensures t4 (ap (λ (t : Option ℕ). firing_words t) c.first_firing-5.ensures ∙ fired_is event 4) in
    let t6 = line_more r c.with_time-text-5.result c.with_time-text-6.result _ (codes "passenger curtain deployment") (firing_words c.first_firing-6.result) _ c.with_time-text-6.ensures t5 (ap (λ (t : Option ℕ). firing_words t) c.first_firing-6.ensures ∙ fired_is event 5) in
    let t7 = line_more r c.with_time-text-6.result c.with_time-text-7.result _ (codes "driver pretensioner deployment") (firing_words c.first_firing-7.result) _ c.with_time-text-7.ensures t6 (ap (λ (t : Option ℕ). firing_words t) c.first_firing-7.ensures ∙ fired_is event 6) in
    line_more r c.with_time-text-7.result c.with_time.result _ (codes "passenger pretensioner deployment") (firing_words c.first_firing-8.result) _ c.with_time.ensures t7 (ap (λ (t : Option ℕ). firing_words t) c.first_firing-8.ensures ∙ fired_is event 7)
