use Rattle.std.proofs.Common.{◌∙◌, Bool, List, Option, Some, ap, map, refl, ℕ}
use Rattle.std.specs.Prelude.{codes}
use Rattle.edr_record.specs.Parts.{PrePart}
use Rattle.edr_report.specs.Report.{event_lines}
use Rattle.edr_report.specs.Words.{events_in_crash, firing_words, number_or_none, profile_word, shown_count, spaced_words, switch_or_none, time_between}
use Rattle.edr_audit.proofs.EventLineLemmas.{line_more}
use Rattle.edr_audit.proofs.event_lines.with_pre.Goals as goal

pub returns : goal.returns
unfolding event_lines
returns c =
    let r = c.args.report.now in
    let v = c.pre.view_is in
    let t1 = line_more r c.args.text c.with_count-text.result c.args.text (codes "ignition cycle, crash") (shown_count c.pre.inside.key.cycle) _ c.with_count-text.ensures refl (ap (λ (p : PrePart). shown_count p.key.cycle) v) in
    let t2 = line_more r c.with_count-text.result c.with_time-text.result _ (codes "time zero") (firing_words (Some c.pre.inside.key.zero)) _ c.with_time-text.ensures t1 (ap (λ (p : PrePart). firing_words (Some p.key.zero)) v) in
    let t3 = line_more r c.with_time-text.result c.with_word-text.result _ (codes "multi-event, number of events") c.events_in_crash-events.result.now _ c.with_word-text.ensures t2 (c.events_in_crash-events.ensures ∙ ap (λ (p : PrePart). events_in_crash p.place) v) in
    let t4 = line_more r c.with_word-text.result c.with_time_between-text.result _ (codes "time from event 1 to 2") (time_between c.pre.inside.place) _ c.with_time_between-text.ensures t3 (ap (λ (p : PrePart). time_between p.place) v) in
    let t5 = line_more r c.with_time_between-text.result c.with_word-text-2.result _ (codes "deployment event") c.yes_no.result.now _ c.with_word-text-2.ensures t4 (c.yes_no.ensures) in
    let t6 = line_more r c.with_word-text-2.result c.with_word-text-3.result _ (codes "pre-crash profile") c.profile_word-profile.result.now _ c.with_word-text-3.ensures t5 (c.profile_word-profile.ensures ∙ ap profile_word c.profile.ensures) in
    let t7 = line_more r c.with_word-text-3.result c.with_slots-text.result _ (codes "speed, km/h") (spaced_words (map number_or_none c.speed.result.now)) _ c.with_slots-text.ensures t6 (ap (λ (xs : List (Option ℕ)). spaced_words (map number_or_none xs)) c.speed.ensures) in
    let t8 = line_more r c.with_slots-text.result c.with_slots-text-2.result _ (codes "throttle, %") (spaced_words (map number_or_none c.throttle.result.now)) _ c.with_slots-text-2.ensures t7 (ap (λ (xs : List (Option ℕ)). spaced_words (map number_or_none xs)) c.throttle.ensures) in
    let t9 = line_more r c.with_slots-text-2.result c.with_slots-text-3.result _ (codes "service brake") (spaced_words (map switch_or_none c.brake.result.now)) _ c.with_slots-text-3.ensures t8 (ap (λ (xs : List (Option Bool)). spaced_words (map switch_or_none xs)) c.brake.ensures) in
    let t10 = line_more r c.with_slots-text-3.result c.with_word-text-4.result _ (codes "driver belt") c.switch_word.result.now _ c.with_word-text-4.ensures t9 (c.switch_word.ensures ∙ ap (λ (p : PrePart). switch_or_none p.belt) v) in
    line_more r c.with_word-text-4.result c.with_word.result _ (codes "frontal air bag warning lamp") c.switch_word-lamp.result.now _ c.with_word.ensures t10 (c.switch_word-lamp.ensures ∙ ap (λ (p : PrePart). switch_or_none p.lamp) v)
