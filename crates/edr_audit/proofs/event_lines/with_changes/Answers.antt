use Rattle.std.proofs.Common.{Bor, ◌∙◌, List, Option, ap, map, refl, sym, ℕ}
use Rattle.std.specs.Prelude.{ℤ, codes}
use Rattle.std.specs.Fmt.{signed_decimal}
use Rattle.std.specs.Option.{option_map_or}
use Rattle.edr_record.specs.Parts.{CrashPart}
use Rattle.edr_record.specs.declared.Extreme.{Extreme}
use Rattle.edr_report.specs.Report.{event_lines}
use Rattle.edr_report.specs.Words.{extreme_words, firing_words, milliseconds, missing_words, none_word, spaced_words}
use Rattle.edr_audit.specs.Tail.{shown_across, shown_along}
use Rattle.edr_audit.proofs.EventLineLemmas.{line_more, or_map}
use Rattle.edr_audit.proofs.event_lines.with_changes.Goals as goal

pub returns : goal.returns
unfolding event_lines
returns c =
    let r = c.args.report.now in
    let crash = c.args.event.now.crash in
    let points : List ℤ → List ℕ = λ xs. spaced_words (map signed_decimal xs) in
    let t1 = line_more r c.args.text c.with_time-text.result c.args.text (codes "end of event") (firing_words c.end_of.result) _ c.with_time-text.ensures refl (ap (λ (t : Option ℕ). firing_words t) c.end_of.ensures ∙ or_map milliseconds (λ (x : CrashPart). x.end) crash none_word) in
    let t2 = line_more r c.with_time-text.result c.with_points-text.result _ (codes "delta-V longitudinal, km/h") (option_map_or (λ (p : Bor (List ℤ)). points p.now) c.points_along-along.result none_word) _ c.with_points-text.ensures t1 (sym (or_map points (λ (p : Bor (List ℤ)). p.now) c.points_along-along.result none_word) ∙ ap (λ (o : Option (List ℤ)). option_map_or points o none_word) c.points_along-along.ensures ∙ or_map points shown_along crash none_word) in
    let t3 = line_more r c.with_points-text.result c.with_points-text-2.result _ (codes "delta-V lateral, km/h") (option_map_or (λ (p : Bor (List ℤ)). points p.now) c.points_across-across.result none_word) _ c.with_points-text-2.ensures t2 (sym (or_map points (λ (p : Bor (List ℤ)). p.now) c.points_across-across.result none_word) ∙ ap (λ (o : Option (List ℤ)). option_map_or points o none_word) c.points_across-across.ensures ∙ or_map points shown_across crash none_word) in
    let t4 = line_more r c.with_points-text-2.result c.with_extreme-text.result _ (codes "maximum delta-V longitudinal") (option_map_or extreme_words c.max_along-along.result none_word) _ c.with_extreme-text.ensures t3 (ap (λ (x : Option Extreme). option_map_or extreme_words x none_word) c.max_along-along.ensures ∙ or_map extreme_words (λ (x : CrashPart). x.max_along) crash none_word) in
    let t5 = line_more r c.with_extreme-text.result c.with_extreme-text-2.result _ (codes "maximum delta-V lateral") (option_map_or extreme_words c.max_across-across.result none_word) _ c.with_extreme-text-2.ensures t4 (ap (λ (x : Option Extreme). option_map_or extreme_words x none_word) c.max_across-across.ensures ∙ or_map extreme_words (λ (x : CrashPart). x.max_across) crash none_word) in
    let t6 = line_more r c.with_extreme-text-2.result c.with_time-text-2.result _ (codes "time of maximum resultant") (firing_words c.result_at-at.result) _ c.with_time-text-2.ensures t5 (ap (λ (t : Option ℕ). firing_words t) c.result_at-at.ensures ∙ or_map milliseconds (λ (x : CrashPart). x.result_at) crash none_word) in
    line_more r c.with_time-text-2.result c.with_missing.result _ (codes "ticks without sample") (option_map_or (λ (m : ℕ × ℕ). missing_words m.0 m.1) c.missing.result none_word) _ c.with_missing.ensures t6 (ap (λ (m : Option (ℕ × ℕ)). option_map_or (λ (m : ℕ × ℕ). missing_words m.0 m.1) m none_word) c.missing.ensures ∙ or_map (λ (m : ℕ × ℕ). missing_words m.0 m.1) (λ (x : CrashPart). (x.missing_along, x.missing_across)) crash none_word)
