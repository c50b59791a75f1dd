use Rattle.std.proofs.Common.{◌∙◌}
use Rattle.std.proofs.lemmas.Bool.{ne_eqb}
use Rattle.edr_items.specs.SensorLists.{sensors}
use Rattle.edr_items.proofs.LevelLemmas.{find-drop}
use Rattle.edr_merge.specs.Marks.{is_marked_at}
use Rattle.edr_merge.proofs.marks.first_at.Goals as goal

pub loop-sensor-preserved : goal.loop-sensor-preserved
loop-sensor-preserved c =
    find-drop (is_marked_at c.args.marks.now c.args.tick) sensors c.loop-sensor.sensor-index _ c.loop-sensor-test.true (ne_eqb _ _ (λ e. c.if-of-tick.false (c.of.ensures ∙ e))) ∙ c.loop-sensor.invariant
