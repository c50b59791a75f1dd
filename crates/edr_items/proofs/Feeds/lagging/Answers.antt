use Rattle.std.proofs.Common.{◌∙◌, sym}
use Rattle.edr_items.specs.SensorLists.{is_behind, sensors}
use Rattle.edr_items.proofs.LevelLemmas.{find-drop}
use Rattle.edr_items.proofs.Feeds.lagging.Goals as goal

pub loop-sensor-preserved : goal.loop-sensor-preserved
loop-sensor-preserved c =
    find-drop (is_behind c.args.self.now) sensors c.loop-sensor.sensor-index _ c.loop-sensor-test.true (sym c.is_behind.ensures ∙ c.if-is_behind.false) ∙ c.loop-sensor.invariant
