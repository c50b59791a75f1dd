use Rattle.std.proofs.Common.{◌≡◌, drop}
use Rattle.std.specs.List.{find}
use Rattle.edr_items.specs.SensorLists.{is_behind, sensors}
use Rattle.edr_items.proofs.Feeds.lagging.Given as goal

-- no sensor so far is behind
abbrev pub invariant-loop-sensor : goal.invariant-loop-sensor
invariant-loop-sensor l = find (is_behind l.self) (drop l.sensor-index sensors) ≡ find (is_behind l.self) sensors
