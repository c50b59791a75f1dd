use Rattle.std.proofs.Common.{◌≡◌, drop}
use Rattle.std.specs.List.{find}
use Rattle.edr_items.specs.SensorLists.{sensors}
use Rattle.edr_merge.specs.Marks.{is_marked_at}
use Rattle.edr_merge.proofs.marks.first_at.Given as goal

-- no sensor so far has this mark
abbrev pub invariant-loop-sensor : goal.invariant-loop-sensor
invariant-loop-sensor l = find (is_marked_at l.marks l.tick) (drop l.sensor-index sensors) ≡ find (is_marked_at l.marks l.tick) sensors
