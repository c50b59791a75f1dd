use Rattle.std.specs.Prelude.{ℕ, ◌<◌, ◌≤◌, IsSome, length, get_or}
use Rattle.edr_items.specs.declared.Sensor.{Sensor}
use Rattle.edr_items.specs.Sensor.{slow_sensors}
use Rattle.edr_items.specs.SensorLists.{SensorLists}
use Rattle.edr_core.specs.Parts.{part_in}
use Rattle.edr_core.specs.SplitHistory.{History}
use Rattle.edr_cycle.specs.Remaining.{IsAsked, count_left}
use Rattle.edr_cycle.proofs.remaining.answer.Given as goal

-- the parts of the sensors so far are taken
abbrev pub invariant-loop-sensor : goal.invariant-loop-sensor
invariant-loop-sensor l = record {
  asked : (f : SensorLists) (n : ℕ) (h : History) → IsAsked f n h l.fn.core l.fn.rest l.zero
      → (h' : History) × IsAsked f n h' l.core l.rest l.zero
      × ((k : ℕ) (d : Sensor) → k < l.sensor-index → k < length slow_sensors → IsSome (part_in h'.parts (get_or slow_sensors k d) l.zero));
  fewer : count_left l.rest.left ≤ count_left l.fn.rest.left;
}
