use Rattle.std.proofs.Common.{◌≡◌, drop}
use Rattle.std.specs.List.{find}
use Rattle.edr_items.specs.PerSlowSensor.{slow_value_of}
use Rattle.edr_items.specs.SensorLists.{sensors}
use Rattle.edr_loops.specs.Workers.{is_a_sender}
use Rattle.edr_loops.proofs.worker.SlowSenders.is_empty.Given as goal

-- no sensor so far has a sender
abbrev pub invariant-loop-sensor : goal.invariant-loop-sensor
invariant-loop-sensor l = find (λ s. is_a_sender (slow_value_of s l.self.each)) (drop l.sensor-index sensors) ≡ find (λ s. is_a_sender (slow_value_of s l.self.each)) sensors
