use Rattle.std.specs.Prelude.{map, take}
use Rattle.edr_items.specs.Sensor.{slow_sensors}
use Rattle.edr_gen.specs.Cycles.{GivesSamples, slow_sample}
use Rattle.edr_gen.proofs.cycles.give_slow.Given as goal

-- the sensors so far have given their samples
abbrev pub invariant-loop-sensor : goal.invariant-loop-sensor
invariant-loop-sensor l = GivesSamples (map (slow_sample l.tick) (take l.sensor-index slow_sensors)) l.fn.feeds l.feeds
