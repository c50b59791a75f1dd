use Rattle.std.proofs.Common.{arith, sym, subst, ◌<◌, ℕ, suc, List, length, drop, slice_index_or, add-one}
use Rattle.std.proofs.Math.Seq.{drop-cons}
use Rattle.std.proofs.lemmas.List.{drop_all}
use Rattle.edr_items.specs.declared.Sensor.{Sensor}
use Rattle.edr_items.specs.declared.Sensor.TheVariants.{Along}
use Rattle.edr_items.specs.Sensor.{slow_sensors, IsSlow}
use Rattle.edr_items.specs.SensorLists.{items_of}
use Rattle.edr_items.proofs.PerSlowSensorLemmas.{slow-listed}
use Rattle.edr_capture.specs.SensorPart.{part}
use Rattle.edr_core.proofs.OwnLemmas.{Takes, part-taken, AreToTake, all-to-take, next-taken, none-to-take, kept-range, kept-near, kept-stands}
use Rattle.edr_core.proofs.captures.Captures.give_parts.Goals as goal

abbrev sensor : ℕ → Sensor
sensor k = slice_index_or slow_sensors k Along

is-slow : (k : ℕ) → k < length slow_sensors → IsSlow (sensor k)
is-slow k lt = slow-listed IsSlow (λ s slow. slow) k Along lt

pub loop-sensor-init : goal.loop-sensor-init
loop-sensor-init c = λ w h. all-to-take c.args.split.now c.args.self.now w c.args.zero h

pub part-requires-clause-range : goal.part-requires-clause-range
part-requires-clause-range c =
    let k = c.loop-sensor.sensor-index in
    kept-range c.args.split.now c.args.self.now c.requires.0 c.args.zero c.requires.1 (sensor k) (is-slow k c.loop-sensor-test.true)

pub part-requires-clause-near : goal.part-requires-clause-near
part-requires-clause-near c =
    let k = c.loop-sensor.sensor-index in
    kept-near c.args.split.now c.args.self.now c.requires.0 c.args.zero c.requires.1 (sensor k) (is-slow k c.loop-sensor-test.true)

pub loop-sensor-preserved : goal.loop-sensor-preserved
loop-sensor-preserved c = λ w h.
    let k = c.loop-sensor.sensor-index in
    let s = sensor k in
    let given = items_of s w.past.given in
    let before = c.loop-sensor.split in
    let after = c.part-in-loop-sensor.new.self in
    let stands = kept-stands c.args.split.now c.args.self.now w c.args.zero h s (is-slow k c.loop-sensor-test.true) in
    let takes = part-taken c.part-in-loop-sensor.result before after c.part.result (part s given c.args.zero) (c.part.ensures.definition given stands) c.part-in-loop-sensor.ensures.ok c.part-in-loop-sensor.ensures.allowed in
    let left = subst (AreToTake before w) (drop-cons slow_sensors k Along c.loop-sensor-test.true) (c.loop-sensor.invariant w h) in
    subst (λ (j : ℕ). AreToTake after w (drop j slow_sensors)) (sym (add-one k))
    (next-taken before after w s (drop (suc k) slow_sensors) h.asking (subst (λ (z : ℕ). Takes before after (part s given z)) h.zero_is takes) left)

pub returns : goal.returns
returns c = λ w h.
    let k = c.loop-sensor.sensor-index in
    none-to-take c.loop-sensor.split w (subst (λ (ss : List Sensor). AreToTake c.loop-sensor.split w ss) (drop_all k slow_sensors (omega arith)) (c.loop-sensor.invariant w h))
