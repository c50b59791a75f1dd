use Rattle.std.proofs.Common.{arith, subst, ◌≡◌, ◌+◌, ◌<◌, ℕ, inl, inr, length, get_or, slice_index_or}
use Rattle.std.specs.Prelude.{IsSome}
use Rattle.std.proofs.lemmas.Bool.{cases_lt}
use Rattle.std.proofs.lemmas.List.{get_or_default}
use Rattle.edr_items.specs.declared.Sensor.{Sensor}
use Rattle.edr_items.specs.declared.Sensor.TheVariants.{Along}
use Rattle.edr_items.specs.Sensor.{slow_sensors, IsSlow}
use Rattle.edr_items.proofs.PerSlowSensorLemmas.{slow-listed, listed-slow}
use Rattle.edr_core.specs.Parts.{part_in}
use Rattle.edr_core.specs.SplitHistory.{History}
use Rattle.edr_cycle.proofs.AnswerLemmas.{all-taken}
use Rattle.edr_cycle.proofs.remaining.answer.Goals as goal

abbrev sensor : ℕ → Sensor
sensor k = slice_index_or slow_sensors k Along

pub loop-sensor-init : goal.loop-sensor-init
loop-sensor-init c = record {
  asked = λ f n h asked. (h, asked, λ k d before inside. absurd (omega arith));
  fewer = omega arith;
}

pub put-requires-clause-slow : goal.put-requires-clause-slow
put-requires-clause-slow c = slow-listed IsSlow (λ s slow. slow) c.loop-sensor.sensor-index Along c.loop-sensor-test.true

pub put-requires-clause-asked : goal.put-requires-clause-asked
put-requires-clause-asked c = let r = c.requires in let a = c.loop-sensor.invariant.asked r.0 r.1 r.2 r.3 in (r.0, r.1, a.0, a.1)

-- with the part of the next sensor those so far are taken
more : (i z : ℕ) (h h' : History) → i < length slow_sensors → IsSome (part_in h'.parts (sensor i) z)
    → ((s : Sensor) → IsSome (part_in h.parts s z) → IsSome (part_in h'.parts s z))
    → ((k : ℕ) (d : Sensor) → k < i → k < length slow_sensors → IsSome (part_in h.parts (get_or slow_sensors k d) z))
    → (k : ℕ) (d : Sensor) → k < i + 1 → k < length slow_sensors → IsSome (part_in h'.parts (get_or slow_sensors k d) z)
more i z h h' lt taken others so_far k d before inside = elim (cases_lt k i) [
  | inl early ↦ others (get_or slow_sensors k d) (so_far k d early inside)
  | inr late ↦
      let same : i ≡ k = omega (arith, late, before) in
      subst (λ (s : Sensor). IsSome (part_in h'.parts s z)) (get_or_default slow_sensors k Along d inside) (subst (λ (j : ℕ). IsSome (part_in h'.parts (sensor j) z)) same taken)
]

pub loop-sensor-preserved : goal.loop-sensor-preserved
loop-sensor-preserved c = record {
  asked = λ f n h asked.
      let a = c.loop-sensor.invariant.asked f n h asked in
      let b = c.put.ensures.taken f n a.0 a.1 in
      (b.0, b.1, more c.loop-sensor.sensor-index c.args.zero a.0 b.0 c.loop-sensor-test.true b.2.taken b.2.others a.2);
  fewer = let was = c.loop-sensor.invariant.fewer in let fewer = c.put.ensures.fewer in omega (arith, was, fewer);
}

pub returns-clause-answered : goal.returns-clause-answered
returns-clause-answered c = λ f n h asked.
    let a = c.loop-sensor.invariant.asked f n h asked in
    (a.0, a.1, all-taken c.args.zero a.0 a.1.zero_is (listed-slow (λ s. IsSome (part_in a.0.parts s c.args.zero)) (λ k d inside. a.2 k d (omega arith) inside)))
