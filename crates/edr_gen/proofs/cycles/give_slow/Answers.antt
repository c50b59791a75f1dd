use Rattle.std.proofs.Common.{arith, ◌∙◌, ◌++◌, ◌∷◌, [], ap, refl, sym, map, take, slice_index_or, Option, ℤ}
use Rattle.std.proofs.lemmas.List.{take_all, append-nil}
use Rattle.edr_items.specs.declared.Sensor.TheVariants.{Along}
use Rattle.edr_items.specs.Sensor.{slow_sensors}
use Rattle.edr_spell.specs.Samples.{feeds_given}
use Rattle.edr_gen.specs.Cycles.{sample, slow_sample}
use Rattle.edr_gen.proofs.SampleLemmas.{samples-next}
use Rattle.edr_gen.proofs.cycles.give_slow.Goals as goal

pub loop-sensor-init : goal.loop-sensor-init
loop-sensor-init c = λ xs e. e ∙ ap feeds_given (sym (append-nil xs))

pub loop-sensor-preserved : goal.loop-sensor-preserved
loop-sensor-preserved c = λ xs e.
    let k = c.loop-sensor.sensor-index in
    let s = slice_index_or slow_sensors k Along in
    let ys = xs ++ map (slow_sample c.args.tick) (take k slow_sensors) in
    c.in_ok-give.ensures ys (c.loop-sensor.invariant xs e)
    ∙ ap feeds_given (ap (λ (v : Option ℤ). ys ++ sample s c.args.tick v ∷ []) c.slow_said.ensures ∙ samples-next (slow_sample c.args.tick) slow_sensors k Along xs c.loop-sensor-test.true)

pub returns-after-loop-sensor : goal.returns-after-loop-sensor
returns-after-loop-sensor c = λ xs e.
    c.loop-sensor.invariant xs e
    ∙ ap feeds_given (ap (λ ss. xs ++ map (slow_sample c.args.tick) ss) (take_all c.loop-sensor.sensor-index slow_sensors (omega arith)) ∙ rw c.if-tick-eq0.true refl)
