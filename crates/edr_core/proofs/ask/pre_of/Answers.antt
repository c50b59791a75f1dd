use Rattle.std.proofs.Common.{rules, refl, sym, subst, ◌≡◌, Some, None, Option}
use Rattle.std.specs.Prelude.{IfSome}
use Rattle.edr_items.specs.declared.Sensor.TheVariants.{Speed, Throttle}
use Rattle.edr_items.specs.PerSlowSensor.{slow_at, first_without}
use Rattle.edr_items.proofs.PerSlowSensorLemmas.{speed-slow, throttle-slow}
use Rattle.edr_capture.specs.SensorPart.{SensorPart}
use Rattle.edr_core.specs.Ask.{TakenParts, AllParts, in_places}
use Rattle.edr_core.proofs.ask.pre_of.Goals as goal

-- ---- the first part that is missing
pub returns-in_default-clause-missing : goal.returns-in_default-clause-missing
unfolding first_without
returns-in_default-clause-missing c =
    let speed : c.args.parts.now.speed ≡ None = c.in_default.ensures in
    rw speed refl

pub returns-in_default-get-clause-missing : goal.returns-in_default-get-clause-missing
unfolding first_without
returns-in_default-get-clause-missing c =
    let speed : c.args.parts.now.speed ≡ Some c.in-Some.speed.now = c.in-Some.ensures in
    let throttle : c.args.parts.now.throttle ≡ None = c.in_default-get.ensures in
    rw (speed, throttle) refl

pub returns-in_default-get-2-clause-missing : goal.returns-in_default-get-2-clause-missing
unfolding first_without
returns-in_default-get-2-clause-missing c =
    let speed : c.args.parts.now.speed ≡ Some c.in-Some.speed.now = c.in-Some.ensures in
    let throttle : c.args.parts.now.throttle ≡ Some c.in-Some-get.throttle.now = c.in-Some-get.ensures in
    let brake : c.args.parts.now.brake ≡ None = c.in_default-get-2.ensures in
    rw (speed, throttle, brake) refl

pub returns-in_default-get-3-clause-missing : goal.returns-in_default-get-3-clause-missing
unfolding first_without
returns-in_default-get-3-clause-missing c =
    let speed : c.args.parts.now.speed ≡ Some c.in-Some.speed.now = c.in-Some.ensures in
    let throttle : c.args.parts.now.throttle ≡ Some c.in-Some-get.throttle.now = c.in-Some-get.ensures in
    let brake : c.args.parts.now.brake ≡ Some c.in-Some-get-2.brake.now = c.in-Some-get-2.ensures in
    let belt : c.args.parts.now.belt ≡ None = c.in_default-get-3.ensures in
    rw (speed, throttle, brake, belt) refl

pub returns-in_default-get-4-clause-missing : goal.returns-in_default-get-4-clause-missing
unfolding first_without
returns-in_default-get-4-clause-missing c =
    let speed : c.args.parts.now.speed ≡ Some c.in-Some.speed.now = c.in-Some.ensures in
    let throttle : c.args.parts.now.throttle ≡ Some c.in-Some-get.throttle.now = c.in-Some-get.ensures in
    let brake : c.args.parts.now.brake ≡ Some c.in-Some-get-2.brake.now = c.in-Some-get-2.ensures in
    let belt : c.args.parts.now.belt ≡ Some c.in-Some-get-3.belt.now = c.in-Some-get-3.ensures in
    let lamp : c.args.parts.now.lamp ≡ None = c.in_default-get-4.ensures in
    rw (speed, throttle, brake, belt, lamp) refl

-- ---- all parts
pub speeds_of-requires : goal.speeds_of-requires
speeds_of-requires c =
    let speed : c.args.parts.now.speed ≡ Some c.in-Some.speed.now = c.in-Some.ensures in
    subst (λ (o : Option SensorPart). IfSome o (λ q. q.sensor ≡ Speed)) speed
    (speed-slow (λ s. IfSome (slow_at s c.args.parts.now) (λ (q : SensorPart). q.sensor ≡ s)) c.requires.sensors.each)

pub per_cents_of-requires : goal.per_cents_of-requires
per_cents_of-requires c =
    let throttle : c.args.parts.now.throttle ≡ Some c.in-Some-get.throttle.now = c.in-Some-get.ensures in
    subst (λ (o : Option SensorPart). IfSome o (λ q. q.sensor ≡ Throttle)) throttle
    (throttle-slow (λ s. IfSome (slow_at s c.args.parts.now) (λ (q : SensorPart). q.sensor ≡ s)) c.requires.sensors.each)

places : (ps : TakenParts) (a : AllParts) → ps.speed ≡ Some a.speed → ps.throttle ≡ Some a.throttle → ps.brake ≡ Some a.brake → ps.belt ≡ Some a.belt → ps.lamp ≡ Some a.lamp → ps ≡ in_places a
places ps a speed throttle brake belt lamp = rw (sym speed, sym throttle, sym brake, sym belt, sym lamp) refl

pub returns-clause-made : goal.returns-clause-made
returns-clause-made c =
    let a : AllParts = record { speed = c.in-Some.speed.now; throttle = c.in-Some-get.throttle.now; brake = c.in-Some-get-2.brake.now; belt = c.in-Some-get-3.belt.now; lamp = c.in-Some-get-4.lamp.now } in
    record {
      all = a;
      all_is = places c.args.parts.now a c.in-Some.ensures c.in-Some-get.ensures c.in-Some-get-2.ensures c.in-Some-get-3.ensures c.in-Some-get-4.ensures;
      pre_is = search rules;
    }
