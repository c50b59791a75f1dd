use Rattle.std.proofs.Common.{rules, ◌≡◌, Ok, Err, inl, inr}
use Rattle.edr_items.specs.declared.Sensor.TheVariants.{Speed, Throttle, Brake, Belt, Lamp}
use Rattle.edr_items.specs.Sensor.{slow_sensors}
use Rattle.edr_items.specs.PerSlowSensor.{FailsFirst}
use Rattle.edr_items.proofs.per_slow_sensor.PerSlowSensor.try_from_fn.Goals as goal

pub returns-in_err-f-4-clause-error : goal.returns-in_err-f-4-clause-error
returns-in_err-f-4-clause-error g c =
    let speed : goal.F-post g c.args.f Speed (Ok c.in_ok-f.field-0) = search rules in
    let throttle : goal.F-post g c.args.f Throttle (Ok c.in_ok-f-2.field-0) = search rules in
    let brake : goal.F-post g c.args.f Brake (Ok c.in_ok-f-3.field-0) = search rules in
    let belt : goal.F-post g c.args.f Belt (Err c.in_err-f-4.field-0.0) = search rules in
    let fails : FailsFirst (goal.F-post g c.args.f) c.in_err-f-4.field-0.0 slow_sensors =
    inr (c.in_ok-f.field-0, speed, inr (c.in_ok-f-2.field-0, throttle, inr (c.in_ok-f-3.field-0, brake, inl belt))) in
    let same : c.from_residual-in_err-f-4.result ≡ Err c.in_err-f-4.field-0.0 = search rules in
    rw same fails

pub returns-in_err-f-5-clause-error : goal.returns-in_err-f-5-clause-error
returns-in_err-f-5-clause-error g c =
    let speed : goal.F-post g c.args.f Speed (Ok c.in_ok-f.field-0) = search rules in
    let throttle : goal.F-post g c.args.f Throttle (Ok c.in_ok-f-2.field-0) = search rules in
    let brake : goal.F-post g c.args.f Brake (Ok c.in_ok-f-3.field-0) = search rules in
    let belt : goal.F-post g c.args.f Belt (Ok c.in_ok-f-4.field-0) = search rules in
    let lamp : goal.F-post g c.args.f Lamp (Err c.in_err-f-5.field-0.0) = search rules in
    let fails : FailsFirst (goal.F-post g c.args.f) c.in_err-f-5.field-0.0 slow_sensors =
    inr (c.in_ok-f.field-0, speed, inr (c.in_ok-f-2.field-0, throttle, inr (c.in_ok-f-3.field-0, brake, inr (c.in_ok-f-4.field-0, belt, inl lamp)))) in
    let same : c.from_residual-in_err-f-5.result ≡ Err c.in_err-f-5.field-0.0 = search rules in
    rw same fails
