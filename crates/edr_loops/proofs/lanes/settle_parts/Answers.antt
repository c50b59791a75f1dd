use Rattle.std.proofs.Common.{refl}
use Rattle.edr_items.specs.declared.Sensor.TheVariants.{Belt, Brake, Lamp, Speed, Throttle}
use Rattle.edr_items.proofs.PerSlowSensorLemmas.{each-slow}
use Rattle.edr_loops.proofs.lanes.settle_parts.Goals as goal

pub settle_part-requires : goal.settle_part-requires
settle_part-requires c = c.requires Speed refl

pub settle_part-requires-2 : goal.settle_part-requires-2
settle_part-requires-2 c = c.requires Throttle refl

pub settle_part-requires-3 : goal.settle_part-requires-3
settle_part-requires-3 c = c.requires Brake refl

pub settle_part-requires-4 : goal.settle_part-requires-4
settle_part-requires-4 c = c.requires Belt refl

pub settle_part-requires-5 : goal.settle_part-requires-5
settle_part-requires-5 c = c.requires Lamp refl

pub returns-clause-parts : goal.returns-clause-parts
returns-clause-parts c = λ f kept.
    each-slow _
    (c.settle_part.ensures.parts f.speed (kept Speed refl))
    (c.settle_part-2.ensures.parts f.throttle (kept Throttle refl))
    (c.settle_part-3.ensures.parts f.brake (kept Brake refl))
    (c.settle_part-4.ensures.parts f.belt (kept Belt refl))
    (c.settle_part-5.ensures.parts f.lamp (kept Lamp refl))
