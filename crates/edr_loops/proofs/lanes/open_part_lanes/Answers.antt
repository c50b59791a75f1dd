use Rattle.std.proofs.Common.{refl}
use Rattle.edr_items.specs.declared.Sensor.TheVariants.{Belt, Brake, Lamp, Speed, Throttle}
use Rattle.edr_items.proofs.PerSlowSensorLemmas.{each-slow}
use Rattle.edr_loops.proofs.lanes.open_part_lanes.Goals as goal

pub returns : goal.returns
returns c = each-slow _ c.in_ok-driving.ensures.first c.in_ok-driving.ensures.second c.in_ok-holding.ensures.first c.in_ok-holding.ensures.second c.in_ok-lamp.ensures

pub open_two-requires-clause-first : goal.open_two-requires-clause-first
open_two-requires-clause-first c = c.requires Speed refl

pub open_two-requires-clause-second : goal.open_two-requires-clause-second
open_two-requires-clause-second c = c.requires Throttle refl

pub open_two-requires-2-clause-first : goal.open_two-requires-2-clause-first
open_two-requires-2-clause-first c = c.requires Brake refl

pub open_two-requires-2-clause-second : goal.open_two-requires-2-clause-second
open_two-requires-2-clause-second c = c.requires Belt refl

pub open_slow_lane-requires-clause-keeper : goal.open_slow_lane-requires-clause-keeper
open_slow_lane-requires-clause-keeper c = c.requires Lamp refl
