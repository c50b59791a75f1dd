use Rattle.std.proofs.Common.{arith, ap, List, length}
use Rattle.edr_items.specs.declared.Sensor.TheVariants.{Along}
use Rattle.edr_items.specs.declared.Item.{Item}
use Rattle.edr_large.proofs.RowLemmas.{items_all, items_first, items_none}
use Rattle.edr_large.proofs.rows.rows_of.Goals as goal

pub loop-sensor-init : goal.loop-sensor-init
loop-sensor-init c = let all = items_all c.args.feeds.now in omega (arith, all)

pub loop-sensor-preserved : goal.loop-sensor-preserved
loop-sensor-preserved c =
    let first = items_first c.args.feeds.now c.loop-sensor.sensor-index Along c.loop-sensor-test.true in
    let here = ap (λ (xs : List Item). length xs) c.of.ensures.items in
    let before = c.loop-sensor.invariant in
    omega (arith, first, here, before)

pub returns : goal.returns
returns c = let none = items_none c.args.feeds.now c.loop-sensor.sensor-index (omega arith) in omega (arith, none)
