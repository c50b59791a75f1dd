use Rattle.std.proofs.Common.{◌≡◌, ◌+◌, drop}
use Rattle.edr_items.specs.SensorLists.{sensors}
use Rattle.edr_large.specs.Rows.{items_in}
use Rattle.edr_large.proofs.RowLemmas.{items_among}
use Rattle.edr_large.proofs.rows.rows_of.Given as goal

-- with the items of the other sensors these are all
abbrev pub invariant-loop-sensor : goal.invariant-loop-sensor
invariant-loop-sensor l = l.rows + items_among l.feeds (drop l.sensor-index sensors) ≡ items_in l.feeds + 2
