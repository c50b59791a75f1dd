-- How many items feeds have.
use Rattle.std.specs.Prelude.{ℕ, ◌*◌, length}
use Rattle.edr_items.specs.PerSensor.{total_of}
use Rattle.edr_items.specs.SensorLists.{SensorLists, sensors}
use Rattle.edr_gen.specs.declared.plan.TheConstants.{TICKS}

-- of all sensors
abbrev pub items_in : SensorLists → ℕ
items_in f = total_of length f

-- a generated cycle has no more: one of each sensor in each of its ticks
abbrev pub most_items : ℕ
most_items = length sensors * TICKS
