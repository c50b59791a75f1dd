-- What the sensor rows of a cycle give each sensor.
use Rattle.std.specs.Prelude.{Bool, ◌==◌, List, map, filter}
use Rattle.edr_items.specs.declared.Sensor.{Sensor}
use Rattle.edr_items.specs.declared.Item.{Item}
use Rattle.edr_items.specs.Sensor.{number_of}
use Rattle.edr_items.specs.PerSensor.{values_by}
use Rattle.edr_items.specs.SensorLists.{SensorLists}
use Rattle.edr_spell.specs.declared.Row.{Row}
use Rattle.edr_spell.specs.declared.Row.TheVariants as row

-- what a sensor row says
pub record Sample : Type 0 where
  pub sensor : Sensor
  pub item : Item

-- the row that says it
abbrev pub row_for : Sample → Row
row_for x = row.Sample x.sensor x.item

-- the row is of that sensor
abbrev pub is_of : Sensor → Sample → Bool
is_of s x = number_of x.sensor == number_of s

-- the items of one sensor, in the order of their rows
abbrev pub items_given : Sensor → List Sample → List Item
items_given s xs = map (λ x. x.item) (filter (is_of s) xs)

-- the items of each
unfoldable pub feeds_given : List Sample → SensorLists
feeds_given xs = values_by (λ s. items_given s xs)
