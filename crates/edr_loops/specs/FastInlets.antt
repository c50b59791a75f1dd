-- What a contract sees of what was taken of the fast sensors.
use Rattle.std.specs.Prelude.{◌≡◌, ◌⊎◌, ℕ, [], ◌∷◌, ◌++◌}
use Rattle.edr_items.specs.declared.Item.{Item}
use Rattle.edr_items.specs.Item.{IsFeed, mark_of}
use Rattle.edr_items.specs.SensorLists.{SensorLists, items_of}
use Rattle.edr_loops.specs.declared.per_fast_sensor.FastSensor.{FastSensor}
use Rattle.edr_loops.specs.declared.per_fast_sensor.FastSensor.TheVariants.{Along, Across}
use Rattle.edr_loops.specs.declared.per_fast_sensor.PerFastSensor.{PerFastSensor}
use Rattle.edr_loops.specs.PerFastSensor.{EachFast, fast_at, map_fast_values, sensor_of, with_fast_value}
use Rattle.edr_loops.specs.BufferedInlets.{IsNext, IsNotNext}
use Rattle.edr_loops.specs.Lanes.{FastInlets, FastItems}

-- the lists with that item at the end of its sensor's
abbrev pub with_fast : FastSensor → Item → FastItems → FastItems
with_fast k x l = with_fast_value k (fast_at k l ++ x ∷ []) l

-- those with that item at the end of either axis's
abbrev pub with_both : Item → FastItems → FastItems
with_both x l = with_fast Across x (with_fast Along x l)

-- the item comes next of either axis
abbrev pub AreNext : Item → FastInlets → Type 0
AreNext x i = IsNext x i.along × IsNext x i.across

-- it is not known to come next of one of them
abbrev pub AreNotNext : Item → FastInlets → Type 0
AreNotNext x i = IsNotNext x i.along ⊎ IsNotNext x i.across

-- each list is one that its sensor may give
abbrev pub AreFastFeeds : FastItems → Type 0
AreFastFeeds l = EachFast (λ k. IsFeed (sensor_of k) (fast_at k l))

-- of these sensors the lists of all sensors have these items
abbrev pub HaveFast : FastItems → SensorLists → Type 0
HaveFast l f = EachFast (λ k. items_of (sensor_of k) f ≡ fast_at k l)

-- the last moment of each list
abbrev pub fast_marks_of : FastItems → PerFastSensor ℕ
fast_marks_of l = map_fast_values mark_of l
