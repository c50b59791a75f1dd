-- What a pre part has of one slow sensor.
use Rattle.std.specs.Prelude.{◌≡◌, ◌-◌, ℕ, ℤ, true, Option, None, IfSome, List, ◌∷◌, length, replicate, drop, All}
use Rattle.edr_record.specs.declared.TheConstants.{LONG_SLOTS, SINGLE_REACH}
use Rattle.edr_items.specs.declared.Sensor.{Sensor}
use Rattle.edr_items.specs.declared.Sensor.TheVariants.{Belt, Lamp}
use Rattle.edr_items.specs.declared.Item.{Item}
use Rattle.edr_items.specs.Sensor.{is_in_range, IsSlow}
use Rattle.edr_items.specs.Item.{has_value_in_range}
use Rattle.edr_definitions.specs.Parts.{slot, slots_before}

-- the sensor may give the value of this item
abbrev pub IsOfSensor : Sensor → Item → Type 0
IsOfSensor s x = has_value_in_range s x ≡ true

-- a part as contracts see it
pub record SensorPart : Type 0 where
  pub sensor : Sensor
  pub zero : ℕ
  pub slots : List (Option ℤ)

-- the slots of the time zero z of a sensor with these items: of belt and lamp that of 1 s before it alone (563.7 Table I)
abbrev pub part_slots : Sensor → List Item → ℕ → List (Option ℤ)
part_slots Belt xs z = slot xs (z - SINGLE_REACH) ∷ replicate (LONG_SLOTS - 1) None
part_slots Lamp xs z = slot xs (z - SINGLE_REACH) ∷ replicate (LONG_SLOTS - 1) None
part_slots s xs z = slots_before xs z

-- the part of the time zero z
abbrev pub part : Sensor → List Item → ℕ → SensorPart
part s xs z = record { sensor = s; zero = z; slots = part_slots s xs z }

-- where a sensor gives one slot there is no other
abbrev pub HasItsSlots : Sensor → List (Option ℤ) → Type 0
HasItsSlots Belt slots = drop 1 slots ≡ replicate (LONG_SLOTS - 1) None
HasItsSlots Lamp slots = drop 1 slots ≡ replicate (LONG_SLOTS - 1) None
HasItsSlots s slots = Unit {0}

-- the bounds of a part
pub record IsPart (p : SensorPart) : Type 0 where
  pub slow : IsSlow p.sensor
  pub long : length p.slots ≡ LONG_SLOTS
  pub range : All (λ o. IfSome o (λ v. is_in_range p.sensor v ≡ true)) p.slots
  pub its : HasItsSlots p.sensor p.slots
