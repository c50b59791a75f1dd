-- Items that a sensor may give one after the other.
use Rattle.std.specs.Prelude.{◌≡◌, ℕ, None, List, [], ◌∷◌}
use Rattle.edr_items.specs.declared.Item.{Item}
use Rattle.edr_items.specs.declared.Sensor.{Sensor}
use Rattle.edr_items.specs.Item.{refusal_of}

-- each item is one that the sensor may give after the one before it, the first after that moment
abbrev pub AreAccepted : Sensor → ℕ → List Item → Type 0
AreAccepted s last [] = Unit {0}
AreAccepted s last (x ∷ xs) = (refusal_of s last x ≡ None) × AreAccepted s x.moment xs
