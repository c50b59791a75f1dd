-- The samples of one sensor that are past the closed tick.
use Rattle.std.specs.Prelude.{◌≡◌, ℕ, Bool, true, false, ◌&&◌, nat_eq, nat_lt, is_some, if◌then◌else◌, Option, None, ℤ, List, [], ◌∷◌, ◌++◌, filter}
use Rattle.std.specs.Option.{option_map_or}
use Rattle.circular_buffer.specs.Buffer.{keep_last}
use Rattle.edr_items.specs.declared.Item.{Item}
use Rattle.edr_items.specs.declared.Sensor.TheVariants.{Restraint}
use Rattle.edr_items.specs.Sensor.{is_in_range}
use Rattle.edr_merge.specs.declared.samples.TheConstants.{ROOM}

-- the item is a sample past the tick
abbrev pub is_waiting : ℕ → Item → Bool
is_waiting t x = is_some x.value && nat_lt t x.moment

-- the samples of a list that are past the tick
unfoldable pub waiting_samples : ℕ → List Item → List Item
waiting_samples t xs = filter (is_waiting t) xs

-- one more item: the silence of a sensor is not kept
abbrev pub with_sample : Item → List Item → List Item
with_sample x xs = if is_some x.value then keep_last ROOM (xs ++ x ∷ []) else xs

-- the value of the first item, if that is of the tick
abbrev pub first_value : ℕ → List Item → Option ℤ
first_value t [] = None
first_value t (x ∷ xs) = if nat_eq x.moment t then x.value else None

-- the items without the first one, if that is of the tick
abbrev pub past_first : ℕ → List Item → List Item
past_first t [] = []
past_first t (x ∷ xs) = if nat_eq x.moment t then xs else x ∷ xs

-- the first item is of the tick
abbrev pub is_first_of : ℕ → List Item → Bool
is_first_of t [] = false
is_first_of t (x ∷ xs) = nat_eq x.moment t

-- the item has a value, which is a sum of the bits of restraints
abbrev pub IsFiring : Item → Type 0
IsFiring x = option_map_or (is_in_range Restraint) x.value false ≡ true
