-- What a ring keeps of a sensor's items.
use Rattle.std.specs.Prelude.{ℕ, ◌-◌, ◌<◌, is_some, List, [], ◌∷◌, length, drop, filter}
use Rattle.edr_items.specs.declared.Item.{Item}

-- each moment is past the one before it, the first past `last`
abbrev pub RisesFrom : ℕ → List Item → Type 0
RisesFrom last [] = Unit {0}
RisesFrom last (x ∷ xs) = (last < x.moment) × RisesFrom x.moment xs

-- the items that have a value
abbrev pub samples : List Item → List Item
samples xs = filter (λ x. is_some x.value) xs

-- the last n of a list, as a ring of n keeps them
abbrev pub newest : ℕ → List Item → List Item
newest n xs = drop (length xs - n) xs
