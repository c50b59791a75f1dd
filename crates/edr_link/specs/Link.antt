-- What a link stands for: the time zeros that it was given.
use Rattle.std.specs.Prelude.{◌≡◌, ℕ, ◌<◌, Option, List}
use Rattle.std.specs.Option.{ForSome}
use Rattle.edr_record.specs.declared.Place.{Place}
use Rattle.edr_definitions.specs.Commands.{last_placed}

-- the link holds the place and the time zero of the last of these events, if there is one
abbrev pub LinkStandsFor : Option (Place × ℕ) → List ℕ → Type 0
LinkStandsFor link zeros = link ≡ last_placed zeros

-- the time zero z is past that of the last event, if there is one
abbrev pub IsPast : Option (Place × ℕ) → ℕ → Type 0
IsPast link z = ForSome link (λ last. last.1 < z)
