-- Places of a list of time zeros that grows at its end.
use Rattle.std.proofs.Common.{refl, ap, ◌≡◌, ℕ, Some, None, Option, List, [], ◌∷◌, ◌++◌}
use Rattle.edr_record.specs.declared.Place.{Place}
use Rattle.edr_definitions.specs.Commands.{place_of, places, places_from, last_from, last_placed}

-- the later ones go on from the last of the earlier
pub places_from-append : (s : Option (Place × ℕ)) (xs ys : List ℕ) → places_from s (xs ++ ys) ≡ places_from s xs ++ places_from (last_from s xs) ys
places_from-append s [] ys = refl
places_from-append s (x ∷ xs) ys = ap (λ ps. place_of s x ∷ ps) (places_from-append (Some (place_of s x, x)) xs ys)

pub last_from-append : (s : Option (Place × ℕ)) (xs ys : List ℕ) → last_from s (xs ++ ys) ≡ last_from (last_from s xs) ys
last_from-append s [] ys = refl
last_from-append s (x ∷ xs) ys = last_from-append (Some (place_of s x, x)) xs ys

-- one more time zero: its place stands last, and follows from the last event before it
pub places-push : (zs : List ℕ) (z : ℕ) → places (zs ++ z ∷ []) ≡ places zs ++ place_of (last_placed zs) z ∷ []
places-push zs z = places_from-append None zs (z ∷ [])

-- and it is the last event then
pub last_placed-push : (zs : List ℕ) (z : ℕ) → last_placed (zs ++ z ∷ []) ≡ Some (place_of (last_placed zs) z, z)
last_placed-push zs z = last_from-append None zs (z ∷ [])
