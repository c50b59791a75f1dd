-- Where a report and a text differ first.
use Rattle.std.proofs.Common.{◌≡◌, refl, None, Some, [], ◌∷◌}
use Rattle.edr_audit.specs.Compared.{first_difference}

no-bytes : first_difference [] [] ≡ None
no-bytes = refl

one-byte-more : first_difference (7 ∷ []) [] ≡ Some 0
one-byte-more = refl

one-byte-less : first_difference [] (7 ∷ []) ≡ Some 0
one-byte-less = refl

another-byte : first_difference (1 ∷ 2 ∷ []) (1 ∷ 3 ∷ []) ≡ Some 1
another-byte = refl

-- the length of the shorter one, where it begins the other
shorter : first_difference (1 ∷ []) (1 ∷ 2 ∷ []) ≡ Some 1
shorter = refl

longer : first_difference (1 ∷ 2 ∷ []) (1 ∷ []) ≡ Some 1
longer = refl
