-- The front of a new image.
use Rattle.std.proofs.Common.{◌≡◌, ◌≤◌, ◌-◌, ◌++◌, ◌∷◌, [], ℕ, List, take, replicate, refl, ap, arith}
use Rattle.std.proofs.lemmas.List.{take-replicate}
use Rattle.edr_image.specs.declared.Header.{Header}
use Rattle.edr_image.specs.Image.{choice_byte, image_size, magic, new_image}

-- what stands before the banks, and in the first of them
abbrev pub front : Header → List ℕ
front h = magic ++ 0 ∷ 2 ∷ h.banks ∷ choice_byte h.choice ∷ []

pub new_image_is : (h : Header) → new_image h ≡ front h ++ replicate (image_size h.banks - 12) 0
unfolding new_image
new_image_is h = refl

pub front_is : (h : Header) → take 96 (new_image h) ≡ front h ++ replicate 84 0
front_is h =
    let enough : 84 ≤ image_size h.banks - 12 = omega arith in
    first_of (new_image h) (replicate (image_size h.banks - 12) 0) (new_image_is h) (take-replicate 84 (image_size h.banks - 12) 0 enough)
  where
    first_of : (xs rest : List ℕ) → xs ≡ front h ++ rest → take 84 rest ≡ replicate 84 0 → take 96 xs ≡ front h ++ replicate 84 0
    first_of xs rest is zeros = rw is (ap (λ ys. front h ++ ys) zeros)
