-- The bytes of a new image.
use Rattle.std.proofs.Common.{◌≡◌, ◌≤◌, ◌+◌, ◌-◌, ◌++◌, ◌∙◌, ℕ, List, length, replicate, slice_index, sym, ap, arith}
use Rattle.std.specs.Prelude.{slice_range}
use Rattle.std.proofs.lemmas.Grind.{common_steps, same_number_lists}
use Rattle.edr_image.specs.declared.Header.{Header}
use Rattle.edr_image.specs.declared.places.TheConstants.{BANK_SIZE}
use Rattle.edr_image.specs.Image.{image_size, new_image, place_of}
use Rattle.edr_layout.proofs.NewFrontLemmas.{front, new_image_is}
use Rattle.edr_banks.specs.Laying.{IsImageOf}
use Rattle.edr_banks.proofs.PieceLemmas.{range_at, range_size}

pub new_image_size : (h : Header) → length (new_image h) ≡ image_size h.banks
new_image_size h = ap length (new_image_is h) ∙ grind (arith, common_steps)

-- it can be laid
pub new_image_whole : (h : Header) → IsImageOf (image_size h.banks) (new_image h)
new_image_whole h = record { some = omega arith; size = new_image_size h; marked = ap (λ (xs : List ℕ). slice_index xs 0) (new_image_is h) }

replicate_zero : (n i : ℕ) → slice_index (replicate n 0) i ≡ 0
replicate_zero n i = grind (arith, common_steps)

-- after the choice all bytes are 0
pub zeros_behind : (h : Header) (i : ℕ) → 12 ≤ i → slice_index (new_image h) i ≡ 0
zeros_behind h i low =
    let there : slice_index (front h ++ replicate (image_size h.banks - 12) 0) i ≡ slice_index (replicate (image_size h.banks - 12) 0) (i - 12) = grind (arith, common_steps) in
    ap (λ xs. slice_index xs i) (new_image_is h) ∙ there ∙ replicate_zero (image_size h.banks - 12) (i - 12)

-- so are those of a bank
pub bank_zeros : (h : Header) (m : ℕ) → 1 ≤ m → m ≤ h.banks → replicate BANK_SIZE 0 ≡ slice_range (new_image h) (place_of m) (place_of m + BANK_SIZE)
bank_zeros h m low high =
    let at = place_of m in
    let fits : at + BANK_SIZE ≤ length (new_image h) = omega (arith, new_image_size h) in
    let long = range_size (new_image h) at BANK_SIZE fits in
    let short : length {A = ℕ} (replicate BANK_SIZE 0) ≡ BANK_SIZE = grind (arith, common_steps) in
    same_number_lists (replicate BANK_SIZE 0) (slice_range (new_image h) at (at + BANK_SIZE)) (short ∙ sym long)
    (λ j below. replicate_zero BANK_SIZE j ∙ sym (range_at (new_image h) at BANK_SIZE j (omega (arith, short)) ∙ zeros_behind h (at + j) (omega arith)))
