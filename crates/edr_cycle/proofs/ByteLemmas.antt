-- Bytes and numbers beside a range that changed, and in a piece that was put.
use Rattle.std.proofs.Common.{◌≡◌, ◌⊎◌, ◌≤◌, ◌<◌, ◌+◌, ◌∙◌, ℕ, zero, suc, List, [], ◌∷◌, length, slice_index, refl, sym, ap, subst, inl, inr, arith}
use Rattle.std.proofs.lemmas.Grind.{common_steps}
use Rattle.std.proofs.lemmas.Bool.Decides.{nat_tests}
use Rattle.std.specs.Prelude.{false}
use Rattle.byteorder.specs.Endian.{big_from}
use Rattle.edr_device.specs.Device.{is_in}
use Rattle.edr_device.specs.Pieces.{SameBut, put_at}

out_of : (k n i : ℕ) → (i < k) ⊎ (k + n ≤ i) → is_in k n i ≡ false
out_of k n i h = grind (arith, nat_tests)

pub byte_beside : (k n : ℕ) (bytes image : List ℕ) (i : ℕ) → SameBut k n bytes image → i < length bytes → (i < k) ⊎ (k + n ≤ i) → slice_index image i ≡ slice_index bytes i
byte_beside k n bytes image i s below out = s.same i below (out_of k n i out)

-- a number of m bytes from a place on
pub number_beside : (k n : ℕ) (bytes image : List ℕ) (a m : ℕ) → SameBut k n bytes image → a + m ≤ length bytes → (a + m ≤ k) ⊎ (k + n ≤ a) → big_from a m image ≡ big_from a m bytes
number_beside k n bytes image a zero s fits out = refl
number_beside k n bytes image a (suc m) s fits out =
    let here : slice_index image a ≡ slice_index bytes a = byte_beside k n bytes image a s (omega arith) (aside out) in
    let rest : big_from (suc a) m image ≡ big_from (suc a) m bytes = number_beside k n bytes image (suc a) m s (omega arith) (later out) in
    rw (here, rest) refl
  where
    aside : (a + suc m ≤ k) ⊎ (k + n ≤ a) → (a < k) ⊎ (k + n ≤ a)
    aside (inl x) = inl (omega arith)
    aside (inr y) = inr y

    later : (a + suc m ≤ k) ⊎ (k + n ≤ a) → (suc a + m ≤ k) ⊎ (k + n ≤ suc a)
    later (inl x) = inl (omega arith)
    later (inr y) = inr (omega arith)

-- the piece stands where it was put
pub put_byte : (k j : ℕ) (piece bytes : List ℕ) → k + length piece ≤ length bytes → j < length piece → slice_index (put_at k piece bytes) (k + j) ≡ slice_index piece j
put_byte k j piece bytes fits below = grind (arith, common_steps)

-- and so does a number in it
pub put_number : (k j m : ℕ) (piece bytes : List ℕ) → k + length piece ≤ length bytes → j + m ≤ length piece → big_from (k + j) m (put_at k piece bytes) ≡ big_from j m piece
put_number k j zero piece bytes fits within = refl
put_number k j (suc m) piece bytes fits within =
    let here = put_byte k j piece bytes fits (omega arith) in
    let rest : big_from (k + suc j) m (put_at k piece bytes) ≡ big_from (suc j) m piece = put_number k (suc j) m piece bytes fits (omega arith) in
    let place : suc (k + j) ≡ k + suc j = omega arith in
    rw (here, place, rest) refl

-- the one byte that is put
pub one_byte : (k b : ℕ) (bytes : List ℕ) → k + 1 ≤ length bytes → slice_index (put_at k (b ∷ []) bytes) k ≡ b
one_byte k b bytes fits = ap (slice_index (put_at k (b ∷ []) bytes)) (zero_more k) ∙ put_byte k 0 (b ∷ []) bytes fits (omega arith)
  where
    zero_more : (k : ℕ) → k ≡ k + 0
    zero_more k = omega arith

in_wider : (k n at m i : ℕ) → at ≤ k → k + n ≤ at + m → is_in at m i ≡ false → is_in k n i ≡ false
in_wider k n at m i low high out = grind (arith, nat_tests)

pub same_wider : (k n at m : ℕ) (bytes image : List ℕ) → at ≤ k → k + n ≤ at + m → SameBut k n bytes image → SameBut at m bytes image
same_wider k n at m bytes image low high s = record { size = s.size; same = λ i below out. s.same i below (in_wider k n at m i low high out) }

pub same_chain : (at m : ℕ) (bytes mid image : List ℕ) → SameBut at m bytes mid → SameBut at m mid image → SameBut at m bytes image
same_chain at m bytes mid image a b = record { size = b.size ∙ a.size; same = λ i below out. b.same i (subst (λ l. i < l) (sym a.size) below) out ∙ a.same i below out }
