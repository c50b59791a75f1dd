-- The bytes of a number, and the number in bytes.
use Rattle.std.proofs.Common.{◌≡◌, refl, sym, ap, ap₂, ◌∙◌, ℕ, zero, suc, ◌+◌, ◌*◌, ◌/◌, ◌%◌, ◌^◌, ◌<◌, ◌≤◌, List, ◌∷◌, ◌++◌, length, take, drop, slice_index, arith}
use Rattle.std.proofs.Math.Nat.{mul_assoc, mul_comm, pow-suc, div-one, mod-eq_of_lt, one-le-pow, add-mul-div_right, add-mul-mod_self_right}
use Rattle.std.proofs.Math.Seq.{take-add, drop-cons}
use Rattle.std.proofs.lemmas.Nat.{div-mul-add}
use Rattle.std.proofs.lemmas.List.{get_or-drop}
use Rattle.std.specs.Int.{byte_at}
use Rattle.byteorder.specs.Endian.{big_from, big_bytes}
use Rattle.byteorder.specs.Numbers.{big_from-lt, big_number-reads_back}
use Rattle.edr_image.specs.PartBytes.{number_at}
use Rattle.edr_codec.proofs.RowLemmas.{AreBytes}

byte_at-pow : (k x : ℕ) → byte_at k x ≡ x / 256 ^ k % 256
byte_at-pow zero x = ap (λ (y : ℕ). y % 256) (sym (div-one x))
byte_at-pow (suc k) x = refl

-- a power of 256 is above 0
pub span-some : (k : ℕ) → 0 < 256 ^ k
span-some k = let h = one-le-pow k 256 (omega arith) in omega arith

-- the byte above k others
byte_at-top : (k b r : ℕ) → b < 256 → r < 256 ^ k → byte_at k (b * 256 ^ k + r) ≡ b
byte_at-top k b r small below = byte_at-pow k (b * 256 ^ k + r) ∙ ap (λ (x : ℕ). x % 256) (div-mul-add b (256 ^ k) r below) ∙ mod-eq_of_lt small

span-more : (m k : ℕ) → m * 256 ^ suc k ≡ (m * 256) * 256 ^ k
span-more m k = ap (λ (x : ℕ). m * x) (pow-suc 256 k ∙ mul_comm (256 ^ k) 256) ∙ sym (mul_assoc m 256 (256 ^ k))

-- the low bytes don't depend on what stands above them
big_bytes-low : (k m r : ℕ) → big_bytes k (m * 256 ^ k + r) ≡ big_bytes k r
big_bytes-low zero m r = refl
big_bytes-low (suc k) m r =
    let p = 256 ^ k in
    let moved : m * 256 ^ suc k + r ≡ (m * 256) * p + r = ap (λ (x : ℕ). x + r) (span-more m k) in
    let turned : (m * 256) * p + r ≡ r + (m * 256) * p = omega arith in
    let top : byte_at k (m * 256 ^ suc k + r) ≡ byte_at k r =
    byte_at-pow k (m * 256 ^ suc k + r)
    ∙ ap (λ (x : ℕ). x / p % 256) (moved ∙ turned)
    ∙ ap (λ (x : ℕ). x % 256) (add-mul-div_right r (m * 256) (span-some k))
    ∙ add-mul-mod_self_right (r / p) m 256
    ∙ sym (byte_at-pow k r) in
    ap₂ (λ (b : ℕ) (bs : List ℕ). b ∷ bs) top (ap (big_bytes k) moved ∙ big_bytes-low k (m * 256) r)

-- the bytes of the number in bytes are these
pub big_bytes-number : (bytes : List ℕ) (at n : ℕ) → AreBytes bytes → at + n ≤ length bytes → big_bytes n (number_at bytes at n) ≡ take n (drop at bytes)
big_bytes-number bytes at zero are room = refl
big_bytes-number bytes at (suc n) are room =
    let b = slice_index bytes at in
    let rest = big_from (suc at) n bytes in
    let below = big_from-lt (suc at) n bytes are in
    let top = byte_at-top n b rest (are at) below in
    let low = big_bytes-low n b rest ∙ big_bytes-number bytes (suc at) n are (omega arith) in
    ap₂ (λ (x : ℕ) (xs : List ℕ). x ∷ xs) top low ∙ sym (ap (take (suc n)) (drop-cons bytes at 0 (omega arith)))

-- the bytes up to the end of a number are those before it and its own
pub number-stands : (bytes : List ℕ) (at n : ℕ) → AreBytes bytes → at + n ≤ length bytes → take (at + n) bytes ≡ take at bytes ++ big_bytes n (number_at bytes at n)
number-stands bytes at n are room = take-add at n bytes ∙ ap (λ (xs : List ℕ). take at bytes ++ xs) (sym (big_bytes-number bytes at n are room))

-- a number is read by the bytes from its place on
pub number_at-drop : (bytes : List ℕ) (at i n : ℕ) → number_at bytes (at + i) n ≡ number_at (drop at bytes) i n
number_at-drop bytes at i zero = refl
number_at-drop bytes at i (suc n) =
    let byte = get_or-drop at bytes i 0 in
    let rest = number_at-drop bytes at (suc i) n in
    let e : at + suc i ≡ suc (at + i) = omega arith in
    let rest' = rw e at rest in
    rw (byte, ← rest') refl

-- a number that was put
pub number-put : (bytes rest : List ℕ) (at n x : ℕ) → drop at bytes ≡ big_bytes n x ++ rest → x < 256 ^ n → number_at bytes at n ≡ x
number-put bytes rest at n x stands fits =
    let e : at ≡ at + 0 = omega arith in
    ap (λ (i : ℕ). number_at bytes i n) e ∙ number_at-drop bytes at 0 n ∙ ap (λ (xs : List ℕ). number_at xs 0 n) stands ∙ big_number-reads_back n x rest fits
