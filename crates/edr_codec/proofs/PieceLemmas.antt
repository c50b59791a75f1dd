-- Values that stand in a part as numbers: what their bytes are, and what is read from these.
use Rattle.std.proofs.Common.{◌≡◌, inl, inr, refl, sym, ap, ap₂, ◌∙◌, ℕ, zero, suc, ◌+◌, ◌*◌, ◌/◌, ◌%◌, ◌^◌, ◌<◌, ◌≤◌, ℤ, pos, negsuc, Bool, true, false, Option, Some, None, List, [], ◌∷◌, ◌++◌, length, map, take, drop, replicate, get_or, slice_index, subst, append_assoc, append-nil, eq-eqb, arith}
use Rattle.std.proofs.Math.Nat.{mul-suc, mod-lt}
use Rattle.std.proofs.Math.Seq.{drop-append_seam}
use Rattle.std.proofs.lemmas.Bool.{ne_eqb, cases_eq, cases_lt}
use Rattle.std.proofs.lemmas.Int.{ints}
use Rattle.std.proofs.lemmas.List.{drop-drop, ext_get_or, length-append, length-replicate, get_or_past, get_or-drop, get_or_append_left, get_or-replicate}
use Rattle.std.proofs.lemmas.List.Concat.{flat_map-append}
use Rattle.std.proofs.lemmas.List.Elements.{All-head, All-tail, All-nil, All-cons, All-append, All-same, All-replicate, All-weaker}
use Rattle.std.proofs.lemmas.List.Folds.{flat_map-map}
use Rattle.std.proofs.lemmas.List.FromFn.{length-map-range_with_len, get_or-map-range_with_len}
use Rattle.std.proofs.lemmas.Simd.{map-map}
use Rattle.std.specs.Prelude.{All}
use Rattle.std.specs.List.{flat_map, range_with_len}
use Rattle.std.specs.Int.{cast_unsigned, w16, byte_at}
use Rattle.byteorder.specs.Endian.{big_bytes}
use Rattle.byteorder.specs.Numbers.{length-bytes_high_first}
use Rattle.edr_record.specs.Bounds.{IsUpTo, IsChange}
use Rattle.edr_image.specs.PartBytes.{number_at, numbers_at, unless, switch_from, signed_value, slot_bytes, switch_byte, signed_bytes}
use Rattle.edr_codec.proofs.RowLemmas.{AreBytes, Lies}
use Rattle.edr_codec.proofs.NumberLemmas.{number-stands, number-put}

-- ---- from bytes to values and back

-- a number that can only be 0
pub only_zero : (n : ℕ) → Lies ((0, 0) ∷ []) n → n ≡ 0
only_zero n (inl within) = omega arith
only_zero n (inr none) = absurd none

-- the bytes of what a number in the ranges of a slot says are those of the number
pub slot-number : (size high absent n : ℕ) → high < absent → replicate size 0xff ≡ big_bytes size absent → Lies ((0, high) ∷ (absent, absent) ∷ []) n
    → slot_bytes size (unless absent n) ≡ big_bytes size n
slot-number size high absent n apart all (inl here) = rw (ne_eqb n absent (λ same. omega arith)) refl
slot-number size high absent n apart all (inr (inl there)) =
    let same : n ≡ absent = omega arith in
    rw (eq-eqb n absent same) (all ∙ ap (big_bytes size) (sym same))
slot-number size high absent n apart all (inr (inr none)) = absurd none

pub switch-number : (n : ℕ) → Lies ((0, 1) ∷ (0xff, 0xff) ∷ []) n → switch_byte (switch_from n) ≡ n
switch-number n (inl here) = elim (cases_eq n 1) [
  | inl one ↦ subst (λ (x : ℕ). switch_byte (switch_from x) ≡ x) (sym one) refl
  | inr other ↦ subst (λ (x : ℕ). switch_byte (switch_from x) ≡ x) (let none : 0 ≡ n = omega arith in none) refl
]
switch-number n (inr (inl there)) = subst (λ (x : ℕ). switch_byte (switch_from x) ≡ x) (let same : 0xff ≡ n = omega arith in same) refl
switch-number n (inr (inr none)) = absurd none

pub switch-below : (n : ℕ) → Lies ((0, 1) ∷ (0xff, 0xff) ∷ []) n → n < 256
switch-below n (inl here) = omega arith
switch-below n (inr (inl there)) = omega arith
switch-below n (inr (inr none)) = absurd none

pub one_byte : (n : ℕ) → n < 256 → big_bytes 1 n ≡ n ∷ []
one_byte n small = let e : n % 256 ≡ n = omega arith in ap (λ (x : ℕ). x ∷ []) e

pub signed-number : (n : ℕ) → n < 65_536 → cast_unsigned w16 (signed_value n) ≡ n
signed-number n small = grind (arith, ints)

range-more : (a n : ℕ) → range_with_len a (suc n) ≡ range_with_len a n ++ (a + n) ∷ []
range-more a zero = let e : a ≡ a + 0 = omega arith in ap (λ (x : ℕ). x ∷ []) e
range-more a (suc n) = let e : a + 1 + n ≡ a + suc n = omega arith in ap (λ (xs : List ℕ). a ∷ xs) (range-more (a + 1) n ∙ ap (λ (x : ℕ). range_with_len (a + 1) n ++ x ∷ []) e)

-- pieces, each of the bytes of its number
pieces-stand : (bytes : List ℕ) (at size n : ℕ) (piece : ℕ → List ℕ) → AreBytes bytes → at + size * n ≤ length bytes
    → ((k : ℕ) → k < n → piece k ≡ big_bytes size (number_at bytes (at + size * k) size))
    → take (at + size * n) bytes ≡ take at bytes ++ flat_map piece (range_with_len 0 n)
pieces-stand bytes at size zero piece are room is = let e : at + size * 0 ≡ at = omega arith in rw (e, append-nil (take at bytes)) refl
pieces-stand bytes at size (suc n) piece are room is =
    let e : at + size * suc n ≡ at + size * n + size = rw (mul-suc size n) (omega arith) in
    let ih = pieces-stand bytes at size n piece are (omega arith) (λ k below. is k (omega arith)) in
    let here = number-stands bytes (at + size * n) size are (omega arith) in
    let whole : flat_map piece (range_with_len 0 (suc n)) ≡ flat_map piece (range_with_len 0 n) ++ piece n =
    ap (flat_map piece) (range-more 0 n)
    ∙ flat_map-append piece (range_with_len 0 n) ((0 + n) ∷ [])
    ∙ ap (λ (xs : List ℕ). flat_map piece (range_with_len 0 n) ++ xs) (append-nil (piece (0 + n)) ∙ ap piece (let z : 0 + n ≡ n = omega arith in z)) in
    ap (λ (x : ℕ). take x bytes) e
    ∙ here
    ∙ ap₂ (λ (xs ys : List ℕ). xs ++ ys) ih (sym (is n (omega arith)))
    ∙ append_assoc (take at bytes) (flat_map piece (range_with_len 0 n)) (piece n)
    ∙ ap (λ (xs : List ℕ). take at bytes ++ xs) (sym whole)

-- values that the numbers say, one after the other
pub values-stand : {X : Type 0} (bytes : List ℕ) (at size n : ℕ) (value : ℕ → X) (bytes_of : X → List ℕ) → AreBytes bytes → at + size * n ≤ length bytes
    → ((k : ℕ) → k < n → bytes_of (value (number_at bytes (at + size * k) size)) ≡ big_bytes size (number_at bytes (at + size * k) size))
    → take (at + size * n) bytes ≡ take at bytes ++ flat_map bytes_of (map value (numbers_at bytes at size n))
values-stand bytes at size n value bytes_of are room is =
    let number = λ (k : ℕ). number_at bytes (at + size * k) size in
    let range = range_with_len 0 n in
    pieces-stand bytes at size n (λ k. bytes_of (value (number k))) are room is
    ∙ ap (λ (xs : List ℕ). take at bytes ++ xs)
    (sym (flat_map-map (λ x. bytes_of (value x)) number range) ∙ sym (flat_map-map bytes_of value (map number range)))

-- ---- from values to bytes and back

-- the value's bytes are those of a number of so many bytes
pub record IsCoded {X : Type 0} (size : ℕ) (bytes_of : X → List ℕ) (code : X → ℕ) (x : X) : Type 0 where
  pub bytes : bytes_of x ≡ big_bytes size (code x)
  pub fits : code x < 256 ^ size

-- what stands after a piece
pub past-piece : (bytes piece rest : List ℕ) (at n : ℕ) → drop at bytes ≡ piece ++ rest → length piece ≡ n → drop (at + n) bytes ≡ rest
past-piece bytes piece rest at n stands long =
    sym (drop-drop n at bytes) ∙ ap₂ (λ (k : ℕ) (xs : List ℕ). drop k xs) (sym long) stands ∙ drop-append_seam piece rest

-- one value more in front
first-piece : {X : Type 0} (bytes rest : List ℕ) (at : ℕ) (bytes_of : X → List ℕ) (x : X) (xs : List X) → drop at bytes ≡ flat_map bytes_of (x ∷ xs) ++ rest
    → drop at bytes ≡ bytes_of x ++ (flat_map bytes_of xs ++ rest)
first-piece bytes rest at bytes_of x xs stands = stands ∙ append_assoc (bytes_of x) (flat_map bytes_of xs) rest

-- the numbers of values that were put
pub numbers-put : {X : Type 0} (bytes rest : List ℕ) (at size : ℕ) (bytes_of : X → List ℕ) (code : X → ℕ) (xs : List X) → All (IsCoded size bytes_of code) xs
    → drop at bytes ≡ flat_map bytes_of xs ++ rest
    → (k : ℕ) (d : X) → k < length xs → number_at bytes (at + size * k) size ≡ code (get_or xs k d)
numbers-put bytes rest at size bytes_of code [] coded stands k d within = absurd (omega arith)
numbers-put bytes rest at size bytes_of code (x ∷ xs) coded stands zero d within =
    let first = All-head (IsCoded size bytes_of code) x xs coded in
    let e : at + size * 0 ≡ at = omega arith in
    let here = first-piece bytes rest at bytes_of x xs stands ∙ ap (λ (ys : List ℕ). ys ++ (flat_map bytes_of xs ++ rest)) first.bytes in
    ap (λ (i : ℕ). number_at bytes i size) e ∙ number-put bytes (flat_map bytes_of xs ++ rest) at size (code x) here first.fits
numbers-put bytes rest at size bytes_of code (x ∷ xs) coded stands (suc k) d within =
    let first = All-head (IsCoded size bytes_of code) x xs coded in
    let long : length (bytes_of x) ≡ size = ap length first.bytes ∙ length-bytes_high_first size (code x) in
    let later = past-piece bytes (bytes_of x) (flat_map bytes_of xs ++ rest) at size (first-piece bytes rest at bytes_of x xs stands) long in
    let e : at + size * suc k ≡ at + size + size * k = rw (mul-suc size k) (omega arith) in
    ap (λ (i : ℕ). number_at bytes i size) e ∙ numbers-put bytes rest (at + size) size bytes_of code xs (All-tail (IsCoded size bytes_of code) x xs coded) later k d (omega arith)

-- how many bytes the values have
pub length-pieces : {X : Type 0} (size : ℕ) (bytes_of : X → List ℕ) (code : X → ℕ) (xs : List X) → All (IsCoded size bytes_of code) xs → length (flat_map bytes_of xs) ≡ size * length xs
length-pieces size bytes_of code [] coded = omega arith
length-pieces size bytes_of code (x ∷ xs) coded =
    let first = All-head (IsCoded size bytes_of code) x xs coded in
    let here : length (bytes_of x) ≡ size = ap length first.bytes ∙ length-bytes_high_first size (code x) in
    let ih = length-pieces size bytes_of code xs (All-tail (IsCoded size bytes_of code) x xs coded) in
    rw (length-append (bytes_of x) (flat_map bytes_of xs), here, ih, mul-suc size (length xs)) (omega arith)

-- the values that are read from numbers that were put
pub values-back : {X : Type 0} (bytes : List ℕ) (at size n : ℕ) (value : ℕ → X) (code : X → ℕ) (d : X) (xs : List X) → length xs ≡ n
    → ((k : ℕ) → k < n → number_at bytes (at + size * k) size ≡ code (get_or xs k d))
    → ((k : ℕ) → k < n → value (code (get_or xs k d)) ≡ get_or xs k d)
    → map value (numbers_at bytes at size n) ≡ xs
values-back bytes at size n value code d xs long put back =
    let number = λ (k : ℕ). number_at bytes (at + size * k) size in
    let f = λ (k : ℕ). value (number k) in
    let e = length-map-range_with_len f 0 n in
    map-map value number (range_with_len 0 n)
    ∙ ext_get_or d (map f (range_with_len 0 n)) xs (e ∙ sym long) (λ k within.
    let below : k < n = omega arith in
    get_or-map-range_with_len f 0 n k k d below (omega arith) ∙ ap value (put k below) ∙ back k below)

-- ---- the values of a part

-- the number of a slot or a time that may be absent
abbrev pub slot_code : ℕ → Option ℕ → ℕ
slot_code absent None = absent
slot_code absent (Some v) = v

pub slot-coded : (size high absent : ℕ) → high < absent → absent < 256 ^ size → replicate size 0xff ≡ big_bytes size absent
    → (slot : Option ℕ) → IsUpTo high slot → IsCoded size (slot_bytes size) (slot_code absent) slot
slot-coded size high absent apart fits all None up_to = record { bytes = all; fits = fits }
slot-coded size high absent apart fits all (Some v) up_to = record { bytes = refl; fits = omega arith }

pub slot-back : (high absent : ℕ) → high < absent → (slot : Option ℕ) → IsUpTo high slot → unless absent (slot_code absent slot) ≡ slot
slot-back high absent apart None up_to = rw (eq-eqb absent absent refl) refl
slot-back high absent apart (Some v) up_to = rw (ne_eqb v absent (λ same. omega arith)) refl

pub slot-lies : (high absent : ℕ) (slot : Option ℕ) → IsUpTo high slot → Lies ((0, high) ∷ (absent, absent) ∷ []) (slot_code absent slot)
slot-lies high absent None up_to = inr (inl (omega arith, omega arith))
slot-lies high absent (Some v) up_to = inl (omega arith, up_to)

pub switch-coded : (s : Option Bool) → IsCoded 1 (λ s. switch_byte s ∷ []) switch_byte s
switch-coded None = record { bytes = refl; fits = omega arith }
switch-coded (Some true) = record { bytes = refl; fits = omega arith }
switch-coded (Some false) = record { bytes = refl; fits = omega arith }

pub switch-back : (s : Option Bool) → switch_from (switch_byte s) ≡ s
switch-back None = refl
switch-back (Some true) = refl
switch-back (Some false) = refl

pub switch-lies : (s : Option Bool) → Lies ((0, 1) ∷ (0xff, 0xff) ∷ []) (switch_byte s)
switch-lies None = inr (inl (omega arith, omega arith))
switch-lies (Some true) = inl (omega arith, omega arith)
switch-lies (Some false) = inl (omega arith, omega arith)

-- the number of a change of speed
abbrev pub change_code : ℤ → ℕ
change_code z = cast_unsigned w16 z

pub change-coded : (z : ℤ) → IsChange z → IsCoded 2 signed_bytes change_code z
change-coded z small = record { bytes = refl; fits = grind (arith, ints) }

pub change-back : (z : ℤ) → IsChange z → signed_value (change_code z) ≡ z
change-back (pos n) small = grind (arith, ints)
change-back (negsuc n) small = grind (arith, ints)

pub change-lies : (z : ℤ) → IsChange z → Lies ((0, 3_000) ∷ (62_536, 65_535) ∷ []) (change_code z)
change-lies (pos n) small = inl (omega arith, omega (arith, ints))
change-lies (negsuc n) small = inr (inl (omega (arith, ints), omega (arith, ints)))

-- ---- bytes are below 256

abbrev pub AreSmall : List ℕ → Type 0
AreSmall bytes = All (λ b. b < 256) bytes

pub big_bytes-small : (n x : ℕ) → AreSmall (big_bytes n x)
big_bytes-small zero x = All-nil (λ (b : ℕ). b < 256)
big_bytes-small (suc n) x = All-cons (λ (b : ℕ). b < 256) (byte_at n x) (big_bytes n x) (byte_at-small n x) (big_bytes-small n x) where
  byte_at-small : (k x : ℕ) → byte_at k x < 256
  byte_at-small zero x = omega arith
  byte_at-small (suc k) x = mod-lt (x / 256 ^ suc k) (omega arith)

pub pieces-small : {X : Type 0} (size : ℕ) (bytes_of : X → List ℕ) (code : X → ℕ) (xs : List X) → All (IsCoded size bytes_of code) xs → AreSmall (flat_map bytes_of xs)
pieces-small size bytes_of code [] coded = All-nil (λ (b : ℕ). b < 256)
pieces-small size bytes_of code (x ∷ xs) coded =
    let first = All-head (IsCoded size bytes_of code) x xs coded in
    All-append (λ (b : ℕ). b < 256) (bytes_of x) (flat_map bytes_of xs)
    (All-same (λ (b : ℕ). b < 256) (bytes_of x) (big_bytes size (code x)) first.bytes (big_bytes-small size (code x)))
    (pieces-small size bytes_of code xs (All-tail (IsCoded size bytes_of code) x xs coded))

-- also past the end, where a list is read as 0
pub small-bytes : (bytes : List ℕ) → AreSmall bytes → AreBytes bytes
small-bytes bytes small i = elim (cases_lt i (length bytes)) [
  | inl within ↦ small i 0 within
  | inr past ↦ (let none = get_or_past bytes i 0 past in omega arith)
]

-- ---- single bytes and zeros that stand in bytes

pub switch-piece : (n : ℕ) → Lies ((0, 1) ∷ (0xff, 0xff) ∷ []) n → switch_byte (switch_from n) ∷ [] ≡ big_bytes 1 n
switch-piece n lies = ap (λ (x : ℕ). x ∷ []) (switch-number n lies) ∙ sym (one_byte n (switch-below n lies))

pub byte-is : (bytes : List ℕ) (at : ℕ) → number_at bytes at 1 ≡ slice_index bytes at
byte-is bytes at = let e : slice_index bytes at * 1 + 0 ≡ slice_index bytes at = omega arith in e

pub switch-stands : (bytes : List ℕ) (at : ℕ) → AreBytes bytes → at + 1 ≤ length bytes → Lies ((0, 1) ∷ (0xff, 0xff) ∷ []) (number_at bytes at 1)
    → take (at + 1) bytes ≡ take at bytes ++ switch_byte (switch_from (slice_index bytes at)) ∷ []
switch-stands bytes at are room lies =
    number-stands bytes at 1 are room
    ∙ ap (λ (xs : List ℕ). take at bytes ++ xs)
    (sym (switch-piece (number_at bytes at 1) lies) ∙ ap (λ (n : ℕ). switch_byte (switch_from n) ∷ []) (byte-is bytes at))

zeros-flat : (a n : ℕ) → flat_map {A = ℕ} (λ (k : ℕ). 0 ∷ []) (range_with_len a n) ≡ replicate n 0
zeros-flat a zero = refl
zeros-flat a (suc n) = ap (λ (xs : List ℕ). 0 ∷ xs) (zeros-flat (a + 1) n)

pub zeros-stand : (bytes : List ℕ) (at n : ℕ) → AreBytes bytes → at + 1 * n ≤ length bytes → ((k : ℕ) → k < n → Lies ((0, 0) ∷ []) (number_at bytes (at + 1 * k) 1))
    → take (at + 1 * n) bytes ≡ take at bytes ++ replicate n 0
zeros-stand bytes at n are room lie =
    pieces-stand bytes at 1 n (λ k. 0 ∷ []) are room (λ k below. ap (big_bytes 1) (sym (only_zero (number_at bytes (at + 1 * k) 1) (lie k below))))
    ∙ ap (λ (xs : List ℕ). take at bytes ++ xs) (zeros-flat 0 n)

-- ---- zeros that were put

pub zeros-put : (bytes rest : List ℕ) (at n : ℕ) → drop at bytes ≡ replicate n 0 ++ rest → (k : ℕ) → k < n → number_at bytes (at + 1 * k) 1 ≡ 0
zeros-put bytes rest at n stands k below =
    let e : at + 1 * k ≡ at + k = omega arith in
    let within : k < length (replicate n 0) = omega (arith, length-replicate {A = ℕ} n 0) in
    byte-is bytes (at + 1 * k)
    ∙ ap (slice_index bytes) e
    ∙ sym (get_or-drop at bytes k 0)
    ∙ ap (λ (xs : List ℕ). get_or xs k 0) stands
    ∙ get_or_append_left (replicate n 0) rest 0 k within
    ∙ get_or-replicate n k 0 0 below

-- what holds of the only number below 1
pub only_one : (P : ℕ → Type 0) → P 0 → (k : ℕ) → k < 1 → P k
only_one P here zero below = here
only_one P here (suc k) below = absurd (omega arith)

-- a number that is another
pub lies-at : (ranges : List (ℕ × ℕ)) (n m : ℕ) → n ≡ m → Lies ranges m → Lies ranges n
lies-at ranges n m same lies = subst (λ (x : ℕ). Lies ranges x) (sym same) lies

pub lies-zero : Lies ((0, 0) ∷ []) 0
lies-zero = inl (omega arith, omega arith)

pub slots-coded : (size high absent : ℕ) (slots : List (Option ℕ)) → high < absent → absent < 256 ^ size → replicate size 0xff ≡ big_bytes size absent
    → All (IsUpTo high) slots → All (IsCoded size (slot_bytes size) (slot_code absent)) slots
slots-coded size high absent slots apart fits all up_to =
    All-weaker (IsUpTo high) (IsCoded size (slot_bytes size) (slot_code absent)) (slot-coded size high absent apart fits all) slots up_to

pub switches-coded : (ss : List (Option Bool)) → All (IsCoded 1 (λ s. switch_byte s ∷ []) switch_byte) ss
switches-coded ss k d within = switch-coded (get_or ss k d)

pub changes-coded : (zs : List ℤ) → All IsChange zs → All (IsCoded 2 signed_bytes change_code) zs
changes-coded zs are = All-weaker IsChange (IsCoded 2 signed_bytes change_code) change-coded zs are

-- ---- how long the bytes of a part are

-- so many bytes
pub record AreBytesOf (n : ℕ) (xs : List ℕ) : Type 0 where
  pub long : length xs ≡ n
  pub small : AreSmall xs

pub bytes-append : {m n : ℕ} {xs ys : List ℕ} → AreBytesOf m xs → AreBytesOf n ys → AreBytesOf (m + n) (xs ++ ys)
bytes-append {m} {n} {xs} {ys} first later = record {
  long = length-append xs ys ∙ ap₂ (λ (i j : ℕ). i + j) first.long later.long;
  small = All-append (λ (b : ℕ). b < 256) xs ys first.small later.small;
}

pub bytes-number : (n x : ℕ) → AreBytesOf n (big_bytes n x)
bytes-number n x = record { long = length-bytes_high_first n x; small = big_bytes-small n x }

pub bytes-pieces : {X : Type 0} (size n : ℕ) (bytes_of : X → List ℕ) (code : X → ℕ) (xs : List X) → All (IsCoded size bytes_of code) xs → length xs ≡ n → AreBytesOf (size * n) (flat_map bytes_of xs)
bytes-pieces size n bytes_of code xs coded long = record {
  long = length-pieces size bytes_of code xs coded ∙ ap (λ (i : ℕ). size * i) long;
  small = pieces-small size bytes_of code xs coded;
}

pub bytes-zeros : (n : ℕ) → AreBytesOf n (replicate n 0)
bytes-zeros n = record { long = length-replicate n 0; small = All-replicate (λ (b : ℕ). b < 256) n 0 (omega arith) }

pub bytes-switch : (s : Option Bool) → AreBytesOf 1 (switch_byte s ∷ [])
bytes-switch s =
    let coded = switch-coded s in
    record { long = refl; small = All-same (λ (b : ℕ). b < 256) (switch_byte s ∷ []) (big_bytes 1 (switch_byte s)) coded.bytes (big_bytes-small 1 (switch_byte s)) }
