-- Where the banks stand in the bytes of the new image.
use Rattle.std.proofs.Common.{◌≡◌, ◌≤◌, ◌<◌, ◌+◌, ◌-◌, ◌*◌, ◌++◌, ◌∙◌, ℕ, zero, suc, not, nat_eq, List, [], ◌∷◌, length, take, drop, replicate, slice_index, refl, sym, ap, subst, append_assoc, length-append, append-nil, arith}
use Rattle.std.specs.Prelude.{flat_map, is_some, slice_index_or, slice_range, slice_set}
use Rattle.std.proofs.Math.Seq.{drop-append-add, drop-append_seam, take-append_seam}
use Rattle.std.proofs.lemmas.Grind.{common_steps}
use Rattle.byteorder.specs.Endian.{big_bytes}
use Rattle.edr_image.specs.declared.BankView.{BankView}
use Rattle.edr_image.specs.declared.BankView.TheVariants.{Void}
use Rattle.edr_image.specs.declared.Header.{Header}
use Rattle.edr_image.specs.declared.places.TheConstants.{BANK_SIZE, OPEN_GATE}
use Rattle.edr_image.specs.Image.{View, image_size, new_image, place_of}
use Rattle.edr_layout.proofs.NewFrontLemmas.{front, front_is}
use Rattle.edr_record.specs.declared.Record.{Record}
use Rattle.edr_image.specs.PartBytes.{pre_bytes}
use Rattle.edr_migrate.specs.NewBytes.{bank_bytes, done_bytes, event_bytes, front_bytes, gate_byte, image_of}
use Rattle.edr_migrate.proofs.EventByteLemmas.{AreSound, bank_length}

-- ---- the banks, one after another

pub banks_length : (xs : List BankView) → AreSound xs → length (flat_map bank_bytes xs) ≡ BANK_SIZE * length xs
banks_length [] sound = refl
banks_length (x ∷ xs) sound =
    let one = bank_length x sound.0 in
    let more = banks_length xs sound.1 in
    length-append (bank_bytes x) (flat_map bank_bytes xs) ∙ omega (arith, one, more)

bank_there : (xs : List BankView) (rest : List ℕ) (k : ℕ) → AreSound xs → k < length xs → take BANK_SIZE (drop (BANK_SIZE * k) (flat_map bank_bytes xs ++ rest)) ≡ bank_bytes (slice_index_or xs k Void)
bank_there [] rest k sound below = absurd (omega arith)
bank_there (x ∷ xs) rest zero sound below =
    let long = bank_length x sound.0 in
    ap (take BANK_SIZE) (append_assoc (bank_bytes x) (flat_map bank_bytes xs) rest)
    ∙ ap (λ (n : ℕ). take n (bank_bytes x ++ (flat_map bank_bytes xs ++ rest))) (sym long)
    ∙ take-append_seam (bank_bytes x) (flat_map bank_bytes xs ++ rest)
bank_there (x ∷ xs) rest (suc k) sound below =
    let long = bank_length x sound.0 in
    let at : BANK_SIZE * suc k ≡ length (bank_bytes x) + BANK_SIZE * k = omega (arith, long) in
    ap (λ (n : ℕ). take BANK_SIZE (drop n ((bank_bytes x ++ flat_map bank_bytes xs) ++ rest))) at
    ∙ ap (λ (ys : List ℕ). take BANK_SIZE (drop (length (bank_bytes x) + BANK_SIZE * k) ys)) (append_assoc (bank_bytes x) (flat_map bank_bytes xs) rest)
    ∙ ap (take BANK_SIZE) (drop-append-add (bank_bytes x) (flat_map bank_bytes xs ++ rest) (BANK_SIZE * k))
    ∙ bank_there xs rest k sound.1 (omega arith)

-- ---- the front

-- after the header, a count in slot 0
abbrev pub slot_bytes : ℕ → List ℕ
slot_bytes count = replicate 20 0 ++ gate_byte (not (nat_eq count 0)) ∷ replicate 3 0 ++ big_bytes 4 count ++ replicate 56 0

twice : (xs : List ℕ) (m n : ℕ) → m ≤ n → take m xs ≡ take m (take n xs)
twice xs m n less = grind (arith, common_steps)

first_of : (xs : List ℕ) (h : Header) → take 96 xs ≡ front h ++ replicate 84 0 → take 32 xs ≡ front h ++ replicate 20 0
first_of xs h is =
    twice xs 32 96 (omega arith) ∙ ap (take 32) is

pub front_bytes_are : (h : Header) (count : ℕ) → front_bytes h count ≡ front h ++ slot_bytes count
front_bytes_are h count = ap (λ (xs : List ℕ). xs ++ gate_byte (not (nat_eq count 0)) ∷ replicate 3 0 ++ big_bytes 4 count ++ replicate 56 0) (first_of (new_image h) h (front_is h))

pub front_length : (h : Header) (count : ℕ) → length (front_bytes h count) ≡ 96
front_length h count = ap length (front_bytes_are h count) ∙ long (big_bytes 4 count) refl where
  long : (number : List ℕ) → length number ≡ 4 → length (front h ++ replicate 20 0 ++ gate_byte (not (nat_eq count 0)) ∷ replicate 3 0 ++ number ++ replicate 56 0) ≡ 96
  long number four = grind (arith, common_steps)

-- ---- the image

pub image_is : (v : View) → image_of v ≡ front_bytes v.store.header v.count ++ flat_map bank_bytes v.store.banks
unfolding image_of
image_is v = refl

pub image_length : (v : View) → AreSound v.store.banks → length v.store.banks ≡ v.store.header.banks → length (image_of v) ≡ image_size v.store.header.banks
image_length v sound many =
    ap length (image_is v) ∙ length-append (front_bytes v.store.header v.count) (flat_map bank_bytes v.store.banks) ∙ omega (arith, front_length v.store.header v.count, banks_length v.store.banks sound, many)

pub image_first : (v : View) → slice_index (image_of v) 0 ≡ 0x45
image_first v = ap (λ (xs : List ℕ). slice_index xs 0) (image_is v ∙ ap (λ (xs : List ℕ). xs ++ flat_map bank_bytes v.store.banks) (front_bytes_are v.store.header v.count))

pub image_front : (v : View) → front_bytes v.store.header v.count ≡ take 96 (image_of v)
image_front v =
    let first = front_bytes v.store.header v.count in
    let long = front_length v.store.header v.count in
    sym (ap (take 96) (image_is v) ∙ ap (λ (n : ℕ). take n (first ++ flat_map bank_bytes v.store.banks)) (sym long) ∙ take-append_seam first (flat_map bank_bytes v.store.banks))

-- the bytes of a bank, whatever stands past the image
pub bank_range : (v : View) (rest : List ℕ) (m k : ℕ) → AreSound v.store.banks → k < length v.store.banks → m ≡ k + 1 → slice_range (image_of v ++ rest) (place_of m) (place_of m + BANK_SIZE) ≡ bank_bytes (slice_index_or v.store.banks k Void)
bank_range v rest m k sound below is =
    let first = front_bytes v.store.header v.count in
    let banks = flat_map bank_bytes v.store.banks in
    let at : place_of m ≡ length first + BANK_SIZE * k = omega (arith, is, front_length v.store.header v.count) in
    let size : place_of m + BANK_SIZE - place_of m ≡ BANK_SIZE = omega arith in
    ap (λ (n : ℕ). take n (drop (place_of m) (image_of v ++ rest))) size
    ∙ ap (λ (n : ℕ). take BANK_SIZE (drop n (image_of v ++ rest))) at
    ∙ ap (λ (xs : List ℕ). take BANK_SIZE (drop (length first + BANK_SIZE * k) xs)) (ap (λ (xs : List ℕ). xs ++ rest) (image_is v) ∙ append_assoc first banks rest)
    ∙ ap (take BANK_SIZE) (drop-append-add first (banks ++ rest) (BANK_SIZE * k))
    ∙ bank_there v.store.banks rest k sound below

-- ---- as they are put

-- a count is put into the front of a new image
pub front_put : (h : Header) (count g : ℕ) (first number : List ℕ) → first ≡ take 96 (new_image h) → g ≡ gate_byte (not (nat_eq count 0)) → number ≡ big_bytes 4 count
    → take 36 (slice_set first 32 g) ++ (number ++ drop 4 (drop 36 (slice_set first 32 g))) ≡ front_bytes h count
front_put h count g first number is gate four = let whole = is ∙ front_is h in rw (whole, gate, four) (sym (front_bytes_are h count))

-- a piece is put over another one of its size
between : (head mid tail ys : List ℕ) → take (length head) (head ++ (mid ++ tail)) ++ (ys ++ drop (length mid) (drop (length head) (head ++ (mid ++ tail)))) ≡ head ++ (ys ++ tail)
between head mid tail ys =
    let behind = ap (drop (length mid)) (drop-append_seam head (mid ++ tail)) ∙ drop-append_seam mid tail in
    rw (take-append_seam head (mid ++ tail), behind) refl

-- both parts are put after the gates
pub event_put : (r : Record) (a b : ℕ) (pre done : List ℕ) → a ≡ gate_byte r.locked → b ≡ gate_byte (is_some r.crash) → pre ≡ pre_bytes r.pre → done ≡ done_bytes r.crash → length pre ≡ 848
    → (let new : List ℕ = OPEN_GATE ∷ a ∷ b ∷ replicate 13 0 ++ (replicate 848 0 ++ replicate 160 0) in
    let filled = take 16 new ++ (pre ++ drop 848 (drop 16 new)) in
    take 864 filled ++ (done ++ drop 160 (drop 864 filled))) ≡ event_bytes r
event_put r a b pre done lock is_done is_pre is_crash long =
    let gates : List ℕ = OPEN_GATE ∷ a ∷ b ∷ replicate 13 0 in
    let filled = between gates (replicate 848 0) (replicate 160 0) pre in
    let size : length (gates ++ pre) ≡ 864 = omega (arith, long) in
    let last : (gates ++ pre) ++ replicate 160 0 ≡ (gates ++ pre) ++ (replicate 160 0 ++ []) = ap (λ (xs : List ℕ). (gates ++ pre) ++ xs) (sym (append-nil (replicate 160 0))) in
    let put : take 864 ((gates ++ pre) ++ replicate 160 0) ++ (done ++ drop 160 (drop 864 ((gates ++ pre) ++ replicate 160 0))) ≡ (gates ++ pre) ++ (done ++ []) =
    subst (λ (n : ℕ). take n ((gates ++ pre) ++ replicate 160 0) ++ (done ++ drop 160 (drop n ((gates ++ pre) ++ replicate 160 0))) ≡ (gates ++ pre) ++ (done ++ [])) size
    (subst (λ (xs : List ℕ). take (length (gates ++ pre)) xs ++ (done ++ drop 160 (drop (length (gates ++ pre)) xs)) ≡ (gates ++ pre) ++ (done ++ [])) (sym last) (between (gates ++ pre) (replicate 160 0) [] done)) in
    ap (λ (xs : List ℕ). take 864 xs ++ (done ++ drop 160 (drop 864 xs))) filled
    ∙ put
    ∙ ap (λ (xs : List ℕ). (gates ++ pre) ++ xs) (append-nil done)
    ∙ rw (lock, is_done, is_pre, is_crash) refl
