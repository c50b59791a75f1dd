-- From one bank to the whole image.
use Rattle.std.proofs.Common.{◌≡◌, ◌≢◌, ◌⊎◌, ◌≤◌, ◌<◌, ◌+◌, ◌-◌, ◌∙◌, ℕ, zero, suc, Bool, true, false, cond, not, Option, Some, None, List, length, map, slice_index, slice_set, get_or, refl, sym, ap, subst, inl, ⊎_elim, arith}
use Rattle.std.specs.Prelude.{nat_eq, nat_lt, is_none, option_map, slice_get, slice_range, find}
use Rattle.std.specs.List.{range_with_len}
use Rattle.std.specs.Option.{option_or}
use Rattle.std.proofs.lemmas.Grind.{common_steps, same_number_lists}
use Rattle.std.proofs.lemmas.Bool.Decides.{nat_tests}
use Rattle.std.proofs.lemmas.List.{get_or-set_other, get_or-set_same, length-set, same_lists}
use Rattle.std.proofs.lemmas.List.FromFn.{get_or-map-range_with_len, length-map-range_with_len}
use Rattle.std.proofs.lemmas.Option.{get_or_from_slice_get, slice_get_within}
use Rattle.edr_device.specs.Pieces.{SameBut}
use Rattle.edr_image.specs.declared.BankView.{BankView}
use Rattle.edr_image.specs.declared.BankView.TheVariants.{Damaged}
use Rattle.edr_image.specs.declared.Header.{Header}
use Rattle.edr_image.specs.declared.OpenFault.{OpenFault}
use Rattle.edr_image.specs.Banks.{with_bank}
use Rattle.edr_image.specs.PartBytes.{number_at}
use Rattle.edr_image.specs.Image.{View, bank_view, count_of, header_of, header_refusal, image_refusal, image_size, magic, not_magic, place_of, slot_count, store_of, view_of, header_refusal_by, image_refusal_by, view_by}
use Rattle.edr_gates.specs.Taken.{BankHolds}
use Rattle.edr_gates.proofs.MatchingLemmas.{Match, match_at, match_back}
use Rattle.edr_gates.proofs.BankByteLemmas.{both_none, Shows, bank_shows, shows_bank, shows_moves}
use Rattle.edr_gates.proofs.BankStepLemmas.{beside}

-- ---- an image with a view

-- the bytes have no refusal, and the view is what is read from them
pub record IsSeen (bytes : List ℕ) (v : View) : Type 0 where
  pub long : image_size (slice_index bytes 10) ≤ length bytes
  pub header : header_refusal bytes ≡ None
  pub same : v ≡ record { store = store_of bytes; count = count_of bytes }

refusal_none : {X Y : Type 0} (o : Option X) (f : X → Y) → option_map f o ≡ None → o ≡ None
refusal_none None f e = refl
refusal_none (Some x) f e = absurd cc

long_enough : (short too_short : Bool) (x y : OpenFault) (o : Option OpenFault) → cond short (Some x) (option_or o (cond too_short (Some y) None)) ≡ None → (o ≡ None) × (too_short ≡ false)
long_enough true too_short x y o e = absurd cc
long_enough false too_short x y (Some z) e = absurd cc
long_enough false true x y None e = absurd cc
long_enough false false x y None e = (refl, refl)

seen_as : (o : Option OpenFault) (w v : View) → cond (is_none o) (Some w) None ≡ Some v → (o ≡ None) × (v ≡ w)
seen_as None w v e = (refl, cc)
seen_as (Some x) w v e = absurd cc

not_below : (a b : ℕ) → nat_lt a b ≡ false → b ≤ a
not_below a b e = grind (arith, nat_tests)

-- the header isn't refused, and the banks are there
not_refused : (bytes : List ℕ) → image_refusal bytes ≡ None → (header_refusal bytes ≡ None) × (image_size (slice_index bytes 10) ≤ length bytes)
unfolding image_refusal_by
not_refused bytes e =
    let two = long_enough _ _ _ _ _ e in (refusal_none (header_refusal bytes) _ two.0, not_below (length bytes) (image_size (slice_index bytes 10)) two.1)

refused_none : (bytes : List ℕ) → header_refusal bytes ≡ None → image_size (slice_index bytes 10) ≤ length bytes → image_refusal bytes ≡ None
unfolding image_refusal_by
refused_none bytes header long = rw (at_least (length bytes) 96 (omega arith), header, at_least (length bytes) (image_size (slice_index bytes 10)) long) refl
  where
    at_least : (a b : ℕ) → b ≤ a → nat_lt a b ≡ false
    at_least a b h = grind (arith, nat_tests)

view_is : (bytes : List ℕ) → header_refusal bytes ≡ None → image_size (slice_index bytes 10) ≤ length bytes → view_of bytes ≡ Some (record { store = store_of bytes; count = count_of bytes })
unfolding view_by
view_is bytes header long = rw (refused_none bytes header long) refl

pub seen : (bytes : List ℕ) (v : View) → view_of bytes ≡ Some v → IsSeen bytes v
unfolding view_by
seen bytes v e =
    let is = seen_as (image_refusal bytes) _ v e in
    let ok = not_refused bytes is.0 in
    record { long = ok.1; header = ok.0; same = is.1 }

-- ---- what stands before the banks

find_same : (f g : ℕ → Bool) (s n : ℕ) → ((k : ℕ) → s ≤ k → k < s + n → f k ≡ g k) → find f (range_with_len s n) ≡ find g (range_with_len s n)
find_same f g s zero h = refl
find_same f g s (suc n) h =
    let here = h s (omega arith) (omega arith) in
    let rest = find_same f g (s + 1) n (λ k low high. h k (omega arith) (omega arith)) in rw (here, rest) refl

byte_at : (xs ys : List ℕ) (n k : ℕ) → Match xs 0 ys 0 n → k < n → slice_index xs k ≡ slice_index ys k
byte_at xs ys n k h below = let e : 0 + k ≡ k = omega arith in rw e at (h.same k below)

magic_same : (xs ys : List ℕ) → Match xs 0 ys 0 96 → not_magic xs ≡ not_magic ys
magic_same xs ys h =
    find_same (λ k. not (nat_eq (slice_index xs k) (slice_index magic k))) (λ k. not (nat_eq (slice_index ys k) (slice_index magic k))) 0 8
    (λ k low high. rw (byte_at xs ys 96 k h (omega arith)) refl)

header_stays : (xs ys : List ℕ) → Match xs 0 ys 0 96 → header_refusal xs ≡ None → header_refusal ys ≡ None
unfolding header_refusal_by
header_stays xs ys h e =
    let two = both_none _ _ e in
    let magic_none : not_magic ys ≡ None = sym (magic_same xs ys h) ∙ refusal_none (not_magic xs) _ two.0 in
    let version = match_at xs 0 ys 0 96 8 2 h (omega arith) in
    let banks = byte_at xs ys 96 10 h (omega arith) in
    let choice = byte_at xs ys 96 11 h (omega arith) in
    rw (magic_none, sym version, sym banks, sym choice) two.1

slot_stays : (xs ys : List ℕ) (at : ℕ) → at + 8 ≤ 96 → Match xs 0 ys 0 96 → slot_count xs at ≡ slot_count ys at
slot_stays xs ys at fits h =
    let gate = byte_at xs ys 96 at h (omega arith) in
    let count : number_at xs (at + 4) 4 ≡ number_at ys (at + 4) 4 = let e : 0 + (at + 4) ≡ at + 4 = omega arith in rw e at (match_at xs 0 ys 0 96 (at + 4) 4 h (omega arith)) in
    rw (gate, count) refl

count_stays : (xs ys : List ℕ) → Match xs 0 ys 0 96 → count_of xs ≡ count_of ys
unfolding count_of
count_stays xs ys h = rw (slot_stays xs ys 32 (omega arith) h, slot_stays xs ys 64 (omega arith) h) refl

-- ---- the banks

match_range : (bytes : List ℕ) (at : ℕ) → at + 1024 ≤ length bytes → Match (slice_range bytes at (at + 1024)) 0 bytes at 1024
match_range bytes at fits = record { same = λ j below. zero_first j ∙ there bytes at j fits below }
  where
    zero_first : (j : ℕ) → slice_index (slice_range bytes at (at + 1024)) (0 + j) ≡ slice_index (slice_range bytes at (at + 1024)) j
    zero_first j = let e : 0 + j ≡ j = omega arith in rw e refl

    there : (bytes : List ℕ) (at j : ℕ) → at + 1024 ≤ length bytes → j < 1024 → slice_index (slice_range bytes at (at + 1024)) j ≡ slice_index bytes (at + j)
    there bytes at j fits below = grind (arith, common_steps)

-- what the bank m shows
abbrev bank_in : List ℕ → ℕ → BankView
bank_in bytes m = bank_view (slice_range bytes (place_of m) (place_of m + 1024))

abbrev banks_in : ℕ → List ℕ → List BankView
banks_in n bytes = map (bank_in bytes) (range_with_len 1 n)

banks_length : (n : ℕ) (bytes : List ℕ) → length (banks_in n bytes) ≡ n
banks_length n bytes = length-map-range_with_len (bank_in bytes) 1 n

banks_at : (n j : ℕ) (bytes : List ℕ) (d : BankView) → j < n → get_or (banks_in n bytes) j d ≡ bank_in bytes (1 + j)
banks_at n j bytes d below = get_or-map-range_with_len (bank_in bytes) 1 n j (1 + j) d below refl

-- a bank beside the range
bank_beside : (k n : ℕ) (bytes image : List ℕ) (at : ℕ) → SameBut k n bytes image → at + 1024 ≤ length bytes → (at + 1024 ≤ k) ⊎ (k + n ≤ at) → slice_range image at (at + 1024) ≡ slice_range bytes at (at + 1024)
bank_beside k n bytes image at s fits out =
    let fits' : at + 1024 ≤ length image = let size = s.size in omega arith in
    let here = match_range bytes at fits in
    let there = match_range image at fits' in
    let beside = beside k n bytes image at 1024 s fits out in
    same_number_lists (slice_range image at (at + 1024)) (slice_range bytes at (at + 1024)) (range_length image at fits' ∙ sym (range_length bytes at fits)) (λ j below.
    let below' : j < 1024 = subst (λ (l : ℕ). j < l) (range_length image at fits') below in
    plain (slice_range image at (at + 1024)) j ∙ there.same j below' ∙ sym (beside.same j below') ∙ sym (here.same j below') ∙ sym (plain (slice_range bytes at (at + 1024)) j))
  where
    range_length : (xs : List ℕ) (at : ℕ) → at + 1024 ≤ length xs → length (slice_range xs at (at + 1024)) ≡ 1024
    range_length xs at fits = grind (arith, common_steps)

    plain : (xs : List ℕ) (j : ℕ) → slice_index xs j ≡ slice_index xs (0 + j)
    plain xs j = let e : 0 + j ≡ j = omega arith in rw e refl

apart : (j m : ℕ) → 1 ≤ m → j ≢ m - 1 → (place_of (1 + j) + 1024 ≤ place_of m) ⊎ (place_of m + 1024 ≤ place_of (1 + j))
apart j m low h = grind arith

split : (j k : ℕ) → (j ≡ k) ⊎ (j ≢ k)
split j k = grind arith

-- where only the bank m may have changed
banks_but : (n m : ℕ) (bytes image : List ℕ) → 1 ≤ m → m ≤ n → image_size n ≤ length bytes → SameBut (place_of m) 1024 bytes image → banks_in n image ≡ slice_set (banks_in n bytes) (m - 1) (bank_in image m)
banks_but n m bytes image low high fits s =
    same_lists (banks_in n image) (slice_set (banks_in n bytes) (m - 1) (bank_in image m)) (banks_length n image ∙ sym (length-set (banks_in n bytes) (m - 1) (bank_in image m) ∙ banks_length n bytes)) (λ j d below.
    let below' : j < n = subst (λ (l : ℕ). j < l) (banks_length n image) below in
    banks_at n j image d below' ∙ sym (⊎_elim
    (λ (same : j ≡ m - 1). ap (λ (i : ℕ). get_or (slice_set (banks_in n bytes) (m - 1) (bank_in image m)) i d) same
    ∙ get_or-set_same (banks_in n bytes) (m - 1) (bank_in image m) d (subst (λ (l : ℕ). m - 1 < l) (sym (banks_length n bytes)) (omega arith)) ∙ ap (bank_in image) (number j same))
    (λ (other : j ≢ m - 1). get_or-set_other (banks_in n bytes) (m - 1) j (bank_in image m) d other ∙ banks_at n j bytes d below'
    ∙ ap bank_view (sym (bank_beside (place_of m) 1024 bytes image (place_of (1 + j)) s (omega arith) (apart j m low other))))
    (split j (m - 1))))
  where
    number : (j : ℕ) → j ≡ m - 1 → m ≡ 1 + j
    number j e = omega arith

-- ---- the whole image

-- the bank is not damaged
abbrev pub IsWhole : BankView → Type 0
IsWhole view = (o b : ℕ) (l : Bool) → view ≡ Damaged o b l → ⊥

pub view_shows : (bytes : List ℕ) (v : View) (m : ℕ) (view : BankView) → view_of bytes ≡ Some v → BankHolds v.store.banks m view → IsWhole view → (place_of m + 1024 ≤ length bytes) × Shows bytes (place_of m) view
view_shows bytes v m view e holds whole =
    let is = seen bytes v e in
    let n = slice_index bytes 10 in
    let here : slice_get (banks_in n bytes) (m - 1) ≡ Some view = subst (λ (w : View). slice_get w.store.banks (m - 1) ≡ Some view) is.same holds.1 in
    let within : m - 1 < n = subst (λ (l : ℕ). m - 1 < l) (banks_length n bytes) (slice_get_within (banks_in n bytes) (m - 1) view here) in
    let long = is.long in
    let low = holds.0 in
    let fits : place_of m + 1024 ≤ length bytes = omega arith in
    let number : 1 + (m - 1) ≡ m = omega arith in
    let bank : bank_in bytes m ≡ view = subst (λ (k : ℕ). bank_in bytes k ≡ view) number (sym (banks_at n (m - 1) bytes view within) ∙ get_or_from_slice_get (banks_in n bytes) (m - 1) view view here) in
    (fits, shows_moves _ 0 bytes (place_of m) view (match_range bytes (place_of m) fits) (bank_shows _ view bank whole))

pub view_but : (bytes image : List ℕ) (v : View) (m : ℕ) (old new : BankView) → view_of bytes ≡ Some v → BankHolds v.store.banks m old → SameBut (place_of m) 1024 bytes image → Shows image (place_of m) new
    → view_of image ≡ Some (record v { store = record v.store { banks = with_bank v.store.banks m new } })
view_but bytes image v m old new e holds s shows =
    let is = seen bytes v e in
    let n = slice_index bytes 10 in
    let here : slice_get (banks_in n bytes) (m - 1) ≡ Some old = subst (λ (w : View). slice_get w.store.banks (m - 1) ≡ Some old) is.same holds.1 in
    let within : m - 1 < n = subst (λ (l : ℕ). m - 1 < l) (banks_length n bytes) (slice_get_within (banks_in n bytes) (m - 1) old here) in
    let long = is.long in
    let low = holds.0 in
    let size = s.size in
    let fits : place_of m + 1024 ≤ length image = omega arith in
    let front : Match bytes 0 image 0 96 = beside (place_of m) 1024 bytes image 0 96 s (omega arith) (inl (omega arith)) in
    let bank : bank_in image m ≡ new = shows_bank _ new (shows_moves image (place_of m) _ 0 new (match_back _ 0 image (place_of m) 1024 (match_range image (place_of m) fits)) shows) in
    let banks : banks_in n image ≡ slice_set (banks_in n bytes) (m - 1) new = banks_but n m bytes image low (omega arith) is.long s ∙ ap (slice_set (banks_in n bytes) (m - 1)) bank in
    let count : slice_index image 10 ≡ n = sym (byte_at bytes image 96 10 front (omega arith)) in
    let header = header_back bytes image front in
    let all : banks_in (slice_index image 10) image ≡ slice_set (banks_in n bytes) (m - 1) new = ap (λ (k : ℕ). banks_in k image) count ∙ banks in
    let told = view_is image (header_stays bytes image front is.header) (omega arith) in
    told ∙ ap Some (same_view _ _ _ _ _ _ header all (sym (count_stays bytes image front))) ∙ ap (λ (w : View). Some (record w { store = record w.store { banks = with_bank w.store.banks m new } })) (sym is.same)
  where
    same_view : (h h' : Header) (b b' : List BankView) (c c' : ℕ) → h ≡ h' → b ≡ b' → c ≡ c' → let v : View = record { store = record { header = h; banks = b }; count = c } in v ≡ record { store = record { header = h'; banks = b' }; count = c' }
    same_view h h' b b' c c' e f g = rw (e, f, g) refl

    header_back : (xs ys : List ℕ) → Match xs 0 ys 0 96 → header_of ys ≡ header_of xs
    header_back xs ys h = rw (byte_at xs ys 96 10 h (omega arith), byte_at xs ys 96 11 h (omega arith)) refl
