-- What the new image says.
use Rattle.std.proofs.Common.{◌≡◌, ◌≤◌, ◌<◌, ◌+◌, ◌-◌, ◌^◌, ◌++◌, ◌∙◌, ℕ, zero, suc, Bool, true, false, cond, not, nat_eq, max, List, [], ◌∷◌, length, map, replicate, slice_index, Some, refl, sym, ap, subst, append_assoc, length-append, append-nil, arith}
use Rattle.std.specs.Prelude.{flat_map, slice_index_or, slice_range}
use Rattle.std.specs.List.{range_with_len}
use Rattle.std.proofs.lemmas.Grind.{common_steps}
use Rattle.std.proofs.lemmas.Bool.{eqb-true}
use Rattle.std.proofs.lemmas.List.FromFn.{get_or-map-range_with_len}
use Rattle.byteorder.specs.Endian.{big_bytes}
use Rattle.edr_image.specs.declared.BankView.{BankView}
use Rattle.edr_image.specs.declared.BankView.TheVariants.{Void}
use Rattle.edr_image.specs.declared.Header.{Header}
use Rattle.edr_image.specs.declared.places.TheConstants.{BANK_SIZE, FEWEST_BANKS, MOST_BANKS}
use Rattle.edr_image.specs.Image.{View, bank_view, banks_of, count_of, header_of, image_size, place_of, slot_count, view_by, view_of}
use Rattle.edr_image.specs.PartBytes.{number_at}
use Rattle.edr_codec.proofs.NumberLemmas.{number-put}
use Rattle.edr_layout.proofs.NewFrontLemmas.{front}
use Rattle.edr_banks.proofs.NewViewLemmas.{header_is, not_refused, same_view}
use Rattle.edr_banks.specs.Laying.{IsImageOf}
use Rattle.edr_migrate.specs.Migrated.{AreWhole}
use Rattle.edr_migrate.specs.NewBytes.{bank_bytes, gate_byte, image_of}
use Rattle.edr_migrate.specs.OldImage.{IsOld, view_in}
use Rattle.edr_migrate.proofs.EventByteLemmas.{AreSound, bank_says, old_sound}
use Rattle.edr_migrate.proofs.ImageByteLemmas.{bank_range, front_bytes_are, image_first, image_is, image_length, slot_bytes}
use Rattle.edr_migrate.proofs.OldBankLemmas.{old_length, old_view_at}

-- ---- the count

in_slot : (n m : ℕ) → m ≡ n → cond (nat_eq (gate_byte (not (nat_eq n 0))) 0xa5) m 0 ≡ n
in_slot n m is = by_test (nat_eq n 0) refl where
  by_test : (b : Bool) → nat_eq n 0 ≡ b → cond (nat_eq (gate_byte (not b)) 0xa5) m 0 ≡ n
  by_test true e = sym (eqb-true n 0 e)
  by_test false e = is

closed : (h : Header) (g : ℕ) (number rest : List ℕ) → length number ≡ 4 → slice_index (front h ++ replicate 20 0 ++ g ∷ replicate 3 0 ++ number ++ replicate 56 0 ++ rest) 64 ≡ 0
closed h g number rest four = grind (arith, common_steps)

count_is : (h : Header) (n : ℕ) (rest : List ℕ) → n < 2 ^ 32 → count_of (front h ++ slot_bytes n ++ rest) ≡ n
unfolding count_of
count_is h n rest small =
    let bytes = front h ++ slot_bytes n ++ rest in
    let number : number_at bytes 36 4 ≡ n = number-put bytes (replicate 56 0 ++ rest) 36 4 n refl (omega (arith, small)) in
    let first : slot_count bytes 32 ≡ n = in_slot n (number_at bytes 36 4) number in
    let second : slice_index bytes 64 ≡ 0 = closed h (gate_byte (not (nat_eq n 0))) (big_bytes 4 n) rest refl in
    rw (first, second) (let e : max n 0 ≡ n = omega arith in e)

-- ---- the banks

banks_from : (s : ℕ) (xs : List BankView) (f : ℕ → BankView) → ((k : ℕ) → k < length xs → f (s + k) ≡ slice_index_or xs k Void) → map f (range_with_len s (length xs)) ≡ xs
banks_from s [] f h = refl
banks_from s (x ∷ xs) f h =
    let first : s ≡ s + 0 = omega arith in
    let here : f s ≡ x = ap f first ∙ h 0 (omega arith) in
    let later = banks_from (s + 1) xs f (λ k below. let e : s + 1 + k ≡ s + suc k = omega arith in ap f e ∙ h (suc k) (omega arith)) in cc

says_at : (xs : List BankView) (k : ℕ) → AreSound xs → k < length xs → bank_view (bank_bytes (slice_index_or xs k Void)) ≡ slice_index_or xs k Void
says_at [] k sound below = absurd (omega arith)
says_at (x ∷ xs) zero sound below = bank_says x sound.0
says_at (x ∷ xs) (suc k) sound below = says_at xs k sound.1 (omega arith)

banks_are : (v : View) (rest : List ℕ) → AreSound v.store.banks → banks_of (length v.store.banks) (image_of v ++ rest) ≡ v.store.banks
banks_are v rest sound =
    let bytes = image_of v ++ rest in
    banks_from 1 v.store.banks (λ m. bank_view (slice_range bytes (place_of m) (place_of m + BANK_SIZE))) (λ k below.
    let e : 1 + k ≡ k + 1 = omega arith in ap bank_view (bank_range v rest (1 + k) k sound below e) ∙ says_at v.store.banks k sound below)

-- ---- the image

view_front : (h : Header) (rest : List ℕ) (banks : List BankView) (n : ℕ) → FEWEST_BANKS ≤ h.banks → h.banks ≤ MOST_BANKS → image_size h.banks ≤ length (front h ++ rest) → count_of (front h ++ rest) ≡ n → banks_of h.banks (front h ++ rest) ≡ banks
    → view_of (front h ++ rest) ≡ Some (record { store = record { header = h; banks = banks }; count = n })
unfolding view_by
view_front h rest banks n low high long count are =
    let bytes = front h ++ rest in
    rw (not_refused h rest low high long) (same_view (header_of bytes) h (banks_of h.banks bytes) banks (count_of bytes) n (header_is h rest) are count)

-- an image that can be laid: its banks are sound, and as many as its header says
pub record IsSoundView (v : View) : Type 0 where
  pub banks : AreSound v.store.banks
  pub many : length v.store.banks ≡ v.store.header.banks
  pub from : FEWEST_BANKS ≤ v.store.header.banks
  pub to : v.store.header.banks ≤ MOST_BANKS
  pub small : v.count < 2 ^ 32

pub view_is : (v : View) (rest : List ℕ) → IsSoundView v → view_of (image_of v ++ rest) ≡ Some v
view_is v rest sound =
    let h = v.store.header in
    let behind = slot_bytes v.count ++ (flat_map bank_bytes v.store.banks ++ rest) in
    let is : image_of v ++ rest ≡ front h ++ behind =
    ap (λ (xs : List ℕ). xs ++ rest) (image_is v ∙ ap (λ (xs : List ℕ). xs ++ flat_map bank_bytes v.store.banks) (front_bytes_are h v.count))
    ∙ append_assoc (front h ++ slot_bytes v.count) (flat_map bank_bytes v.store.banks) rest
    ∙ append_assoc (front h) (slot_bytes v.count) (flat_map bank_bytes v.store.banks ++ rest) in
    let long : image_size h.banks ≤ length (front h ++ behind) = subst (λ (xs : List ℕ). image_size h.banks ≤ length xs) is (omega (arith, length-append (image_of v) rest, image_length v sound.banks sound.many)) in
    let banks : banks_of h.banks (front h ++ behind) ≡ v.store.banks = subst (λ (xs : List ℕ). banks_of h.banks xs ≡ v.store.banks) is (subst (λ (n : ℕ). banks_of n (image_of v ++ rest) ≡ v.store.banks) sound.many (banks_are v rest sound.banks)) in
    ap view_of is ∙ view_front h behind v.store.banks v.count sound.from sound.to long (count_is h v.count (flat_map bank_bytes v.store.banks ++ rest) sound.small) banks

-- ---- of an old image that was read

sound_from : (old : List ℕ) (s n : ℕ) → AreWhole (map (old_view_at old) (range_with_len s n)) → AreSound (map (old_view_at old) (range_with_len s n))
sound_from old s zero whole = tt
sound_from old s (suc n) whole =
    (old_sound _ (λ a b l e. whole 0 a b l (ap Some e)), sound_from old (s + 1) n (λ i o f l there. whole (suc i) o f l there))

pub old_view_sound : (h : Header) (count : ℕ) (old : List ℕ) → IsOld h count old → IsSoundView (view_in h count old)
old_view_sound h count old is = record {
  banks = sound_from old 1 h.banks is.whole.whole;
  many = old_length h.banks old;
  from = is.from;
  to = omega (arith, is.to);
  small = is.small;
}

pub view_whole : (v : View) → IsSoundView v → IsImageOf (image_size v.store.header.banks) (image_of v)
view_whole v sound = record { some = omega arith; size = image_length v sound.banks sound.many; marked = image_first v }

-- a bank of the image is that of the old one
pub old_bank_range : (h : Header) (count : ℕ) (old : List ℕ) (m : ℕ) (view : BankView) (bytes : List ℕ) → IsOld h count old → 1 ≤ m → m ≤ h.banks → view ≡ old_view_at old m → bytes ≡ bank_bytes view
    → bytes ≡ slice_range (image_of (view_in h count old)) (place_of m) (place_of m + BANK_SIZE)
old_bank_range h count old m view bytes is low high seen are =
    let v = view_in h count old in
    let sound = old_view_sound h count old is in
    let k : ℕ = m - 1 in
    let next : m ≡ k + 1 = omega arith in
    let there : slice_index_or v.store.banks k Void ≡ old_view_at old m = get_or-map-range_with_len (old_view_at old) 1 h.banks k m Void (omega arith) (omega arith) in
    let range = bank_range v [] m k sound.banks (omega (arith, sound.many)) next in
    are ∙ ap bank_bytes (seen ∙ sym there) ∙ sym range ∙ ap (λ (xs : List ℕ). slice_range xs (place_of m) (place_of m + BANK_SIZE)) (append-nil (image_of v))
