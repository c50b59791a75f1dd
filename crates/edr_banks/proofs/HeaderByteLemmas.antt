-- What an image says by its first 96 bytes.
use Rattle.std.proofs.Common.{◌≡◌, ◌≤◌, ◌<◌, ◌+◌, ◌||◌, ◌∙◌, ℕ, zero, suc, Bool, true, false, cond, not, List, [], ◌∷◌, ◌++◌, length, slice_index, nat_eq, Option, Some, None, refl, sym, ap, arith}
use Rattle.std.specs.Prelude.{find, nat_lt, option_map, slice_range}
use Rattle.std.specs.List.{range_with_len}
use Rattle.std.specs.Option.{option_or}
use Rattle.std.proofs.lemmas.Bool.Decides.{nat_tests}
use Rattle.std.proofs.lemmas.List.FromFn.{map-range_with_len_more}
use Rattle.edr_device.specs.Device.{Stays}
use Rattle.edr_image.specs.declared.Header.{Header}
use Rattle.edr_image.specs.declared.forms.Layout.{Layout}
use Rattle.edr_image.specs.declared.forms.TheConstants.{VERSION_2}
use Rattle.edr_image.specs.declared.HeaderRefused.TheVariants as refused
use Rattle.edr_image.specs.declared.OpenFault.TheVariants as open_fault
use Rattle.edr_image.specs.declared.BankView.{BankView}
use Rattle.edr_image.specs.declared.places.TheConstants.{FEWEST_BANKS}
use Rattle.edr_image.specs.PartBytes.{number_at}
use Rattle.edr_image.specs.Image.{View, bank_view, banks_of, count_of, header_of, image_refusal, magic, not_magic, place_of, slot_count, store_of, view_of, header_refusal_by, image_refusal_by, view_by}
use Rattle.edr_gates.proofs.MatchingLemmas.{Match, match_at}
use Rattle.edr_banks.specs.Opening.{refusal_by}
use Rattle.edr_banks.proofs.FirstByteLemmas.{magic_same}

-- ---- the first bytes of an image

-- the piece has its first 96 bytes
abbrev pub IsFront : List ℕ → List ℕ → Type 0
IsFront first bytes = (k : ℕ) → k < 96 → slice_index first k ≡ slice_index bytes k

find_within : (f : ℕ → Bool) (s n k : ℕ) → find f (range_with_len s n) ≡ Some k → k < s + n
find_within f s zero k e = absurd cc
find_within f s (suc n) k e = by_test (f s) (λ later. omega (arith, find_within f (s + 1) n k later)) e where
  by_test : (t : Bool) → (find f (range_with_len (s + 1) n) ≡ Some k → k < s + suc n) → cond t (Some s) (find f (range_with_len (s + 1) n)) ≡ Some k → k < s + suc n
  by_test true later e = let same : s ≡ k = cc in omega (arith, same)
  by_test false later e = later e

found_same : {X : Type 0} (f g : ℕ → X) (o : Option ℕ) → ((k : ℕ) → o ≡ Some k → f k ≡ g k) → option_map f o ≡ option_map g o
found_same f g None h = refl
found_same f g (Some k) h = ap Some (h k refl)

refused_magic : (first bytes : List ℕ) → IsFront first bytes → option_map (λ k. refused.NotFormatted k (slice_index first k)) (not_magic first) ≡ option_map (λ k. refused.NotFormatted k (slice_index bytes k)) (not_magic bytes)
refused_magic first bytes front =
    let same : not_magic first ≡ not_magic bytes = magic_same first bytes (λ k below. front k (omega arith)) in
    found_same (λ k. refused.NotFormatted k (slice_index first k)) (λ k. refused.NotFormatted k (slice_index bytes k)) (not_magic first)
    (λ k e. let below : k < 0 + 8 = find_within (λ k. not (nat_eq (slice_index first k) (slice_index magic k))) 0 8 k e in ap (λ (b : ℕ). refused.NotFormatted k b) (front k (omega arith)))
    ∙ ap (λ (o : Option ℕ). option_map (λ k. refused.NotFormatted k (slice_index bytes k)) o) same

front_match : (first bytes : List ℕ) → IsFront first bytes → Match first 0 bytes 0 96
front_match first bytes front = record { same = λ j below. let zero_on : 0 + j ≡ j = omega arith in rw zero_on (front j below) }

number_same : (first bytes : List ℕ) (at n : ℕ) → IsFront first bytes → at + n ≤ 96 → number_at first at n ≡ number_at bytes at n
number_same first bytes at n front fits =
    let zero_on : 0 + at ≡ at = omega arith in rw zero_on at (match_at first 0 bytes 0 96 at n (front_match first bytes front) (omega arith))

pub header_same : (layout : Layout) (first bytes : List ℕ) → IsFront first bytes → header_refusal_by layout first ≡ header_refusal_by layout bytes
unfolding header_refusal_by
header_same layout first bytes front =
    let banks = front 10 (omega arith) in
    let choice = front 11 (omega arith) in
    rw (refused_magic first bytes front, number_same first bytes 8 2 front (omega arith), banks, choice) refl

pub header_of_same : (first bytes : List ℕ) → IsFront first bytes → header_of first ≡ header_of bytes
header_of_same first bytes front = let banks = front 10 (omega arith) in let choice = front 11 (omega arith) in rw (banks, choice) refl

slot_same : (first bytes : List ℕ) (at : ℕ) → IsFront first bytes → at + 8 ≤ 96 → slot_count first at ≡ slot_count bytes at
slot_same first bytes at front fits = let gate = front at (omega arith) in rw (gate, number_same first bytes (at + 4) 4 front (omega arith)) refl

pub count_same : (first bytes : List ℕ) → IsFront first bytes → count_of first ≡ count_of bytes
unfolding count_of
count_same first bytes front = rw (slot_same first bytes 32 front (omega arith), slot_same first bytes 64 front (omega arith)) refl

-- ---- why an image is refused

short_or_not : (a b : ℕ) → a < b → nat_lt a b ≡ true
short_or_not a b h = grind (arith, nat_tests)

long_or_not : (a b : ℕ) → b ≤ a → nat_lt a b ≡ false
long_or_not a b h = grind (arith, nat_tests)

pub refused_short : (bytes : List ℕ) → length bytes < 96 → image_refusal bytes ≡ Some (open_fault.Short (length bytes) 96)
unfolding image_refusal_by
refused_short bytes short = rw (short_or_not (length bytes) 96 short) refl

pub refused_by_first : (first bytes : List ℕ) (size : ℕ) → IsFront first bytes → 96 ≤ size → length bytes ≡ size → image_refusal bytes ≡ refusal_by first size
unfolding image_refusal_by refusal_by
refused_by_first first bytes size front long is =
    let banks = front 10 (omega arith) in
    let some_left : 96 ≤ length bytes = omega arith in
    rw (long_or_not (length bytes) 96 some_left, header_same VERSION_2 first bytes front, banks, is) refl

-- ---- what an image says

read_as : (bytes : List ℕ) → image_refusal bytes ≡ None → view_of bytes ≡ Some (record { store = store_of bytes; count = count_of bytes })
unfolding view_by
read_as bytes none = rw none refl

same_view : (a b : Header) (xs ys : List BankView) (m n : ℕ) → a ≡ b → xs ≡ ys → m ≡ n → (let v : View = record { store = record { header = a; banks = xs }; count = m } in Some v) ≡ Some (record { store = record { header = b; banks = ys }; count = n })
same_view a b xs ys m n p q r = cc

-- the view of an image whose first bytes and banks were read
pub view_read : (first bytes : List ℕ) (size : ℕ) (h : Header) (banks : List BankView) (count : ℕ) → IsFront first bytes → 96 ≤ size → length bytes ≡ size → refusal_by first size ≡ None → h ≡ header_of first
    → banks ≡ banks_of h.banks bytes → count ≡ count_of first → view_of bytes ≡ Some (record { store = record { header = h; banks = banks }; count = count })
view_read first bytes size h banks count front long is none header banks_are count_is =
    let accepted : image_refusal bytes ≡ None = refused_by_first first bytes size front long is ∙ none in
    let said : h ≡ header_of bytes = header ∙ header_of_same first bytes front in
    let number : h.banks ≡ slice_index bytes 10 = ap (λ (x : Header). x.banks) said in
    let there : banks ≡ banks_of (slice_index bytes 10) bytes = banks_are ∙ ap (λ (n : ℕ). banks_of n bytes) number in
    read_as bytes accepted ∙ same_view (header_of bytes) h (banks_of (slice_index bytes 10) bytes) banks (count_of bytes) count (sym said) (sym there) (sym (count_is ∙ count_same first bytes front))

accepted_banks : {X : Type 0} (o : Option X) (version banks choice : Bool) (x y z : X) → option_or o (cond version (Some x) (cond banks (Some y) (cond choice (Some z) None))) ≡ None → banks ≡ false
accepted_banks None true banks choice x y z e = absurd cc
accepted_banks None false true choice x y z e = absurd cc
accepted_banks None false false choice x y z e = refl
accepted_banks (Some w) version banks choice x y z e = absurd cc

between : (n most : ℕ) → (nat_lt n FEWEST_BANKS || nat_lt most n) ≡ false → (FEWEST_BANKS ≤ n) × (n ≤ most)
between n most e = (grind (arith, nat_tests), grind (arith, nat_tests))

first_none : {X Y : Type 0} (f : X → Y) (o : Option X) (p : Option Y) → option_or (option_map f o) p ≡ None → o ≡ None
first_none f None p e = refl
first_none f (Some x) p e = absurd cc

-- a header that isn't refused has as many banks as an image of its layout may have
accepted_within : (layout : Layout) (first : List ℕ) → header_refusal_by layout first ≡ None → (FEWEST_BANKS ≤ slice_index first 10) × (slice_index first 10 ≤ layout.most_banks)
unfolding header_refusal_by
accepted_within layout first none = between (slice_index first 10) layout.most_banks (accepted_banks _ _ _ _ _ _ _ none)

pub header_within : (layout : Layout) (first : List ℕ) (h : Header) → header_refusal_by layout first ≡ None → h ≡ header_of first → (FEWEST_BANKS ≤ h.banks) × (h.banks ≤ layout.most_banks)
header_within layout first h none is = let number : h.banks ≡ slice_index first 10 = ap (λ (x : Header). x.banks) is in rw number (accepted_within layout first none)

-- ---- banks that were read one after the other

pub banks_more : (k : ℕ) (bytes : List ℕ) (old new : List BankView) (view : BankView) → old ≡ banks_of k bytes → view ≡ bank_view (slice_range bytes (place_of (k + 1)) (place_of (k + 1) + 1024)) → new ≡ old ++ view ∷ [] → new ≡ banks_of (k + 1) bytes
banks_more k bytes old new view were is put =
    let f : ℕ → BankView = λ m. bank_view (slice_range bytes (place_of m) (place_of m + 1024)) in
    put ∙ ap (λ (xs : List BankView). xs ++ view ∷ []) were ∙ ap (λ (x : BankView). banks_of k bytes ++ x ∷ []) is ∙ sym (map-range_with_len_more f 1 k (k + 1) (omega arith))

-- two runs that change nothing
pub stays_again : (c0 c1 c2 : Option (List ℕ)) (s0 s1 s2 : ℕ → Bool) (p0 p1 p2 : ℕ → List ℕ → Type 0) → Stays c0 s0 p0 c1 s1 p1 → Stays c1 s1 p1 c2 s2 p2 → Stays c0 s0 p0 c2 s2 p2
stays_again c0 c1 c2 s0 s1 s2 p0 p1 p2 first second = record {
  same_content = second.same_content ∙ first.same_content;
  same_settled = λ i. second.same_settled i ∙ first.same_settled i;
  nothing_else = λ t image left. first.nothing_else t image (second.nothing_else t image left);
  past_stays = λ t image left. second.past_stays t image (first.past_stays t image left);
}
