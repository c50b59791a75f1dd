-- What a new image says.
use Rattle.std.proofs.Common.{◌≡◌, ◌⊎◌, ◌≤◌, ◌<◌, ◌+◌, ◌-◌, ◌++◌, ◌||◌, ◌∙◌, ℕ, zero, suc, false, List, length, map, drop, length-append, inl, inr, ⊎_elim, replicate, slice_index, nat_eq, Some, None, Result, Ok, Err, OnOk, refl, sym, ap, subst, arith}
use Rattle.std.specs.Prelude.{cond, nat_lt, slice_range}
use Rattle.std.specs.List.{range_with_len}
use Rattle.std.proofs.lemmas.Grind.{common_steps}
use Rattle.std.proofs.lemmas.Bool.Decides.{nat_tests}
use Rattle.edr_image.specs.declared.Choice.{Choice}
use Rattle.edr_image.specs.declared.Choice.TheVariants.{Keep, Overwrite}
use Rattle.edr_image.specs.declared.Header.{Header}
use Rattle.edr_image.specs.declared.BankView.{BankView}
use Rattle.edr_image.specs.declared.BankView.TheVariants.{Void}
use Rattle.edr_image.specs.declared.places.TheConstants.{BANK_SIZE, FEWEST_BANKS, MOST_BANKS}
use Rattle.edr_image.specs.Image.{View, bank_view, choice_byte, count_of, header_of, header_refusal, image_refusal, image_size, new_image, place_of, view_of, bank_view_by, header_refusal_by, image_refusal_by, view_by}
use Rattle.edr_banks.specs.Formatting.{IsNew, IsPartlyFormatted, formatted_image, new_view}
use Rattle.edr_banks.proofs.NewImageLemmas.{new_image_size, zeros_behind}
use Rattle.edr_layout.proofs.NewFrontLemmas.{front, new_image_is}
use Rattle.edr_banks.proofs.LaidPieceLemmas.{over_size, over_there}
use Rattle.edr_banks.specs.Laying.{IsLaidOver, IsPartlyOver, LacksMagic, over}

few_banks : (n : ℕ) → FEWEST_BANKS ≤ n → n ≤ MOST_BANKS → (nat_lt n FEWEST_BANKS || nat_lt MOST_BANKS n) ≡ false
few_banks n low high = grind (arith, nat_tests)

a_choice : (c : Choice) → nat_lt 1 (choice_byte c) ≡ false
a_choice Keep = refl
a_choice Overwrite = refl

pub header_stands : (h : Header) (rest : List ℕ) → FEWEST_BANKS ≤ h.banks → h.banks ≤ MOST_BANKS → header_refusal (front h ++ rest) ≡ None
unfolding header_refusal_by
header_stands h rest low high = rw (few_banks h.banks low high, a_choice h.choice) refl

header_of_choice : (n : ℕ) (c : Choice) → (let h : Header = record { banks = n; choice = cond (nat_eq (choice_byte c) 0) Keep Overwrite } in h) ≡ record { banks = n; choice = c }
header_of_choice n Keep = refl
header_of_choice n Overwrite = refl

pub header_is : (h : Header) (rest : List ℕ) → header_of (front h ++ rest) ≡ h
header_is h rest = header_of_choice h.banks h.choice

-- closed slots count 0
none_counted : (bytes : List ℕ) → slice_index bytes 32 ≡ 0 → slice_index bytes 64 ≡ 0 → count_of bytes ≡ 0
unfolding count_of
none_counted bytes first second = rw (first, second) refl

first_of_range : (bytes : List ℕ) (at : ℕ) → slice_index (slice_range bytes at (at + BANK_SIZE)) 0 ≡ slice_index bytes at
first_of_range bytes at = grind (arith, common_steps)

void_there : (bytes : List ℕ) (at : ℕ) → slice_index bytes at ≡ 0 → bank_view (slice_range bytes at (at + BANK_SIZE)) ≡ Void
unfolding bank_view_by
void_there bytes at closed = rw (first_of_range bytes at ∙ closed) refl

all_void : (view : ℕ → BankView) (s n : ℕ) → ((m : ℕ) → s ≤ m → m < s + n → view m ≡ Void) → map view (range_with_len s n) ≡ replicate n Void
all_void view s zero h = refl
all_void view s (suc n) h =
    let here = h s (omega arith) (omega arith) in
    let rest = all_void view (s + 1) n (λ m low high. h m (omega arith) (omega arith)) in cc

-- after the choice all is 0 up to the end of the image
abbrev IsZero : Header → List ℕ → Type 0
IsZero h bytes = (i : ℕ) → 12 ≤ i → i < image_size h.banks → slice_index bytes i ≡ 0

banks_void : (h : Header) (bytes : List ℕ) → IsZero h bytes → map (λ m. bank_view (slice_range bytes (place_of m) (place_of m + BANK_SIZE))) (range_with_len 1 h.banks) ≡ replicate h.banks Void
banks_void h bytes new =
    all_void (λ m. bank_view (slice_range bytes (place_of m) (place_of m + BANK_SIZE))) 1 h.banks (λ m low high. void_there bytes (place_of m) (new (place_of m) (omega arith) (omega arith)))

pub not_refused : (h : Header) (rest : List ℕ) → FEWEST_BANKS ≤ h.banks → h.banks ≤ MOST_BANKS → image_size h.banks ≤ length (front h ++ rest) → image_refusal (front h ++ rest) ≡ None
unfolding image_refusal_by
not_refused h rest low high long =
    let first : nat_lt (length (front h ++ rest)) 96 ≡ false = at_least (length (front h ++ rest)) 96 (omega arith) in
    rw (first, header_stands h rest low high, at_least (length (front h ++ rest)) (image_size h.banks) long) refl
  where
    at_least : (a b : ℕ) → b ≤ a → nat_lt a b ≡ false
    at_least a b h = grind (arith, nat_tests)

pub same_view : (a b : Header) (xs ys : List BankView) (m n : ℕ) → a ≡ b → xs ≡ ys → m ≡ n → (let v : View = record { store = record { header = a; banks = xs }; count = m } in Some v) ≡ Some (record { store = record { header = b; banks = ys }; count = n })
same_view a b xs ys m n p q r = cc

view_is : (h : Header) (rest : List ℕ) → FEWEST_BANKS ≤ h.banks → h.banks ≤ MOST_BANKS → image_size h.banks ≤ length (front h ++ rest) → IsZero h (front h ++ rest) → view_of (front h ++ rest) ≡ Some (new_view h)
unfolding view_by
view_is h rest low high long new =
    let bytes = front h ++ rest in
    let count = none_counted bytes (new 32 (omega arith) (omega arith)) (new 64 (omega arith) (omega arith)) in
    let banks = banks_void h bytes new in
    rw (not_refused h rest low high long) (same_view (header_of bytes) h _ (replicate h.banks Void) (count_of bytes) 0 (header_is h rest) banks count)

-- a formatted image has void banks, and its count is 0
formatted-view : (h : Header) (bytes : List ℕ) → FEWEST_BANKS ≤ h.banks → h.banks ≤ MOST_BANKS → image_size h.banks ≤ length bytes → view_of (formatted_image h bytes) ≡ Some (new_view h)
formatted-view h bytes low high wide =
    let rest = replicate (image_size h.banks - 12) 0 ++ drop (image_size h.banks) bytes in
    let is : formatted_image h bytes ≡ front h ++ rest = ap (λ (xs : List ℕ). xs ++ drop (image_size h.banks) bytes) (new_image_is h) in
    let long : image_size h.banks ≤ length (front h ++ rest) = subst (λ (xs : List ℕ). image_size h.banks ≤ length xs) is (omega (arith, over_size (image_size h.banks) (new_image h) bytes (new_image_size h) wide)) in
    let new : IsZero h (front h ++ rest) = λ i from to. ap (λ (xs : List ℕ). slice_index xs i) (sym is) ∙ over_there (image_size h.banks) (new_image h) bytes i (new_image_size h) wide to ∙ zeros_behind h i from in
    ap view_of is ∙ view_is h rest low high long new

pub formatted_new : (h : Header) (bytes image : List ℕ) → FEWEST_BANKS ≤ h.banks → h.banks ≤ MOST_BANKS → image_size h.banks ≤ length bytes → image ≡ formatted_image h bytes → IsNew h bytes image
formatted_new h bytes image low high wide same = record { same = same; view = ap view_of same ∙ formatted-view h bytes low high wide }

-- what is laid is as long as what it is laid over, so the image has room
laid_wide : (full : ℕ) (target bytes image : List ℕ) → length target ≡ full → image ≡ over full target bytes → length image ≡ length bytes → full ≤ length bytes
laid_wide full target bytes image long is size =
    let sum : length image ≡ full + (length bytes - full) = ap length is ∙ length-append target (drop full bytes) ∙ grind (arith, common_steps) in omega arith

-- what a laying of a new image may leave, formatting may leave
pub formatted_part : (h : Header) (bytes image : List ℕ) → FEWEST_BANKS ≤ h.banks → h.banks ≤ MOST_BANKS → IsPartlyOver (image_size h.banks) (new_image h) bytes image → IsPartlyFormatted h bytes image
formatted_part h bytes image low high part = record {
  size = part.size;
  past = part.past;
  says = ⊎_elim
      (λ (same : image ≡ bytes). inl same)
      (λ (other : LacksMagic image ⊎ IsLaidOver (image_size h.banks) (new_image h) bytes image). inr (⊎_elim
      (λ (none : LacksMagic image). inl none)
      (λ (new : IsLaidOver (image_size h.banks) (new_image h) bytes image). inr (formatted_new h bytes image low high (laid_wide (image_size h.banks) (new_image h) bytes image (new_image_size h) new part.size) new))
      other))
      part.says;
}

-- two facts of what was done, in one
pub room_done : {T E P Q R : Type 0} (r : Result T E) → OnOk r P → OnOk r Q → (P → Q → R) → OnOk r R
room_done (Ok x) p q f = f p q
room_done (Err e) p q f = tt
