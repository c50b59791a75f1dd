-- What an image says stands in its first 16,480 bytes.
use Rattle.std.proofs.Common.{◌≡◌, refl, sym, ap, ◌∙◌, arith, ℕ, zero, suc, ◌+◌, ◌-◌, ◌≤◌, Bool, true, false, nat_lt, nat_le, Option, Some, None, List, [], ◌∷◌, length, take, drop, slice_index}
use Rattle.std.specs.Prelude.{map, slice_range}
use Rattle.std.specs.List.{range_with_len}
use Rattle.std.proofs.lemmas.Bool.Decides.{nat_tests}
use Rattle.std.proofs.lemmas.List.{length-take}
use Rattle.edr_image.specs.declared.BankView.{BankView}
use Rattle.edr_image.specs.declared.HeaderRefused.{HeaderRefused}
use Rattle.edr_image.specs.declared.OpenFault.{OpenFault}
use Rattle.edr_image.specs.declared.OpenFault.TheVariants as open_fault
use Rattle.edr_image.specs.declared.forms.TheConstants.{VERSION_2}
use Rattle.edr_image.specs.Image.{bank_view, banks_of, count_of, header_of, header_refusal, image_refusal, image_size, place_of, view_of, view_by}
use Rattle.edr_banks.specs.Opening.{refusal_by}
use Rattle.edr_banks.proofs.HeaderByteLemmas.{IsFront, header_within, refused_by_first, view_read}
use Rattle.edr_audit.proofs.EventLemmas.{take_past}
use Rattle.edr_audit.proofs.SaidLemmas.{index_take}

-- ---- bytes that both have

drop_take : (a n : ℕ) (xs : List ℕ) → drop a (take (a + n) xs) ≡ take n (drop a xs)
drop_take zero n xs = ap (λ (k : ℕ). take k xs) (omega arith)
drop_take (suc a) n [] = ap (drop (suc a)) (none (suc a + n)) ∙ sym (none n) where
  none : (m : ℕ) → take m (let empty : List ℕ = [] in empty) ≡ []
  none zero = refl
  none (suc m) = refl
drop_take (suc a) n (x ∷ xs) =
    let e : suc a + n ≡ suc (a + n) = omega arith in
    ap (λ (k : ℕ). drop (suc a) (take k (x ∷ xs))) e ∙ drop_take a n xs

take_less : (m n : ℕ) (xs : List ℕ) → m ≤ n → take m (take n xs) ≡ take m xs
take_less zero n xs le = refl
take_less (suc m) zero xs le = absurd (omega (arith, le))
take_less (suc m) (suc n) [] le = refl
take_less (suc m) (suc n) (x ∷ xs) le = ap (λ ys. x ∷ ys) (take_less m n xs (omega (arith, le)))

range_less : (n a b : ℕ) (xs : List ℕ) → a ≤ b → b ≤ n → slice_range (take n xs) a b ≡ slice_range xs a b
range_less n a b xs from to =
    let whole : a + (b - a) ≡ b = omega (arith, from) in
    sym (drop_take a (b - a) (take n xs))
    ∙ ap (λ (k : ℕ). drop a (take k (take n xs))) whole
    ∙ ap (drop a) (take_less b n xs to)
    ∙ ap (λ (k : ℕ). drop a (take k xs)) (sym whole)
    ∙ drop_take a (b - a) xs

banks_less : (n k : ℕ) (m : ℕ) (xs : List ℕ) → 1 ≤ k → image_size (k + m - 1) ≤ n
    → map (λ m. bank_view (slice_range (take n xs) (place_of m) (place_of m + 1024))) (range_with_len k m) ≡ map (λ m. bank_view (slice_range xs (place_of m) (place_of m + 1024))) (range_with_len k m)
banks_less n k zero xs from to = refl
banks_less n k (suc m) xs from to =
    let here : slice_range (take n xs) (place_of k) (place_of k + 1024) ≡ slice_range xs (place_of k) (place_of k + 1024) = range_less n (place_of k) (place_of k + 1024) xs (omega arith) (omega (arith, from, to)) in
    ap (λ (b : List ℕ). bank_view b ∷ map (λ m. bank_view (slice_range (take n xs) (place_of m) (place_of m + 1024))) (range_with_len (k + 1) m)) here
    ∙ ap (λ (bs : List BankView). bank_view (slice_range xs (place_of k) (place_of k + 1024)) ∷ bs) (banks_less n (k + 1) m xs (omega arith) (omega (arith, to)))

-- ---- the view

refused_view : (bytes : List ℕ) (e : OpenFault) → image_refusal bytes ≡ Some e → view_of bytes ≡ None
unfolding view_by
refused_view bytes e refused = rw refused refl

long_view : (n : ℕ) (bytes : List ℕ) → n ≡ 16480 → n ≤ length bytes → view_of (take n bytes) ≡ view_of bytes
unfolding refusal_by
long_view n bytes is long = by_header (header_refusal (take n bytes)) refl where
  t : List ℕ
  t = take n bytes

  size : length t ≡ n
  size = let e = length-take n bytes in omega (arith, e, long)

  own : IsFront t t
  own k below = refl

  front : IsFront t bytes
  front k below = index_take n bytes k (omega (arith, below, is))

  short_t : image_refusal t ≡ refusal_by t n
  short_t = refused_by_first t t n own (omega (arith, is)) size

  short_all : image_refusal bytes ≡ refusal_by t (length bytes)
  short_all = refused_by_first t bytes (length bytes) front (omega (arith, is, long)) refl

  by_header : (r : Option HeaderRefused) → header_refusal t ≡ r → view_of t ≡ view_of bytes
  by_header (Some h) e = refused_view t (open_fault.Header h) (short_t ∙ rw e refl) ∙ sym (refused_view bytes (open_fault.Header h) (short_all ∙ rw e refl))
  by_header None e =
      let within : slice_index t 10 ≤ 16 = (header_within VERSION_2 t (header_of t) e refl).1 in
      let fits : nat_lt n (image_size (slice_index t 10)) ≡ false = grind (arith, nat_tests, within, is) in
      let fits_all : nat_lt (length bytes) (image_size (slice_index t 10)) ≡ false = grind (arith, nat_tests, within, is, long) in
      let none : refusal_by t n ≡ None = rw (e, fits) refl in
      let none_all : refusal_by t (length bytes) ≡ None = rw (e, fits_all) refl in
      let banks : banks_of (slice_index t 10) t ≡ banks_of (slice_index t 10) bytes = banks_less n 1 (slice_index t 10) bytes (omega arith) (omega (arith, within, is)) in
      view_read t t n (header_of t) (banks_of (slice_index t 10) bytes) (count_of t) own (omega (arith, is)) size none refl (sym banks) refl
      ∙ sym (view_read t bytes (length bytes) (header_of t) (banks_of (slice_index t 10) bytes) (count_of t) front (omega (arith, is, long)) refl none_all refl refl refl)

pub first-bytes : (bytes : List ℕ) → view_of (take 16480 bytes) ≡ view_of bytes
first-bytes bytes = by_test (nat_le 16480 (length bytes)) refl where
  by_test : (b : Bool) → nat_le 16480 (length bytes) ≡ b → view_of (take 16480 bytes) ≡ view_of bytes
  by_test true long = long_view 16480 bytes refl (grind (arith, nat_tests, long))
  by_test false short = ap view_of (take_past bytes 16480 (grind (arith, nat_tests, short)))
