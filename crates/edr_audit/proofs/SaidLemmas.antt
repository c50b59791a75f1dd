-- What an image in memory says, by its first bytes and its banks.
use Rattle.std.proofs.Common.{◌≡◌, refl, sym, ap, ◌∙◌, arith, ℕ, zero, suc, ◌<◌, ◌≤◌, [], ◌∷◌, true, false, nat_lt, Some, None, List, length, take, slice_index}
use Rattle.std.proofs.lemmas.Bool.Decides.{nat_tests}
use Rattle.edr_image.specs.declared.BankView.{BankView}
use Rattle.edr_image.specs.declared.Header.{Header}
use Rattle.edr_image.specs.declared.HeaderRefused.{HeaderRefused}
use Rattle.edr_image.specs.declared.OpenFault.{OpenFault}
use Rattle.edr_image.specs.declared.OpenFault.TheVariants as open_fault
use Rattle.edr_image.specs.Image.{banks_of, count_of, header_of, header_refusal, image_refusal, image_size, view_of, view_by}
use Rattle.edr_banks.specs.Opening.{refusal_by}
use Rattle.edr_banks.proofs.HeaderByteLemmas.{IsFront, refused_by_first, refused_short, view_read}

says_nothing : (bytes : List ℕ) (e : OpenFault) → image_refusal bytes ≡ Some e → None ≡ view_of bytes
unfolding view_by
says_nothing bytes e refused = rw refused refl

pub said_short : (bytes : List ℕ) → length bytes < 96 → None ≡ view_of bytes
said_short bytes short = says_nothing bytes (open_fault.Short (length bytes) 96) (refused_short bytes short)

pub index_take : (n : ℕ) (xs : List ℕ) (k : ℕ) → k < n → slice_index (take n xs) k ≡ slice_index xs k
index_take zero xs k below = absurd (omega (arith, below))
index_take (suc n) [] k below = refl
index_take (suc n) (x ∷ xs) zero below = refl
index_take (suc n) (x ∷ xs) (suc k) below = index_take n xs k (omega (arith, below))

front_is : (first bytes : List ℕ) → first ≡ take 96 bytes → IsFront first bytes
front_is first bytes e = λ k below. ap (λ xs. slice_index xs k) e ∙ index_take 96 bytes k below

pub said_refused : (first bytes : List ℕ) (e : HeaderRefused) → first ≡ take 96 bytes → 96 ≤ length bytes → header_refusal first ≡ Some e → None ≡ view_of bytes
unfolding refusal_by
said_refused first bytes e is long refused =
    says_nothing bytes (open_fault.Header e) (refused_by_first first bytes (length bytes) (front_is first bytes is) long refl ∙ rw refused refl)

pub said_too_short : (first bytes : List ℕ) (h : Header) → first ≡ take 96 bytes → 96 ≤ length bytes → header_refusal first ≡ None → h ≡ header_of first → length bytes < image_size h.banks → None ≡ view_of bytes
unfolding refusal_by
said_too_short first bytes h is long accepted header short =
    let number : h.banks ≡ slice_index first 10 = ap (λ (x : Header). x.banks) header in
    let test : nat_lt (length bytes) (image_size (slice_index first 10)) ≡ true = let s = short in grind (arith, nat_tests, s, number) in
    says_nothing bytes (open_fault.Short (length bytes) (image_size (slice_index first 10))) (refused_by_first first bytes (length bytes) (front_is first bytes is) long refl ∙ rw (accepted, test) refl)

pub said_whole : (first bytes : List ℕ) (h : Header) (banks : List BankView) (count : ℕ) → first ≡ take 96 bytes → 96 ≤ length bytes → header_refusal first ≡ None → h ≡ header_of first → image_size h.banks ≤ length bytes
    → banks ≡ banks_of h.banks bytes → count ≡ count_of first → Some (record { store = record { header = h; banks = banks }; count = count }) ≡ view_of bytes
unfolding refusal_by
said_whole first bytes h banks count is long accepted header fits banks_are count_is =
    let number : h.banks ≡ slice_index first 10 = ap (λ (x : Header). x.banks) header in
    let test : nat_lt (length bytes) (image_size (slice_index first 10)) ≡ false = let s = fits in grind (arith, nat_tests, s, number) in
    let none : refusal_by first (length bytes) ≡ None = rw (accepted, test) refl in
    sym (view_read first bytes (length bytes) h banks count (front_is first bytes is) long refl none header banks_are count_is)
