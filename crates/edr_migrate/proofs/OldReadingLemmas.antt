-- What an image of version 1 says, and why it is refused.
use Rattle.std.proofs.Common.{◌≡◌, ◌≤◌, ◌<◌, ◌^◌, ◌∙◌, ℕ, Bool, true, false, cond, List, length, take, slice_index, Option, Some, None, refl, sym, ap, subst, arith}
use Rattle.std.specs.Prelude.{is_none, nat_lt, option_map}
use Rattle.std.specs.Option.{option_or}
use Rattle.std.proofs.lemmas.Bool.Decides.{nat_tests}
use Rattle.std.proofs.lemmas.List.{get_or-take}
use Rattle.edr_image.specs.declared.Header.{Header}
use Rattle.edr_image.specs.declared.HeaderRefused.{HeaderRefused}
use Rattle.edr_image.specs.declared.OldRefused.{OldRefused}
use Rattle.edr_image.specs.declared.OldRefused.TheVariants as old_refused
use Rattle.edr_image.specs.declared.OpenFault.{OpenFault}
use Rattle.edr_image.specs.declared.OpenFault.TheVariants as open_fault
use Rattle.edr_image.specs.declared.forms.TheConstants.{VERSION_1}
use Rattle.edr_image.specs.Image.{View, count_of, header_of, image_refusal_by, old_banks_of, old_banks_refusal, old_header_refusal, old_image_size, old_refusal, old_view_of, view_by}
use Rattle.edr_migrate.specs.Migrated.{IsWhole}
use Rattle.edr_migrate.specs.OldImage.{IsOld, view_in}
use Rattle.edr_banks.proofs.HeaderByteLemmas.{IsFront, count_same, header_of_same, header_same, header_within}
use Rattle.edr_migrate.proofs.OldBankLemmas.{none_damaged, none_refused}

short_is : (a b : ℕ) → a < b → nat_lt a b ≡ true
short_is a b h = grind (arith, nat_tests)

long_is : (a b : ℕ) → b ≤ a → nat_lt a b ≡ false
long_is a b h = grind (arith, nat_tests)

-- ---- refusals, in their order

pub refused_short : (old : List ℕ) → length old < 96 → old_refusal old ≡ Some (old_refused.Short (length old) 96)
unfolding old_refusal
refused_short old short = rw (short_is (length old) 96 short) refl

pub refused_header : (old : List ℕ) (h : HeaderRefused) → 96 ≤ length old → old_header_refusal old ≡ Some h → old_refusal old ≡ Some (old_refused.Header h)
unfolding old_refusal
refused_header old h long is = rw (long_is (length old) 96 long, is) refl

pub refused_size : (old : List ℕ) (needed : ℕ) → 96 ≤ length old → old_header_refusal old ≡ None → needed ≡ old_image_size (slice_index old 10) → length old < needed → old_refusal old ≡ Some (old_refused.Short (length old) needed)
unfolding old_refusal
refused_size old needed long none is short =
    let less : length old < old_image_size (slice_index old 10) = omega (arith, is) in
    rw (long_is (length old) 96 long, none, short_is (length old) (old_image_size (slice_index old 10)) less, is) refl

pub refused_banks : (old : List ℕ) → 96 ≤ length old → old_header_refusal old ≡ None → old_image_size (slice_index old 10) ≤ length old → old_refusal old ≡ old_banks_refusal 1 (old_banks_of (slice_index old 10) old)
unfolding old_refusal
refused_banks old long none fits = rw (long_is (length old) 96 long, none, long_is (length old) (old_image_size (slice_index old 10)) fits) refl

-- ---- what it says

passed : (old : List ℕ) → 96 ≤ length old → old_header_refusal old ≡ None → old_image_size (slice_index old 10) ≤ length old → image_refusal_by VERSION_1 old ≡ None
unfolding image_refusal_by
passed old long none fits = rw (long_is (length old) 96 long, none, long_is (length old) (old_image_size (slice_index old 10)) fits) refl

pub says : (old : List ℕ) → 96 ≤ length old → old_header_refusal old ≡ None → old_image_size (slice_index old 10) ≤ length old → old_view_of old ≡ Some (view_in (header_of old) (count_of old) old)
unfolding view_by
says old long none fits = rw (passed old long none fits) refl

-- ---- an image that says something

cond_some : {X : Type 0} (o : Option OpenFault) (x v : X) → cond (is_none o) (Some x) None ≡ Some v → (o ≡ None) × (x ≡ v)
cond_some None x v e = (refl, cc)
cond_some (Some f) x v e = absurd (let y : ⊥ = cc in y)

pub seen : (old : List ℕ) (v : View) → old_view_of old ≡ Some v → (image_refusal_by VERSION_1 old ≡ None) × (view_in (header_of old) (count_of old) old ≡ v)
unfolding view_by
seen old v is = cond_some (image_refusal_by VERSION_1 old) (view_in (header_of old) (count_of old) old) v is

no_refusal : (short again : Bool) (o : Option HeaderRefused) (a b : OpenFault) → cond short (Some a) (option_or (option_map (λ h. open_fault.Header h) o) (cond again (Some b) None)) ≡ None → (short ≡ false) × (o ≡ None) × (again ≡ false)
no_refusal true again o a b e = absurd (let y : ⊥ = cc in y)
no_refusal false again (Some h) a b e = absurd (let y : ⊥ = cc in y)
no_refusal false true None a b e = absurd (let y : ⊥ = cc in y)
no_refusal false false None a b e = (refl, refl, refl)

accepted : (old : List ℕ) → image_refusal_by VERSION_1 old ≡ None → (nat_lt (length old) 96 ≡ false) × (old_header_refusal old ≡ None) × (nat_lt (length old) (old_image_size (slice_index old 10)) ≡ false)
unfolding image_refusal_by
accepted old e = no_refusal (nat_lt (length old) 96) (nat_lt (length old) (old_image_size (slice_index old 10))) (old_header_refusal old) _ _ e

-- it is the one that was read
pub view_same : (old : List ℕ) (v w : View) → old_view_of old ≡ Some v → old_view_of old ≡ Some w → v ≡ w
view_same old v w first second = let both : Some v ≡ Some w = sym first ∙ second in cc

pub whole_passes : (old : List ℕ) (v : View) → IsWhole old v → old_refusal old ≡ None
unfolding old_refusal
whole_passes old v whole =
    let s = seen old v whole.view in
    let ok = accepted old s.0 in
    let banks = subst (λ (w : View). old_banks_refusal 1 w.store.banks ≡ None) (sym s.1) (none_refused 1 v.store.banks whole.whole) in
    rw (ok.0, ok.1, ok.2) banks

-- ---- by its front

pub front_of : (first old : List ℕ) → first ≡ take 96 old → IsFront first old
front_of first old is = λ k below. ap (λ (xs : List ℕ). slice_index xs k) is ∙ get_or-take 96 old k 0 below

accepted_too : (old first : List ℕ) → IsFront first old → old_header_refusal first ≡ None → old_header_refusal old ≡ None
accepted_too old first front none = sym (header_same VERSION_1 first old front) ∙ none

banks_too : (old first : List ℕ) (h : Header) → IsFront first old → h ≡ header_of first → h.banks ≡ slice_index old 10
banks_too old first h front is = ap (λ (x : Header). x.banks) (is ∙ header_of_same first old front)

pub refused_by_front : (old first : List ℕ) (h : HeaderRefused) → IsFront first old → 96 ≤ length old → old_header_refusal first ≡ Some h → old_refusal old ≡ Some (old_refused.Header h)
refused_by_front old first h front long is = refused_header old h long (sym (header_same VERSION_1 first old front) ∙ is)

pub refused_by_size : (old first : List ℕ) (h : Header) (needed : ℕ) → IsFront first old → 96 ≤ length old → h ≡ header_of first → old_header_refusal first ≡ None → needed ≡ old_image_size h.banks → length old < needed
    → old_refusal old ≡ Some (old_refused.Short (length old) needed)
refused_by_size old first h needed front long is none needs short =
    let banks = banks_too old first h front is in
    refused_size old needed long (accepted_too old first front none) (needs ∙ ap old_image_size banks) short

pub refused_by_bank : (old first : List ℕ) (h : Header) (refused : OldRefused) → IsFront first old → 96 ≤ length old → h ≡ header_of first → old_header_refusal first ≡ None → old_image_size h.banks ≤ length old
    → old_banks_refusal 1 (old_banks_of h.banks old) ≡ Some refused → old_refusal old ≡ Some refused
refused_by_bank old first h refused front long is none fits bank =
    let banks = banks_too old first h front is in
    refused_banks old long (accepted_too old first front none) (omega (arith, fits, banks)) ∙ ap (λ (n : ℕ). old_banks_refusal 1 (old_banks_of n old)) (sym banks) ∙ bank

pub read_is : (old first : List ℕ) (h : Header) (count : ℕ) → IsFront first old → 96 ≤ length old → h ≡ header_of first → old_header_refusal first ≡ None → count ≡ count_of first → count < 2 ^ 32 → old_image_size h.banks ≤ length old
    → old_banks_refusal 1 (old_banks_of h.banks old) ≡ None → IsOld h count old
read_is old first h count front long is none counted small fits passed =
    let header : header_of old ≡ h = sym (is ∙ header_of_same first old front) in
    let number : count_of old ≡ count = sym (counted ∙ count_same first old front) in
    let banks = banks_too old first h front is in
    let within = header_within VERSION_1 first h none is in
    let seen = says old long (accepted_too old first front none) (omega (arith, fits, banks)) in
    record {
      whole = record { view = seen ∙ ap (λ (x : Header). Some (view_in x (count_of old) old)) header ∙ ap (λ (n : ℕ). Some (view_in h n old)) number; whole = none_damaged 1 (old_banks_of h.banks old) passed };
      from = within.0;
      to = within.1;
      fits = fits;
      small = small;
    }
