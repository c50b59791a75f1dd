-- The banks of an image of version 1 one after the other.
use Rattle.std.proofs.Common.{◌≡◌, ◌<◌, ◌+◌, ◌++◌, ◌∙◌, ℕ, zero, suc, List, [], ◌∷◌, length, take, drop, Option, Some, None, refl, sym, ap, arith}
use Rattle.std.specs.Prelude.{count_by, slice_range, cond}
use Rattle.std.specs.Option.{option_or}
use Rattle.std.proofs.lemmas.List.{take-append-drop}
use Rattle.std.proofs.lemmas.List.FromFn.{length-map-range_with_len, sum_by-map-range_with_len_more, map-range_with_len_more, take-map-range_with_len}
use Rattle.edr_image.specs.declared.BankView.{BankView}
use Rattle.edr_image.specs.declared.BankView.TheVariants.{Void, Event, Damaged}
use Rattle.edr_record.specs.declared.Record.{Record}
use Rattle.edr_image.specs.declared.OldRefused.{OldRefused}
use Rattle.edr_image.specs.declared.forms.TheConstants.{OLD_BANK_SIZE}
use Rattle.edr_image.specs.Image.{old_bank_refusal, old_bank_view, old_banks_of, old_banks_refusal, old_place_of}
use Rattle.edr_image.specs.Banks.{holds_event}
use Rattle.edr_migrate.specs.Migrated.{AreWhole}

-- what bank m holds
abbrev pub old_view_at : List ℕ → ℕ → BankView
old_view_at old m = old_bank_view (slice_range old (old_place_of m) (old_place_of m + OLD_BANK_SIZE))

pub old_more : (k : ℕ) (old : List ℕ) → old_banks_of (k + 1) old ≡ old_banks_of k old ++ old_view_at old (k + 1) ∷ []
old_more k old = map-range_with_len_more (old_view_at old) 1 k (k + 1) (omega arith)

pub old_length : (k : ℕ) (old : List ℕ) → length (old_banks_of k old) ≡ k
old_length k old = length-map-range_with_len (old_view_at old) 1 k

pub old_count_more : (k : ℕ) (old : List ℕ) → count_by holds_event (old_banks_of (k + 1) old) ≡ count_by holds_event (old_banks_of k old) + cond (holds_event (old_view_at old (k + 1))) 1 0
old_count_more k old = sum_by-map-range_with_len_more (λ (x : BankView). cond (holds_event x) 1 0) (old_view_at old) 1 k (k + 1) (omega arith)

-- ---- the lowest that is damaged

or_assoc : {X : Type 0} (a b c : Option X) → option_or a (option_or b c) ≡ option_or (option_or a b) c
or_assoc None b c = refl
or_assoc (Some x) b c = refl

refusal_append : (m : ℕ) (xs ys : List BankView) → old_banks_refusal m (xs ++ ys) ≡ option_or (old_banks_refusal m xs) (old_banks_refusal (m + length xs) ys)
refusal_append m [] ys = let e : m ≡ m + 0 = omega arith in ap (λ (n : ℕ). old_banks_refusal n ys) e
refusal_append m (x ∷ xs) ys =
    let e : m + 1 + length xs ≡ m + suc (length xs) = omega arith in
    ap (option_or (old_bank_refusal m x)) (refusal_append (m + 1) xs ys ∙ ap (λ (n : ℕ). option_or (old_banks_refusal (m + 1) xs) (old_banks_refusal n ys)) e)
    ∙ or_assoc (old_bank_refusal m x) (old_banks_refusal (m + 1) xs) (old_banks_refusal (m + suc (length xs)) ys)

or_none : {X : Type 0} (o : Option X) → option_or o None ≡ o
or_none None = refl
or_none (Some x) = refl

-- where the banks before are whole, one more tells of itself
pub refusal_more : (k : ℕ) (old : List ℕ) → old_banks_refusal 1 (old_banks_of k old) ≡ None → old_banks_refusal 1 (old_banks_of (k + 1) old) ≡ old_bank_refusal (k + 1) (old_view_at old (k + 1))
refusal_more k old none =
    let view = old_view_at old (k + 1) in
    let place : 1 + length (old_banks_of k old) ≡ k + 1 = omega (arith, old_length k old) in
    ap (old_banks_refusal 1) (old_more k old)
    ∙ refusal_append 1 (old_banks_of k old) (view ∷ [])
    ∙ ap (λ (o : Option OldRefused). option_or o (old_banks_refusal (1 + length (old_banks_of k old)) (view ∷ []))) none
    ∙ ap (λ (n : ℕ). old_banks_refusal n (view ∷ [])) place
    ∙ or_none (old_bank_refusal (k + 1) view)

-- and it stands for all of them where it is damaged
pub refused_at : (k n : ℕ) (old : List ℕ) (refused : OldRefused) → k < n → old_banks_refusal 1 (old_banks_of k old) ≡ None → old_bank_refusal (k + 1) (old_view_at old (k + 1)) ≡ Some refused
    → old_banks_refusal 1 (old_banks_of n old) ≡ Some refused
refused_at k n old refused below none is =
    let banks = old_banks_of n old in
    let first = take-map-range_with_len (old_view_at old) 1 n (k + 1) (omega arith) in
    ap (old_banks_refusal 1) (sym (take-append-drop (k + 1) banks))
    ∙ refusal_append 1 (take (k + 1) banks) (drop (k + 1) banks)
    ∙ ap (λ (o : Option OldRefused). option_or o (old_banks_refusal (1 + length (take (k + 1) banks)) (drop (k + 1) banks))) (ap (old_banks_refusal 1) first ∙ refusal_more k old none ∙ is)

-- banks of which none is refused are whole, and the other way round
pub none_damaged : (m : ℕ) (xs : List BankView) → old_banks_refusal m xs ≡ None → AreWhole xs
none_damaged m [] e i o f l there = absurd (let y : ⊥ = cc in y)
none_damaged m (Damaged a b c ∷ xs) e i o f l there = absurd (let y : ⊥ = cc in y)
none_damaged m (Void ∷ xs) e zero o f l there = absurd (let y : ⊥ = cc in y)
none_damaged m (Void ∷ xs) e (suc i) o f l there = none_damaged (m + 1) xs e i o f l there
none_damaged m (Event r ∷ xs) e zero o f l there = absurd (let y : ⊥ = cc in y)
none_damaged m (Event r ∷ xs) e (suc i) o f l there = none_damaged (m + 1) xs e i o f l there

pub none_refused : (m : ℕ) (xs : List BankView) → AreWhole xs → old_banks_refusal m xs ≡ None
none_refused m [] whole = refl
none_refused m (Void ∷ xs) whole = none_refused (m + 1) xs (λ i o f l there. whole (suc i) o f l there)
none_refused m (Event r ∷ xs) whole = none_refused (m + 1) xs (λ i o f l there. whole (suc i) o f l there)
none_refused m (Damaged a b c ∷ xs) whole = absurd (whole 0 a b c refl)

-- ---- how many hold an event

pub counts_none : (k : ℕ) (old : List ℕ) → old_view_at old (k + 1) ≡ Void → count_by holds_event (old_banks_of k old) ≡ count_by holds_event (old_banks_of (k + 1) old)
counts_none k old is =
    let same : count_by holds_event (old_banks_of k old) + 0 ≡ count_by holds_event (old_banks_of k old) = omega arith in
    sym (old_count_more k old ∙ ap (λ (view : BankView). count_by holds_event (old_banks_of k old) + cond (holds_event view) 1 0) is ∙ same)

pub counts_one : (k : ℕ) (old : List ℕ) (n : ℕ) (r : Record) → old_view_at old (k + 1) ≡ Event r → n ≡ count_by holds_event (old_banks_of k old) → n + 1 ≡ count_by holds_event (old_banks_of (k + 1) old)
counts_one k old n r is counted =
    ap (λ (m : ℕ). m + 1) counted ∙ sym (old_count_more k old ∙ ap (λ (view : BankView). count_by holds_event (old_banks_of k old) + cond (holds_event view) 1 0) is)
