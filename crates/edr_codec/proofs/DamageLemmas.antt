-- The damage of fields is told by the bytes up to it, and another byte in its place lets them go on.
use Rattle.std.proofs.Common.{◌≡◌, ◌≢◌, ◌⊎◌, inl, inr, refl, sym, ap, ◌∙◌, ℕ, zero, suc, ◌+◌, ◌-◌, ◌*◌, ◌/◌, ◌^◌, ◌<◌, ◌≤◌, max, Bool, true, false, ◌&&◌, Option, Some, None, List, [], ◌∷◌, length, set, slice_index, nat_le, nat_lt, if◌then◌else◌, subst, arith}
use Rattle.std.proofs.Math.Nat.{div-mul-le_self, lt-div-mul-add, add-mul, pow-suc, mul_comm}
use Rattle.std.proofs.lemmas.Nat.{div_below}
use Rattle.std.proofs.lemmas.List.{get_or-set_same, get_or-set_other}
use Rattle.std.proofs.lemmas.Bool.{false≢true, or_cases, and_parts, leb-true, ltb-true}
use Rattle.std.specs.Option.{option_or}
use Rattle.edr_image.specs.PartBytes.{NumberField, can_be_in, damage_of_field, damage_of_fields}
use Rattle.edr_codec.proofs.FieldLemmas.{fields_size}
use Rattle.edr_codec.proofs.RowLemmas.{Lies, can_be_in-lies, shift, cond-none, option_or-none}
use Rattle.edr_codec.proofs.NumberLemmas.{span-some}

-- two lists of bytes are the same up to a place and at it
abbrev pub SameUpTo : ℕ → List ℕ → List ℕ → Type 0
SameUpTo k b c = (i : ℕ) → i ≤ k → slice_index b i ≡ slice_index c i

abbrev pub SameBelow : ℕ → List ℕ → List ℕ → Type 0
SameBelow n b c = (i : ℕ) → i < n → slice_index b i ≡ slice_index c i

cond-some : (b : Bool) (rest : Option ℕ) (at k : ℕ) → (if b then rest else Some at) ≡ Some k → ((b ≡ true) × (rest ≡ Some k)) ⊎ ((b ≡ false) × (at ≡ k))
cond-some true rest at k h = inl (refl, h)
cond-some false rest at k h = inr (refl, grind arith)

pub option_or-some : (a b : Option ℕ) (k : ℕ) → option_or a b ≡ Some k → (a ≡ Some k) ⊎ ((a ≡ None) × (b ≡ Some k))
option_or-some None b k h = inr (refl, h)
option_or-some (Some x) b k h = inl h

-- ---- one field

pub field-from : (ranges : List (ℕ × ℕ)) (b : List ℕ) (at n size k : ℕ) → damage_of_field ranges b at n size ≡ Some k → (at ≤ k) × (k < at + size)
field-from ranges b at n zero k damaged = absurd (grind arith)
field-from ranges b at n (suc left) k damaged =
    let m = n * 256 + slice_index b at in
    elim (cond-some (can_be_in ranges m left) (damage_of_field ranges b (at + 1) m left) at k damaged) [
      | inl later ↦ (let ih = field-from ranges b (at + 1) m left k later.1 in (omega arith, omega arith))
      | inr here ↦ (omega arith, omega arith)
    ]

pub field-same : (ranges : List (ℕ × ℕ)) (b c : List ℕ) (at n size k : ℕ) → damage_of_field ranges b at n size ≡ Some k → SameUpTo k b c → damage_of_field ranges c at n size ≡ Some k
field-same ranges b c at n zero k damaged same = absurd (grind arith)
field-same ranges b c at n (suc left) k damaged same =
    let m = n * 256 + slice_index b at in
    let from = field-from ranges b at n (suc left) k damaged in
    let byte : slice_index c at ≡ slice_index b at = sym (same at from.0) in
    elim (cond-some (can_be_in ranges m left) (damage_of_field ranges b (at + 1) m left) at k damaged) [
      | inl later ↦ (let ih = field-same ranges b c (at + 1) m left k later.1 same in rw (byte, later.0) ih)
      | inr here ↦ rw (byte, here.0) (ap Some here.1)
    ]

pub field-none_same : (ranges : List (ℕ × ℕ)) (b c : List ℕ) (at n size : ℕ) → damage_of_field ranges b at n size ≡ None → SameBelow (at + size) b c → damage_of_field ranges c at n size ≡ None
field-none_same ranges b c at n zero whole same = refl
field-none_same ranges b c at n (suc left) whole same =
    let m = n * 256 + slice_index b at in
    let byte : slice_index c at ≡ slice_index b at = sym (same at (omega arith)) in
    let both = cond-none (can_be_in ranges m left) (damage_of_field ranges b (at + 1) m left) at whole in
    let ih = field-none_same ranges b c (at + 1) m left both.1 (λ i below. same i (omega arith)) in
    rw (byte, both.0) ih

-- ---- fields in a row

pub fields-from : (b : List ℕ) (at : ℕ) (fs : List NumberField) (k : ℕ) → damage_of_fields b at fs ≡ Some k → (at ≤ k) × (k < at + fields_size fs)
fields-from b at [] k damaged = absurd (grind arith)
fields-from b at (f ∷ fs) k damaged = elim (option_or-some (damage_of_field f.ranges b at 0 f.size) (damage_of_fields b (at + f.size) fs) k damaged) [
  | inl here ↦ (let from = field-from f.ranges b at 0 f.size k here in (omega arith, omega arith))
  | inr later ↦ (let ih = fields-from b (at + f.size) fs k later.1 in (omega arith, omega arith))
]

pub fields-same : (b c : List ℕ) (at : ℕ) (fs : List NumberField) (k : ℕ) → damage_of_fields b at fs ≡ Some k → SameUpTo k b c → damage_of_fields c at fs ≡ Some k
fields-same b c at [] k damaged same = absurd (grind arith)
fields-same b c at (f ∷ fs) k damaged same = elim (option_or-some (damage_of_field f.ranges b at 0 f.size) (damage_of_fields b (at + f.size) fs) k damaged) [
  | inl here ↦ rw (field-same f.ranges b c at 0 f.size k here same) refl
  | inr later ↦ (let from = fields-from b (at + f.size) fs k later.1 in
      rw (field-none_same f.ranges b c at 0 f.size later.0 (λ i below. same i (omega arith))) (fields-same b c (at + f.size) fs k later.1 same))
]

pub fields-none_same : (b c : List ℕ) (at : ℕ) (fs : List NumberField) → damage_of_fields b at fs ≡ None → SameBelow (at + fields_size fs) b c → damage_of_fields c at fs ≡ None
fields-none_same b c at [] whole same = refl
fields-none_same b c at (f ∷ fs) whole same =
    let both = option_or-none (damage_of_field f.ranges b at 0 f.size) (damage_of_fields b (at + f.size) fs) whole in
    rw (field-none_same f.ranges b c at 0 f.size both.0 (λ i below. same i (omega arith))) (fields-none_same b c (at + f.size) fs both.1 (λ i below. same i (omega arith)))

-- ---- another byte in the place of the damage

-- no range is empty
abbrev pub AreFilled : List (ℕ × ℕ) → Type 0
AreFilled [] = Unit {0}
AreFilled (r ∷ rs) = (r.0 ≤ r.1) × AreFilled rs

-- a field has a number of its size
pub record IsFilled (f : NumberField) : Type 0 where
  pub ranges : AreFilled f.ranges
  pub some : can_be_in f.ranges 0 f.size ≡ true

-- what can be a number of the ranges is begun by one
pub record Begun (ranges : List (ℕ × ℕ)) (n left : ℕ) : Type 0 where
  pub number : ℕ
  pub lies : Lies ranges number
  pub low : n * 256 ^ left ≤ number
  pub high : number < (n + 1) * 256 ^ left

begun : (ranges : List (ℕ × ℕ)) (n left : ℕ) → AreFilled ranges → can_be_in ranges n left ≡ true → Begun ranges n left
begun [] n left filled can = absurd (false≢true can)
begun (r ∷ rs) n left filled can = elim (or_cases (nat_le (n * 256 ^ left) r.1 && nat_lt r.0 ((n + 1) * 256 ^ left)) (can_be_in rs n left) can) [
  | inl here ↦ (let both = and_parts (nat_le (n * 256 ^ left) r.1) (nat_lt r.0 ((n + 1) * 256 ^ left)) here in
      let low = leb-true (n * 256 ^ left) r.1 both.0 in
      let high = ltb-true r.0 ((n + 1) * 256 ^ left) both.1 in
      let p = span-some left in
      let next : (n + 1) * 256 ^ left ≡ n * 256 ^ left + 1 * 256 ^ left = add-mul n 1 (256 ^ left) in
      record { number = max (n * 256 ^ left) r.0; lies = inl (omega arith, omega arith); low = omega arith; high = omega arith })
  | inr later ↦ (let rest = begun rs n left filled.1 later in record { number = rest.number; lies = inr rest.lies; low = rest.low; high = rest.high })
]

-- the byte with which a field goes on
pub goes_on : (ranges : List (ℕ × ℕ)) (n left : ℕ) → AreFilled ranges → can_be_in ranges n (suc left) ≡ true → (c : ℕ) × (c < 256) × (can_be_in ranges (n * 256 + c) left ≡ true)
goes_on ranges n left filled can =
    let more = begun ranges n (suc left) filled can in
    let p = 256 ^ left in
    let some = span-some left in
    let whole : n * 256 ^ suc left ≡ n * (p * 256) = ap (λ (x : ℕ). n * x) (pow-suc 256 left) in
    let above : (n + 1) * 256 ^ suc left ≡ n * (p * 256) + 1 * (p * 256) = ap (λ (x : ℕ). (n + 1) * x) (pow-suc 256 left) ∙ add-mul n 1 (p * 256) in
    let turned : p * 256 ≡ 256 * p = mul_comm p 256 in
    let rest = more.number - n * (p * 256) in
    let below : rest < 256 * p = let l = more.low in let h = more.high in omega arith in
    let c = rest / p in
    let under = div-mul-le_self rest p in
    let over = lt-div-mul-add {a = rest} {b = p} some in
    let moved : (n * 256 + c) * p ≡ n * (p * 256) + c * p = shift n c p in
    let next : (n * 256 + c + 1) * p ≡ (n * 256 + c) * p + 1 * p = add-mul (n * 256 + c) 1 p in
    let l = more.low in
    (c, div_below rest p 256 some below, can_be_in-lies ranges (n * 256 + c) left more.number (omega arith) (omega arith) more.lies)

-- there is no damage, or one past a place
abbrev pub IsPast : ℕ → Option ℕ → Type 0
IsPast k None = Unit {0}
IsPast k (Some j) = k < j

past-by : (k : ℕ) (o : Option ℕ) → ((j : ℕ) → o ≡ Some j → k < j) → IsPast k o
past-by k None later = tt
past-by k (Some j) later = later j refl

pub past-or : (k : ℕ) (a b : Option ℕ) → IsPast k a → ((j : ℕ) → b ≡ Some j → k < j) → IsPast k (option_or a b)
past-or k None b first later = past-by k b later
past-or k (Some j) b first later = first

-- a byte that is changed, and one that isn't
pub set-other : (b : List ℕ) (k c i : ℕ) → i ≢ k → slice_index (set b k c) i ≡ slice_index b i
set-other b k c i apart = get_or-set_other b k i c 0 apart

-- with another byte in its place a field has its damage later, or none
pub field-fill : (ranges : List (ℕ × ℕ)) (b : List ℕ) (at n size k : ℕ) → AreFilled ranges → can_be_in ranges n size ≡ true → at + size ≤ length b → damage_of_field ranges b at n size ≡ Some k
    → (c : ℕ) × (c < 256) × IsPast k (damage_of_field ranges (set b k c) at n size)
field-fill ranges b at n zero k filled can room damaged = absurd (grind arith)
field-fill ranges b at n (suc left) k filled can room damaged =
    let m = n * 256 + slice_index b at in
    elim (cond-some (can_be_in ranges m left) (damage_of_field ranges b (at + 1) m left) at k damaged) [
      | inl later ↦ (let ih = field-fill ranges b (at + 1) m left k filled later.0 (omega arith) later.1 in
          let from = field-from ranges b (at + 1) m left k later.1 in
          let byte : slice_index (set b k ih.0) at ≡ slice_index b at = set-other b k ih.0 at (λ same. omega arith) in
          (ih.0, ih.1, rw (byte, later.0) ih.2))
      | inr here ↦ (let next = goes_on ranges n left filled can in
          let c = next.0 in
          let byte : slice_index (set b k c) at ≡ c = subst (λ (i : ℕ). slice_index (set b k c) i ≡ c) (sym here.1) (get_or-set_same b k c 0 (omega arith)) in
          let rest : IsPast k (damage_of_field ranges (set b k c) (at + 1) (n * 256 + c) left) =
          past-by k (damage_of_field ranges (set b k c) (at + 1) (n * 256 + c) left) (λ j damage. (let from = field-from ranges (set b k c) (at + 1) (n * 256 + c) left j damage in omega arith)) in
          (c, next.1, rw (byte, next.2) rest))
    ]

abbrev pub FieldsFilled : List NumberField → Type 0
FieldsFilled [] = Unit {0}
FieldsFilled (f ∷ fs) = IsFilled f × FieldsFilled fs

pub fields-fill : (b : List ℕ) (at : ℕ) (fs : List NumberField) (k : ℕ) → FieldsFilled fs → at + fields_size fs ≤ length b → damage_of_fields b at fs ≡ Some k
    → (c : ℕ) × (c < 256) × IsPast k (damage_of_fields (set b k c) at fs)
fields-fill b at [] k filled room damaged = absurd (grind arith)
fields-fill b at (f ∷ fs) k filled room damaged = elim (option_or-some (damage_of_field f.ranges b at 0 f.size) (damage_of_fields b (at + f.size) fs) k damaged) [
  | inl here ↦ (let first = field-fill f.ranges b at 0 f.size k filled.0.ranges filled.0.some (omega arith) here in
      let from = field-from f.ranges b at 0 f.size k here in
      let c = first.0 in (
        c,
        first.1,
        past-or k (damage_of_field f.ranges (set b k c) at 0 f.size) (damage_of_fields (set b k c) (at + f.size) fs) first.2
            (λ j damage. (let later = fields-from (set b k c) (at + f.size) fs j damage in omega arith)),
      ))
  | inr later ↦ (let rest = fields-fill b (at + f.size) fs k filled.1 (omega arith) later.1 in
      let from = fields-from b (at + f.size) fs k later.1 in
      let c = rest.0 in
      let none = field-none_same f.ranges b (set b k c) at 0 f.size later.0 (λ i below. sym (set-other b k c i (λ same. omega arith))) in
      (c, rest.1, rw none rest.2))
]
