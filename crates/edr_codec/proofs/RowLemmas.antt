-- The rows of a table fit bytes exactly where each number lies in the ranges of its row.
use Rattle.std.proofs.Common.{◌≡◌, ◌⊎◌, inl, inr, refl, sym, ap, ◌∙◌, ℕ, zero, suc, ◌+◌, ◌*◌, ◌^◌, ◌<◌, ◌≤◌, Bool, true, false, ◌&&◌, Option, Some, None, List, [], ◌∷◌, replicate, slice_index, nat_le, nat_lt, if◌then◌else◌, subst, add-one, arith}
use Rattle.std.proofs.Math.Nat.{add-mul, mul_assoc, mul_comm, mul-suc, pow-suc}
use Rattle.std.proofs.lemmas.Bool.{false≢true, or_cases, or_left, or_right, and_parts, and_from, leb-true, ltb-true, le-leb, lt-ltb}
use Rattle.std.specs.Option.{option_or}
use Rattle.std.specs.List.{list_all, flat_map}
use Rattle.byteorder.specs.Endian.{big_from}
use Rattle.byteorder.specs.Numbers.{big_from-lt}
use Rattle.edr_image.specs.PartBytes.{NumberField, can_be_in, damage_of_field, damage_of_fields, number_at}
use Rattle.edr_codec.specs.declared.rows.FieldRow.{FieldRow}
use Rattle.edr_codec.specs.Rows.{ranges_of, fields_of, row_size}
use Rattle.edr_codec.proofs.FieldLemmas.{fields_size, fields_size-replicate, damage_of_fields-append}

abbrev pub AreBytes : List ℕ → Type 0
AreBytes bytes = (i : ℕ) → slice_index bytes i < 256

-- the number lies in one of the ranges
abbrev pub Lies : List (ℕ × ℕ) → ℕ → Type 0
Lies [] n = ⊥
Lies (r ∷ rs) n = ((r.0 ≤ n) × (n ≤ r.1)) ⊎ Lies rs n

-- a number that begins so, and lies in the ranges
pub can_be_in-lies : (ranges : List (ℕ × ℕ)) (n left number : ℕ) → n * 256 ^ left ≤ number → number < (n + 1) * 256 ^ left → Lies ranges number → can_be_in ranges n left ≡ true
can_be_in-lies [] n left number low high lies = absurd lies
can_be_in-lies (r ∷ rs) n left number low high (inl within) =
    or_left (nat_le (n * 256 ^ left) r.1 && nat_lt r.0 ((n + 1) * 256 ^ left)) (can_be_in rs n left)
    (and_from (nat_le (n * 256 ^ left) r.1) (nat_lt r.0 ((n + 1) * 256 ^ left)) (le-leb (n * 256 ^ left) r.1 (omega arith)) (lt-ltb r.0 ((n + 1) * 256 ^ left) (omega arith)))
can_be_in-lies (r ∷ rs) n left number low high (inr lies) =
    or_right (nat_le (n * 256 ^ left) r.1 && nat_lt r.0 ((n + 1) * 256 ^ left)) (can_be_in rs n left) (can_be_in-lies rs n left number low high lies)

-- a number that is whole
pub lies-end : (ranges : List (ℕ × ℕ)) (n : ℕ) → can_be_in ranges n 0 ≡ true → Lies ranges n
lies-end [] n can = absurd (false≢true can)
lies-end (r ∷ rs) n can = elim (or_cases (nat_le (n * 1) r.1 && nat_lt r.0 ((n + 1) * 1)) (can_be_in rs n 0) can) [
  | inl here ↦ (let both = and_parts (nat_le (n * 1) r.1) (nat_lt r.0 ((n + 1) * 1)) here in
      let low = ltb-true r.0 ((n + 1) * 1) both.1 in
      let high = leb-true (n * 1) r.1 both.0 in
      inl (omega arith, omega arith))
  | inr later ↦ inr (lies-end rs n later)
]

-- the number with one byte more
pub shift : (n b p : ℕ) → (n * 256 + b) * p ≡ n * (p * 256) + b * p
shift n b p = add-mul (n * 256) b p ∙ ap (λ (x : ℕ). x + b * p) (mul_assoc n 256 p ∙ ap (λ (x : ℕ). n * x) (mul_comm 256 p))

-- a number of the bytes from a place on, begun with n
more : (bytes : List ℕ) (at n left : ℕ) → (n * 256 + slice_index bytes at) * 256 ^ left + big_from (at + 1) left bytes ≡ n * 256 ^ suc left + big_from at (suc left) bytes
more bytes at n left =
    let b = slice_index bytes at in
    let p = 256 ^ left in
    let moved = shift n b p in
    rw (add-one at, pow-suc 256 left, moved) (omega arith)

-- a test that lets the rest decide
pub cond-none : (b : Bool) (rest : Option ℕ) (at : ℕ) → (if b then rest else Some at) ≡ None → (b ≡ true) × (rest ≡ None)
cond-none true rest at h = (refl, h)
cond-none false rest at h = absurd (grind arith)

-- a field that fits has its number in its ranges
pub field-lies : (ranges : List (ℕ × ℕ)) (bytes : List ℕ) (at n left : ℕ) → damage_of_field ranges bytes at n (suc left) ≡ None
    → Lies ranges (n * 256 ^ suc left + big_from at (suc left) bytes)
field-lies ranges bytes at n zero whole =
    let m = n * 256 + slice_index bytes at in
    let can = cond-none (can_be_in ranges m 0) None at whole in
    subst (λ (x : ℕ). Lies ranges x) (let e : m ≡ n * 256 + (slice_index bytes at * 1 + 0) = omega arith in e) (lies-end ranges m can.0)
field-lies ranges bytes at n (suc left) whole =
    let m = n * 256 + slice_index bytes at in
    let both = cond-none (can_be_in ranges m (suc left)) (damage_of_field ranges bytes (at + 1) m (suc left)) at whole in
    subst (λ (x : ℕ). Lies ranges x) (more bytes at n (suc left)) (field-lies ranges bytes (at + 1) m left both.1)

-- a field whose number lies in its ranges fits
pub field-whole : (ranges : List (ℕ × ℕ)) (bytes : List ℕ) (at n size : ℕ) → AreBytes bytes → Lies ranges (n * 256 ^ size + big_from at size bytes)
    → damage_of_field ranges bytes at n size ≡ None
field-whole ranges bytes at n zero are lies = refl
field-whole ranges bytes at n (suc left) are lies =
    let m = n * 256 + slice_index bytes at in
    let p = 256 ^ left in
    let same = more bytes at n left in
    let lies' = subst (λ (x : ℕ). Lies ranges x) (sym same) lies in
    let rest : big_from (at + 1) left bytes < p = big_from-lt (at + 1) left bytes are in
    let next : (m + 1) * p ≡ m * p + 1 * p = add-mul m 1 p in
    let can = can_be_in-lies ranges m left (m * p + big_from (at + 1) left bytes) (omega arith) (omega arith) lies' in
    let ih = field-whole ranges bytes (at + 1) m left are lies' in
    rw (can, ih) refl

-- each number of the rows lies in the ranges of its row
abbrev pub RowsLie : List ℕ → ℕ → List FieldRow → Type 0
RowsLie bytes at [] = Unit {0}
RowsLie bytes at (r ∷ rs) = ((k : ℕ) → k < r.count → Lies (ranges_of r) (number_at bytes (at + r.size * k) r.size)) × RowsLie bytes (at + row_size r) rs

-- each row has fields of some bytes
abbrev pub are_sized : List FieldRow → Bool
are_sized rows = list_all (λ r. nat_lt 0 r.size) rows

pub option_or-none : (a b : Option ℕ) → option_or a b ≡ None → (a ≡ None) × (b ≡ None)
option_or-none None b h = (refl, h)
option_or-none (Some x) b h = absurd (grind arith)

-- a whole field lies in its ranges
number-lies : (ranges : List (ℕ × ℕ)) (bytes : List ℕ) (at size : ℕ) → 0 < size → damage_of_field ranges bytes at 0 size ≡ None → Lies ranges (number_at bytes at size)
number-lies ranges bytes at zero some whole = absurd (omega arith)
number-lies ranges bytes at (suc left) some whole =
    let e : 0 * 256 ^ suc left + big_from at (suc left) bytes ≡ big_from at (suc left) bytes = omega arith in
    subst (λ (x : ℕ). Lies ranges x) e (field-lies ranges bytes at 0 left whole)

row-lies : (bytes : List ℕ) (at n : ℕ) (f : NumberField) → 0 < f.size → damage_of_fields bytes at (replicate n f) ≡ None
    → (k : ℕ) → k < n → Lies f.ranges (number_at bytes (at + f.size * k) f.size)
row-lies bytes at zero f some whole k within = absurd (omega arith)
row-lies bytes at (suc n) f some whole zero within =
    let both = option_or-none (damage_of_field f.ranges bytes at 0 f.size) (damage_of_fields bytes (at + f.size) (replicate n f)) whole in
    let e : at ≡ at + f.size * 0 = omega arith in
    subst (λ (x : ℕ). Lies f.ranges (number_at bytes x f.size)) e (number-lies f.ranges bytes at f.size some both.0)
row-lies bytes at (suc n) f some whole (suc k) within =
    let both = option_or-none (damage_of_field f.ranges bytes at 0 f.size) (damage_of_fields bytes (at + f.size) (replicate n f)) whole in
    let e : at + f.size + f.size * k ≡ at + f.size * suc k = rw (mul-suc f.size k) (omega arith) in
    subst (λ (x : ℕ). Lies f.ranges (number_at bytes x f.size)) e (row-lies bytes (at + f.size) n f some both.1 k (omega arith))

-- rows that fit
pub rows-lie : (bytes : List ℕ) (at : ℕ) (rows : List FieldRow) → are_sized rows ≡ true → damage_of_fields bytes at (flat_map fields_of rows) ≡ None → RowsLie bytes at rows
rows-lie bytes at [] sized whole = tt
rows-lie bytes at (r ∷ rs) sized whole =
    let size = fields_size-replicate r.count (record { size = r.size; ranges = ranges_of r }) in
    let both = option_or-none (damage_of_fields bytes at (fields_of r)) (damage_of_fields bytes (at + fields_size (fields_of r)) (flat_map fields_of rs))
    (sym (damage_of_fields-append bytes at (fields_of r) (flat_map fields_of rs)) ∙ whole) in
    let ok = and_parts (nat_lt 0 r.size) (are_sized rs) sized in (
      row-lies bytes at r.count (record { size = r.size; ranges = ranges_of r }) (ltb-true 0 r.size ok.0) both.0,
      rows-lie bytes (at + row_size r) rs ok.1 (subst (λ (x : ℕ). damage_of_fields bytes (at + x) (flat_map fields_of rs) ≡ None) size both.1),
    )

row-whole : (bytes : List ℕ) (at n : ℕ) (f : NumberField) → AreBytes bytes → ((k : ℕ) → k < n → Lies f.ranges (number_at bytes (at + f.size * k) f.size)) → damage_of_fields bytes at (replicate n f) ≡ None
row-whole bytes at zero f are lies = refl
row-whole bytes at (suc n) f are lies =
    let e : at + f.size * 0 ≡ at = omega arith in
    let here : Lies f.ranges (0 * 256 ^ f.size + big_from at f.size bytes) =
    subst (λ (x : ℕ). Lies f.ranges x) (let z : number_at bytes at f.size ≡ 0 * 256 ^ f.size + big_from at f.size bytes = omega arith in z)
    (subst (λ (x : ℕ). Lies f.ranges (number_at bytes x f.size)) e (lies 0 (omega arith))) in
    let later = row-whole bytes (at + f.size) n f are (λ k within.
    let z : at + f.size * suc k ≡ at + f.size + f.size * k = rw (mul-suc f.size k) (omega arith) in
    subst (λ (x : ℕ). Lies f.ranges (number_at bytes x f.size)) z (lies (suc k) (omega arith))) in
    rw (field-whole f.ranges bytes at 0 f.size are here, later) refl

-- rows whose numbers lie in their ranges
pub rows-whole : (bytes : List ℕ) (at : ℕ) (rows : List FieldRow) → AreBytes bytes → RowsLie bytes at rows → damage_of_fields bytes at (flat_map fields_of rows) ≡ None
rows-whole bytes at [] are lie = refl
rows-whole bytes at (r ∷ rs) are lie =
    let size = fields_size-replicate r.count (record { size = r.size; ranges = ranges_of r }) in
    let first = row-whole bytes at r.count (record { size = r.size; ranges = ranges_of r }) are lie.0 in
    let later = rows-whole bytes (at + row_size r) rs are lie.1 in
    rw (damage_of_fields-append bytes at (fields_of r) (flat_map fields_of rs), first, size, later) refl
