-- How the fields of a table are read, one byte, one field and one row at a time.
use Rattle.std.proofs.Common.{◌≡◌, refl, sym, ℕ, zero, suc, ◌+◌, ◌-◌, ◌*◌, ◌^◌, ◌<◌, ◌≤◌, true, false, Option, Some, None, List, [], ◌∷◌, ◌++◌, length, replicate, drop, get_or, slice_index, add-one, arith}
use Rattle.std.proofs.Math.Nat.{pow-le-pow_right, mul-le-mul_left, mul-le-mul_right, pow-suc, mul-suc}
use Rattle.std.proofs.Math.Seq.{drop-cons}
use Rattle.std.proofs.lemmas.Bool.{true≢false, false≢true}
use Rattle.std.specs.Option.{option_or, is_some}
use Rattle.std.specs.List.{flat_map}
use Rattle.edr_image.specs.PartBytes.{NumberField, field, can_be_in, damage_of_field, damage_of_fields}
use Rattle.edr_codec.specs.declared.rows.FieldRow.{FieldRow}
use Rattle.edr_codec.specs.Rows.{ranges_of, fields_of, row_size}

-- at most three bytes that are to come can be so many
pub span-small : (left : ℕ) → left ≤ 3 → 256 ^ left ≤ 16_777_216
span-small left h = pow-le-pow_right {n = 256} (omega arith) h

-- a number of at most 32 bits, moved up by at most three bytes, has at most 56 bits
pub moved-small : (n span : ℕ) → n ≤ 4_294_967_296 → span ≤ 16_777_216 → n * span ≤ 72_057_594_037_927_936
moved-small n span h s =
    let a : n * span ≤ n * 16_777_216 = mul-le-mul_left n s in
    omega arith

-- a number of k bytes, with one byte more
pub number-grows : (n k byte : ℕ) → n < 256 ^ k → byte < 256 → n * 256 + byte < 256 ^ (k + 1)
number-grows n k byte h b =
    let more : suc n * 256 ≤ 256 ^ k * 256 = mul-le-mul_right 256 h in
    rw (add-one k, pow-suc 256 k) (omega arith)

-- four bytes have 32 bits
pub number-small : (n k byte : ℕ) → n < 256 ^ k → byte < 256 → k < 4 → n * 256 + byte < 4_294_967_296
number-small n k byte h b few =
    let more = number-grows n k byte h b in
    let most : 256 ^ (k + 1) ≤ 4_294_967_296 = pow-le-pow_right {n = 256} (omega arith) {j = 4} (omega arith) in
    omega arith

-- byte k of a field, with which it can go on
pub field-goes_on : (ranges : List (ℕ × ℕ)) (bytes : List ℕ) (at n size k b : ℕ) → k < size → b ≡ slice_index bytes (at + k)
    → can_be_in ranges (n * 256 + b) (size - 1 - k) ≡ true
    → damage_of_field ranges bytes (at + k) n (size - k) ≡ damage_of_field ranges bytes (at + (k + 1)) (n * 256 + b) (size - (k + 1))
field-goes_on ranges bytes at n size k b within is can =
    let left : size - k ≡ suc (size - (k + 1)) = omega arith in
    let same : size - 1 - k ≡ size - (k + 1) = omega arith in
    let next : at + k + 1 ≡ at + (k + 1) = omega arith in
    let can' = rw (same, is) at can in
    rw (left, is, can', next) refl

-- one with which it can't
pub field-stops : (ranges : List (ℕ × ℕ)) (bytes : List ℕ) (at n size k b : ℕ) → k < size → b ≡ slice_index bytes (at + k)
    → can_be_in ranges (n * 256 + b) (size - 1 - k) ≡ false
    → damage_of_field ranges bytes (at + k) n (size - k) ≡ Some (at + k)
field-stops ranges bytes at n size k b within is can =
    let left : size - k ≡ suc (size - (k + 1)) = omega arith in
    let same : size - 1 - k ≡ size - (k + 1) = omega arith in
    let can' = rw (same, is) at can in
    rw (left, can') refl

-- how many bytes fields have
abbrev pub fields_size : List NumberField → ℕ
fields_size [] = 0
fields_size (f ∷ fs) = f.size + fields_size fs

-- what isn't there, and what is
pub is_some-false : (o : Option ℕ) → is_some o ≡ false → o ≡ None
is_some-false None h = refl
is_some-false (Some x) h = absurd (true≢false h)

pub option_or-first : (o p : Option ℕ) → is_some o ≡ true → option_or o p ≡ o
option_or-first None p h = absurd (false≢true h)
option_or-first (Some x) p h = refl

pub option_or-assoc : (a b c : Option ℕ) → option_or (option_or a b) c ≡ option_or a (option_or b c)
option_or-assoc None b c = refl
option_or-assoc (Some x) b c = refl

-- the damage of fields in a row is that of the first ones, or else of the rest
pub damage_of_fields-append : (bytes : List ℕ) (at : ℕ) (xs ys : List NumberField)
    → damage_of_fields bytes at (xs ++ ys) ≡ option_or (damage_of_fields bytes at xs) (damage_of_fields bytes (at + fields_size xs) ys)
damage_of_fields-append bytes at [] ys = let e : at + 0 ≡ at = omega arith in rw e refl
damage_of_fields-append bytes at (f ∷ fs) ys =
    let ih = damage_of_fields-append bytes (at + f.size) fs ys in
    let e : at + f.size + fields_size fs ≡ at + (f.size + fields_size fs) = omega arith in
    rw (ih, e) (sym (option_or-assoc (damage_of_field f.ranges bytes at 0 f.size) (damage_of_fields bytes (at + f.size) fs) (damage_of_fields bytes (at + (f.size + fields_size fs)) ys)))

-- field k of a row, which is one
pub row-goes_on : (bytes : List ℕ) (at count k : ℕ) (f : NumberField) → k < count → damage_of_field f.ranges bytes (at + f.size * k) 0 f.size ≡ None
    → damage_of_fields bytes (at + f.size * k) (replicate (count - k) f) ≡ damage_of_fields bytes (at + f.size * (k + 1)) (replicate (count - (k + 1)) f)
row-goes_on bytes at count k f within whole =
    let left : count - k ≡ suc (count - (k + 1)) = omega arith in
    let next : at + f.size * k + f.size ≡ at + f.size * (k + 1) = rw (add-one k, mul-suc f.size k) (omega arith) in
    rw (left, whole, next) refl

pub fields_size-replicate : (n : ℕ) (f : NumberField) → fields_size (replicate n f) ≡ f.size * n
fields_size-replicate zero f = omega arith
fields_size-replicate (suc n) f = let ih = fields_size-replicate n f in rw (ih, mul-suc f.size n) (omega arith)

-- row i of a table, whose fields are whole or not
pub rows-go_on : (bytes : List ℕ) (at i : ℕ) (rows : List FieldRow) (d : FieldRow) → i < length rows
    → damage_of_fields bytes at (flat_map fields_of (drop i rows))
    ≡ option_or (damage_of_fields bytes at (fields_of (get_or rows i d))) (damage_of_fields bytes (at + row_size (get_or rows i d)) (flat_map fields_of (drop (i + 1) rows)))
rows-go_on bytes at i rows d within =
    let row = get_or rows i d in
    let size = fields_size-replicate row.count (field row.size (ranges_of row)) in
    rw (drop-cons rows i d, add-one i, damage_of_fields-append bytes at (fields_of row) (flat_map fields_of (drop (suc i) rows)), size) refl
