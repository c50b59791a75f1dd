-- What the damage of a table means: the bytes before it begin a part, and those up to and with it don't.
use Rattle.std.proofs.Common.{◌≡◌, inl, inr, refl, sym, ap, ◌∙◌, ℕ, zero, suc, ◌+◌, ◌<◌, ◌≤◌, Option, Some, None, List, ◌++◌, length, take, set, slice_index, subst, arith}
use Rattle.std.proofs.lemmas.Bool.{cases_order}
use Rattle.std.proofs.lemmas.List.{length-set, get_or-take, take-set-le, take-take}
use Rattle.std.proofs.lemmas.List.Elements.{All-set}
use Rattle.std.specs.Option.{option_or}
use Rattle.edr_image.specs.PartBytes.{NumberField, damage_of_fields, IsDamagedAt}
use Rattle.edr_codec.proofs.FieldLemmas.{fields_size, damage_of_fields-append}
use Rattle.edr_codec.proofs.PieceLemmas.{AreSmall}
use Rattle.edr_codec.proofs.DamageLemmas

-- the damage by a table of which the first fields are always the same, and the others are told by the bytes of these
abbrev pub table_damage : List NumberField → (List ℕ → List NumberField) → List ℕ → Option ℕ
table_damage head tail b = damage_of_fields b 0 (head ++ tail b)

pub record IsTable (size : ℕ) (head : List NumberField) (tail : List ℕ → List NumberField) : Type 0 where
  pub head_filled : DamageLemmas.FieldsFilled head
  pub tail_filled : (b : List ℕ) → DamageLemmas.FieldsFilled (tail b)
  pub told : (b c : List ℕ) → DamageLemmas.SameBelow (fields_size head) b c → tail b ≡ tail c
  pub sizes : (b : List ℕ) → fields_size head + fields_size (tail b) ≡ size

table-parts : (head : List NumberField) (tail : List ℕ → List NumberField) (b : List ℕ)
    → table_damage head tail b ≡ option_or (damage_of_fields b 0 head) (damage_of_fields b (fields_size head) (tail b))
table-parts head tail b =
    let e : 0 + fields_size head ≡ fields_size head = omega arith in
    damage_of_fields-append b 0 head (tail b) ∙ ap (λ (i : ℕ). option_or (damage_of_fields b 0 head) (damage_of_fields b i (tail b))) e

pub table-within : (size : ℕ) (head : List NumberField) (tail : List ℕ → List NumberField) (b : List ℕ) (k : ℕ) → IsTable size head tail → table_damage head tail b ≡ Some k → k < size
table-within size head tail b k is damaged =
    let e = is.sizes b in
    elim (DamageLemmas.option_or-some (damage_of_fields b 0 head) (damage_of_fields b (fields_size head) (tail b)) k (sym (table-parts head tail b) ∙ damaged)) [
      | inl here ↦ (let from = DamageLemmas.fields-from b 0 head k here in omega arith)
      | inr later ↦ (let from = DamageLemmas.fields-from b (fields_size head) (tail b) k later.1 in omega arith)
    ]

-- the damage is told by the bytes up to it
pub table-same : (size : ℕ) (head : List NumberField) (tail : List ℕ → List NumberField) (b c : List ℕ) (k : ℕ) → IsTable size head tail → table_damage head tail b ≡ Some k → DamageLemmas.SameUpTo k b c
    → table_damage head tail c ≡ Some k
table-same size head tail b c k is damaged same = table-parts head tail c
    ∙ elim (DamageLemmas.option_or-some (damage_of_fields b 0 head) (damage_of_fields b (fields_size head) (tail b)) k (sym (table-parts head tail b) ∙ damaged)) as (λ _. option_or (damage_of_fields c 0 head) (damage_of_fields c (fields_size head) (tail c)) ≡ Some k) [
      | inl here ↦ rw (DamageLemmas.fields-same b c 0 head k here same) refl
      | inr later ↦ (let from = DamageLemmas.fields-from b (fields_size head) (tail b) k later.1 in
          let none = DamageLemmas.fields-none_same b c 0 head later.0 (λ i below. same i (omega arith)) in
          let rest = DamageLemmas.fields-same b c (fields_size head) (tail b) k later.1 same in
          let told = is.told b c (λ i below. same i (omega arith)) in
          rw (none, ← told) rest)
    ]

-- with another byte in its place the damage is later, or none
pub table-fill : (size : ℕ) (head : List NumberField) (tail : List ℕ → List NumberField) (b : List ℕ) (k : ℕ) → IsTable size head tail → length b ≡ size → table_damage head tail b ≡ Some k
    → (c : ℕ) × (c < 256) × DamageLemmas.IsPast k (table_damage head tail (set b k c))
table-fill size head tail b k is long damaged =
    let e = is.sizes b in
    let at = fields_size head in
    elim (DamageLemmas.option_or-some (damage_of_fields b 0 head) (damage_of_fields b at (tail b)) k (sym (table-parts head tail b) ∙ damaged)) [
      | inl here ↦ (let first = DamageLemmas.fields-fill b 0 head k is.head_filled (omega arith) here in
          let from = DamageLemmas.fields-from b 0 head k here in
          let after = set b k first.0 in (
            first.0,
            first.1,
            subst (λ (o : Option ℕ). DamageLemmas.IsPast k o) (sym (table-parts head tail after))
                (DamageLemmas.past-or k (damage_of_fields after 0 head) (damage_of_fields after at (tail after)) first.2
                (λ j damage. (let later = DamageLemmas.fields-from after at (tail after) j damage in omega arith))),
          ))
      | inr later ↦ (let rest = DamageLemmas.fields-fill b at (tail b) k (is.tail_filled b) (omega arith) later.1 in
          let from = DamageLemmas.fields-from b at (tail b) k later.1 in
          let after = set b k rest.0 in
          let same : DamageLemmas.SameBelow at b after = λ i below. sym (DamageLemmas.set-other b k rest.0 i (λ same. omega arith)) in
          let none = DamageLemmas.fields-none_same b after 0 head later.0 (λ i below. same i (omega arith)) in
          let told = is.told b after same in (
            rest.0,
            rest.1,
            subst (λ (o : Option ℕ). DamageLemmas.IsPast k o) (sym (table-parts head tail after))
                (rw (none, ← told) rest.2),
          ))
    ]

-- ---- bytes that are completed

-- whole bytes that are the same before a place
pub record IsCompleted (size : ℕ) (damage : List ℕ → Option ℕ) (b : List ℕ) (k : ℕ) : Type 0 where
  pub bytes : List ℕ
  pub long : length bytes ≡ size
  pub small : AreSmall bytes
  pub whole : damage bytes ≡ None
  pub begins : take k bytes ≡ take k b

-- bytes that are completed, or will be
complete-step : (size : ℕ) (damage : List ℕ → Option ℕ) (b after : List ℕ) (k : ℕ) (o : Option ℕ) → length after ≡ size → AreSmall after → take k after ≡ take k b
    → damage after ≡ o → DamageLemmas.IsPast k o → ((j : ℕ) → damage after ≡ Some j → k < j → IsCompleted size damage after j) → IsCompleted size damage b k
complete-step size damage b after k None long small front is past later = record { bytes = after; long = long; small = small; whole = is; begins = front }
complete-step size damage b after k (Some j) long small front is past later =
    let rest = later j is past in
    let begins : take k rest.bytes ≡ take k after =
    sym (take-take k j rest.bytes (omega arith)) ∙ ap (λ (xs : List ℕ). take k xs) rest.begins ∙ take-take k j after (omega arith) in
    record { bytes = rest.bytes; long = rest.long; small = rest.small; whole = rest.whole; begins = begins ∙ front }

pub table-complete : (size : ℕ) (head : List NumberField) (tail : List ℕ → List NumberField) (fuel : ℕ) (b : List ℕ) (k : ℕ) → IsTable size head tail → length b ≡ size → AreSmall b
    → table_damage head tail b ≡ Some k → size ≤ k + fuel → IsCompleted size (table_damage head tail) b k
table-complete size head tail zero b k is long small damaged room = absurd (let h = table-within size head tail b k is damaged in omega arith)
table-complete size head tail (suc fuel) b k is long small damaged room =
    let next = table-fill size head tail b k is long damaged in
    let after = set b k next.0 in
    let after_long : length after ≡ size = length-set b k next.0 ∙ long in
    let after_small : AreSmall after = All-set (λ (x : ℕ). x < 256) b k next.0 next.1 small in
    complete-step size (table_damage head tail) b after k (table_damage head tail after) after_long after_small (take-set-le k b k next.0 (omega arith)) refl next.2
    (λ j damage past. table-complete size head tail fuel after j is after_long after_small damage (omega arith))

-- ---- the meaning

-- what is so of the damage by a table, and of the parts that bytes say
pub record IsGrammar {P : Type 0} (size : ℕ) (IsP : P → Type 0) (bytes_of : P → List ℕ) (value : List ℕ → P) (damage : List ℕ → Option ℕ) : Type 0 where
  pub same : (b c : List ℕ) (k : ℕ) → damage b ≡ Some k → DamageLemmas.SameUpTo k b c → damage c ≡ Some k
  pub complete : (b : List ℕ) (k : ℕ) → length b ≡ size → AreSmall b → damage b ≡ Some k → IsCompleted size damage b k
  pub read_back : (p : P) → IsP p → damage (bytes_of p) ≡ None
  pub written : (b : List ℕ) → length b ≡ size → AreSmall b → damage b ≡ None → IsP (value b) × (bytes_of (value b) ≡ b)

-- the first k bytes begin a part
abbrev pub BeginsBy : {P : Type 0} → (P → Type 0) → (P → List ℕ) → List ℕ → ℕ → Type 0
BeginsBy {P} IsP bytes_of b k = (p : P) × IsP p × (take k b ≡ take k (bytes_of p))

begins-less : {P : Type 0} (IsP : P → Type 0) (bytes_of : P → List ℕ) (b : List ℕ) (j k : ℕ) → j ≤ k → BeginsBy IsP bytes_of b k → BeginsBy IsP bytes_of b j
begins-less IsP bytes_of b j k less begins =
    (begins.0, begins.1, sym (take-take j k b less) ∙ ap (λ (xs : List ℕ). take j xs) begins.2 ∙ take-take j k (bytes_of begins.0) less)

same-front : (b c : List ℕ) (k : ℕ) → take (k + 1) b ≡ take (k + 1) c → DamageLemmas.SameUpTo k b c
same-front b c k front i within =
    let below : i < k + 1 = omega arith in
    sym (get_or-take (k + 1) b i 0 below) ∙ ap (λ (xs : List ℕ). slice_index xs i) front ∙ get_or-take (k + 1) c i 0 below

pub damage-means : {P : Type 0} (size : ℕ) (IsP : P → Type 0) (bytes_of : P → List ℕ) (value : List ℕ → P) (damage : List ℕ → Option ℕ) (b : List ℕ) (k : ℕ)
    → IsGrammar size IsP bytes_of value damage → length b ≡ size → AreSmall b → damage b ≡ Some k → IsDamagedAt (BeginsBy IsP bytes_of b) k
damage-means size IsP bytes_of value damage b k is long small damaged =
    let full = is.complete b k long small damaged in
    let part = is.written full.bytes full.long full.small full.whole in
    record {
      before = (value full.bytes, part.0, sym full.begins ∙ ap (λ (xs : List ℕ). take k xs) (sym part.1));
      not_with = λ begins.
          (let still = is.same b (bytes_of begins.0) k damaged (same-front b (bytes_of begins.0) k begins.2) in
          let whole = is.read_back begins.0 begins.1 in
          grind (arith));
    }

means-by : {P : Type 0} (size : ℕ) (IsP : P → Type 0) (bytes_of : P → List ℕ) (value : List ℕ → P) (damage : List ℕ → Option ℕ) (b : List ℕ) (k : ℕ) (o : Option ℕ)
    → IsGrammar size IsP bytes_of value damage → length b ≡ size → AreSmall b → damage b ≡ o → IsDamagedAt (BeginsBy IsP bytes_of b) k → o ≡ Some k
means-by size IsP bytes_of value damage b k None is long small whole means =
    let part = is.written b long small whole in
    absurd (means.not_with (value b, part.0, ap (λ (xs : List ℕ). take (k + 1) xs) (sym part.1)))
means-by size IsP bytes_of value damage b k (Some j) is long small damaged means =
    let found = damage-means size IsP bytes_of value damage b j is long small damaged in
    elim (cases_order j k) [
      | inl same ↦ ap Some same
      | inr (inl less) ↦ absurd (found.not_with (begins-less IsP bytes_of b (j + 1) k (omega arith) means.before))
      | inr (inr more) ↦ absurd (means.not_with (begins-less IsP bytes_of b (k + 1) j (omega arith) found.before))
    ]

pub means-damage : {P : Type 0} (size : ℕ) (IsP : P → Type 0) (bytes_of : P → List ℕ) (value : List ℕ → P) (damage : List ℕ → Option ℕ) (b : List ℕ) (k : ℕ)
    → IsGrammar size IsP bytes_of value damage → length b ≡ size → AreSmall b → IsDamagedAt (BeginsBy IsP bytes_of b) k → damage b ≡ Some k
means-damage size IsP bytes_of value damage b k is long small means = means-by size IsP bytes_of value damage b k (damage b) is long small refl means
