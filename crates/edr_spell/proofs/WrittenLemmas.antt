-- Rows that are written line by line are read.
use Rattle.std.proofs.Common.{arith, ◌≡◌, ◌≢◌, ◌∙◌, ap, ap₂, refl, ℕ, suc, ◌≤◌, ℤ, pos, negsuc, Bool, true, false, ◌&&◌, ◌||◌, nat_le, Option, Some, None, Result, Ok, List, [], ◌∷◌, map, get_or}
use Rattle.std.proofs.lemmas.Bool.Decides.{nat_tests}
use Rattle.std.specs.List.{list_any, list_all, AllByRecursion}
use Rattle.std.specs.Option.{option_map_or}
use Rattle.edr_items.specs.declared.Sensor.{Sensor}
use Rattle.edr_items.specs.declared.Sensor.TheVariants as s
use Rattle.edr_text.specs.Numbers.{is_digit, is_numeral, natural_in, integer_in, numeral, signed_numeral}
use Rattle.edr_text.proofs.SpellingLemmas.{is_numeral-numeral, natural_in-numeral, integer_in-numeral}
use Rattle.edr_spell.specs.declared.CycleInput.{CycleInput}
use Rattle.edr_spell.specs.declared.Word.TheVariants as w
use Rattle.edr_spell.specs.declared.Row.{Row}
use Rattle.edr_spell.specs.declared.Row.TheVariants as row
use Rattle.edr_spell.specs.declared.TraceFault.{TraceFault}
use Rattle.edr_spell.specs.Rows.{spelling_of, word_of, up_to, value_in, in_i32, is_i32, row_by, row_of, highest_u32, IsRow, AreRows}
use Rattle.edr_spell.specs.Spell.{SpellCycles, Spell}
use Rattle.edr_spell.specs.Lines.{fields_in, is_special, IsPlain, value_text, line_for, text_of}
use Rattle.edr_spell.proofs.LineLemmas.{lines-records}

digits-plain : (bs : List ℕ) → list_all is_digit bs ≡ true → list_any is_special bs ≡ false
digits-plain [] h = refl
digits-plain (b ∷ bs) h =
    let p = and-parts (is_digit b) (list_all is_digit bs) h in
    ap₂ (λ (x y : Bool). x || y) (one b p.0) (digits-plain bs p.1)
  where
    and-parts : (x y : Bool) → (x && y) ≡ true → (x ≡ true) × (y ≡ true)
    and-parts true y k = (refl, k)
    and-parts false y k = cc k

    one : (b : ℕ) → is_digit b ≡ true → is_special b ≡ false
    one b k = grind (arith, nat_tests)

numeral-digits : (bs : List ℕ) → is_numeral bs ≡ true → list_all is_digit bs ≡ true
numeral-digits [] h = refl
numeral-digits (b ∷ bs) h = first (list_all is_digit (b ∷ bs)) _ h
  where
    first : (x y : Bool) → (x && y) ≡ true → x ≡ true
    first true y k = refl
    first false y k = cc k

numeral-plain : (n : ℕ) → list_any is_special (numeral n) ≡ false
numeral-plain n = digits-plain (numeral n) (numeral-digits (numeral n) (is_numeral-numeral n).0)

value-plain : (o : Option ℤ) → list_any is_special (value_text o) ≡ false
value-plain None = refl
value-plain (Some (pos n)) = numeral-plain n
value-plain (Some (negsuc n)) = numeral-plain (suc n)

sensor-plain : (x : Sensor) → list_any is_special (spelling_of (w.Of x)) ≡ false
sensor-plain s.Along = refl
sensor-plain x = refl

-- the line of a row has no special byte
pub line_for-plain : (r : Row) → IsPlain (line_for r)
line_for-plain (row.On k) = (refl, numeral-plain k, refl)
line_for-plain (row.Sample x i) = (sensor-plain x, numeral-plain i.moment, value-plain i.value)
line_for-plain (row.Cut k) = (refl, numeral-plain k, refl)

word_of-sensor : (x : Sensor) → word_of (spelling_of (w.Of x)) ≡ Some (w.Of x)
unfolding word_of
word_of-sensor s.Along = refl
word_of-sensor x = refl

within : (n limit : ℕ) → n ≤ limit → up_to limit (natural_in (numeral n)) ≡ Ok n
within n limit h = ap (up_to limit) (natural_in-numeral n) ∙ rw (le n limit h) refl
  where
    le : (n limit : ℕ) → n ≤ limit → nat_le n limit ≡ true
    le n limit k = grind (arith, nat_tests)

value_in-some : (bs : List ℕ) (z : ℤ) → integer_in bs ≡ Some z → value_in bs ≡ in_i32 (Some z)
unfolding integer_in
value_in-some [] z h = cc h
value_in-some (b ∷ bs) z h = ap in_i32 h

value-read : (o : Option ℤ) → option_map_or is_i32 o true ≡ true → value_in (value_text o) ≡ Ok o
value-read None h = refl
value-read (Some z) h = value_in-some (signed_numeral z) z (integer_in-numeral z) ∙ rw h refl

-- the line of a row is read as that row
pub row-read : (r : Row) → IsRow r → row_of (fields_in (line_for r)) ≡ Ok r
unfolding row_of row_by word_of
row-read (row.On k) h = rw (within k 6 h) refl
row-read (row.Sample x i) h = rw (word_of-sensor x, within i.moment highest_u32 h.0, value-read i.value h.1) refl
row-read (row.Cut k) h = rw (within k highest_u32 h) refl

rows-read : (rows : List Row) → AllByRecursion IsRow rows → AreRows (map fields_in (map line_for rows)) rows
rows-read [] h = refl
rows-read (r ∷ rows) h = ap₂ (λ (x : Result Row TraceFault) (y : List (Result Row TraceFault)). x ∷ y) (row-read r h.0) (rows-read rows h.1)

lines-plain : (rows : List Row) → AllByRecursion IsPlain (map line_for rows)
lines-plain [] = tt
lines-plain (r ∷ rows) = (line_for-plain r, lines-plain rows)

no-mark : (rows : List Row) → get_or (text_of rows) 0 0 ≢ 239
no-mark [] = λ e. omega (arith, e)
no-mark (row.Sample s.Along i ∷ rows) = λ e. omega (arith, e)
no-mark (r ∷ rows) = λ e. omega (arith, e)

pub written-spelled : (rows : List Row) (cycles : List CycleInput) → AllByRecursion IsRow rows → SpellCycles rows cycles → Spell (text_of rows) cycles
written-spelled rows cycles are spelled = record {
  records = map fields_in (map line_for rows);
  rows = rows;
  read = lines-records (map line_for rows) (lines-plain rows) (no-mark rows);
  meant = rows-read rows are;
  spelled = spelled;
}
