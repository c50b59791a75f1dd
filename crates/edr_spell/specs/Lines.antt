-- Traces that are written line by line, with no quotes.
use Rattle.std.specs.Prelude.{◌≡◌, ◌≢◌, ℕ, ℤ, Bool, false, ◌==◌, ◌||◌, ◌++◌, Option, Some, None, List, [], ◌∷◌, map, flat_map, slice_index}
use Rattle.std.specs.List.{list_any}
use Rattle.edr_text.specs.Numbers.{numeral, signed_numeral}
use Rattle.edr_spell.specs.declared.Word.TheVariants as w
use Rattle.edr_spell.specs.declared.Row.{Row}
use Rattle.edr_spell.specs.declared.Row.TheVariants as row
use Rattle.edr_spell.specs.Rows.{spelling_of}

-- the three fields of a line
pub record TraceLine : Type 0 where
  pub first : List ℕ
  pub second : List ℕ
  pub third : List ℕ

-- its fields, in order
abbrev pub fields_in : TraceLine → List (List ℕ)
fields_in l = l.first ∷ l.second ∷ l.third ∷ []

-- the line with its commas and its line feed
abbrev pub line_text : TraceLine → List ℕ
line_text l = l.first ++ 44 ∷ (l.second ++ 44 ∷ (l.third ++ 10 ∷ []))

-- the lines one after the other
abbrev pub lines_text : List TraceLine → List ℕ
lines_text lines = flat_map line_text lines

-- no byte order mark stands at the front
abbrev pub HasNoMark : List ℕ → Type 0
HasNoMark bytes = slice_index bytes 0 ≢ 239

-- a comma, a quote, a carriage return or a line feed
abbrev pub is_special : ℕ → Bool
is_special b = (b == 44) || (b == 34) || (b == 13) || (b == 10)

-- none of the fields has such a byte
abbrev pub IsPlain : TraceLine → Type 0
IsPlain l = (list_any is_special l.first ≡ false) × (list_any is_special l.second ≡ false) × (list_any is_special l.third ≡ false)

-- how a value, or none, is spelled
abbrev pub value_text : Option ℤ → List ℕ
value_text None = []
value_text (Some z) = signed_numeral z

-- the line that spells a row
abbrev pub line_for : Row → TraceLine
line_for (row.On k) = record { first = spelling_of w.On; second = numeral k; third = [] }
line_for (row.Sample s x) = record { first = spelling_of (w.Of s); second = numeral x.moment; third = value_text x.value }
line_for (row.Cut k) = record { first = spelling_of w.Cut; second = numeral k; third = [] }

-- the text of these rows, a line for each
abbrev pub text_of : List Row → List ℕ
text_of rows = lines_text (map line_for rows)
