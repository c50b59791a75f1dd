-- The tables of the parts, as the code has them.
use Rattle.std.specs.Prelude.{ℕ, ◌*◌, Option, Some, None, List, [], ◌∷◌, replicate}
use Rattle.edr_image.specs.PartBytes.{NumberField, field}
use Rattle.edr_codec.specs.declared.rows.FieldRow.{FieldRow}

-- a second range, if there is one
abbrev pub other_ranges : Option (ℕ × ℕ) → List (ℕ × ℕ)
other_ranges None = []
other_ranges (Some r) = r ∷ []

-- the ranges of the fields of a row
abbrev pub ranges_of : FieldRow → List (ℕ × ℕ)
ranges_of row = row.values ∷ other_ranges row.others

-- the fields of a row
abbrev pub fields_of : FieldRow → List NumberField
fields_of row = replicate row.count (field row.size (ranges_of row))

-- how many bytes a row has
abbrev pub row_size : FieldRow → ℕ
row_size row = row.size * row.count
