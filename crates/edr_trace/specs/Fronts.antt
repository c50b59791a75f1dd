-- What stands in front of bytes at a record's beginning.
use Rattle.std.specs.Prelude.{◌≡◌, ◌≢◌, ◌≤◌, ◌⊎◌, ℕ, Bool, false, Ok, None, List, [], ◌∷◌, ◌++◌, length, slice_index}
use Rattle.std.specs.List.{list_any}
use Rattle.csv.specs.Reading.{AreRecords, default_config}
use Rattle.csv.specs.declared.parser.State.TheVariants.{StartRecord}
use Rattle.edr_spell.specs.declared.Row.{Row}
use Rattle.edr_spell.specs.Rows.{row_of}
use Rattle.edr_spell.specs.Lines.{is_special}
use Rattle.edr_spell.specs.Fault.{fault_in, fault_of}
use Rattle.edr_spell.specs.Steps.{feeds_next, cycles_next}
use Rattle.edr_trace.specs.Told.{TellsRow}
use Rattle.edr_trace.specs.declared.steps.RowRefused.{RowRefused}
use Rattle.edr_trace.specs.declared.steps.Trace.{Trace}

-- a line feed, a carriage return, or both: what ends a line
abbrev pub IsLineEnd : List ℕ → Type 0
IsLineEnd text = (text ≡ 10 ∷ []) ⊎ ((text ≡ 13 ∷ []) ⊎ (text ≡ 13 ∷ 10 ∷ []))

-- the end of a line is in front of the bytes
pub record EndsLine (bytes rest : List ℕ) : Type 0 where
  pub text : List ℕ
  pub is_end : IsLineEnd text
  pub parts : bytes ≡ text ++ rest

-- the text spells the field, without quotes or with them
abbrev pub IsSpelled : List ℕ → List ℕ → Type 0
IsSpelled field text = (text ≡ field) ⊎ (text ≡ 34 ∷ (field ++ 34 ∷ []))

-- a field with no special byte is in front of the bytes
pub record IsFieldIn (field bytes rest : List ℕ) : Type 0 where
  pub text : List ℕ
  pub spelled : IsSpelled field text
  pub plain : list_any is_special field ≡ false
  pub parts : bytes ≡ text ++ rest

-- whatever follows this text, csv reads a record with these fields, and then the records of what follows
abbrev pub IsRecordText : List (List ℕ) → List ℕ → Type 0
IsRecordText fields text = (more : List ℕ) (left : List (List (List ℕ))) → AreRecords default_config StartRecord more left
    → AreRecords default_config StartRecord (text ++ more) (fields ∷ left)

-- a record with these fields is in front of the bytes, which don't begin as a byte order mark does
pub record IsRecordIn (fields : List (List ℕ)) (bytes rest : List ℕ) : Type 0 where
  pub text : List ℕ
  pub reads : IsRecordText fields text
  pub some : 1 ≤ length text
  pub first : slice_index bytes 0 ≢ 239
  pub parts : bytes ≡ text ++ rest

-- a record that is this row is in front of the bytes
pub record IsRowIn (row : Row) (bytes rest : List ℕ) : Type 0 where
  pub fields : List (List ℕ)
  pub is_row : row_of fields ≡ Ok row
  pub record_in : IsRecordIn fields bytes rest

-- what is no row is in front of the bytes: a byte of a blank line, or a byte order mark at the front of the whole
abbrev pub IsNoRow : Bool → List ℕ → List ℕ → Type 0
IsNoRow begun bytes rest = (bytes ≡ 10 ∷ rest) ⊎ ((bytes ≡ 13 ∷ rest) ⊎ ((begun ≡ false) × (bytes ≡ 239 ∷ 187 ∷ 191 ∷ rest)))

-- a row is in front of the bytes, and is taken
pub record IsRowTaken (old new : Trace) (bytes rest : List ℕ) : Type 0 where
  pub row : Row
  pub row_in : IsRowIn row bytes rest
  pub fault : fault_in old.inside row ≡ None
  pub inside : new.inside ≡ feeds_next old.inside row
  pub cycles : new.cycles.items ≡ old.cycles.items ++ cycles_next old.inside row

-- a record is in front of the bytes, and isn't taken
pub record IsRowRefused (old : Trace) (bytes : List ℕ) (e : RowRefused) : Type 0 where
  pub fields : List (List ℕ)
  pub rest : List ℕ
  pub record_in : IsRecordIn fields bytes rest
  pub told : TellsRow (fault_of old.inside (row_of fields)) e
