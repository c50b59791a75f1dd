-- A line of a report, and the bytes of both forms of a report.
use Rattle.std.specs.Prelude.{◌≡◌, ℕ, false, List, [], ◌∷◌, ◌++◌, Vec, flat_map, codes, decimal}
use Rattle.std.specs.declared.alloc.Global.{Global}
use Rattle.csv.specs.declared.writer.Writer.{Writer}
use Rattle.csv.specs.Writing.{row_text, default_writer, writer_setup, fields_written, has_written, writer_under, writer_pending}
use Rattle.edr_text.specs.Lines.{line_of}

-- a line: the number of its block, its name and its value
pub record Line : Type 0 where
  pub block : ℕ
  pub name : List ℕ
  pub value : List ℕ

abbrev pub line : ℕ → List ℕ → List ℕ → Line
line block name value = record { block = block; name = name; value = value }

-- `name: value` and a line feed
abbrev pub text_line : Line → List ℕ
text_line l = line_of l.name l.value

-- the record `block,name,value`
abbrev pub table_row : Line → List ℕ
table_row l = row_text default_writer (decimal l.block ∷ l.name ∷ l.value ∷ [])

-- the names of the three columns
abbrev pub table_head : List ℕ
table_head = row_text default_writer (codes "block" ∷ codes "name" ∷ codes "value" ∷ [])

-- the text form of lines
abbrev pub text_of : List Line → List ℕ
text_of lines = flat_map text_line lines

-- the table form of lines
abbrev pub table_of : List Line → List ℕ
table_of lines = table_head ++ flat_map table_row lines

-- what went out of the writer's buffer, and what is in it
abbrev pub table_bytes : Writer (Vec ℕ Global) → List ℕ
table_bytes w = (writer_under w).items ++ writer_pending w

-- the writer writes in its default form, and stands before a record
pub record IsReadyForRecord (w : Writer (Vec ℕ Global)) : Type 0 where
  pub setup : writer_setup w ≡ default_writer
  pub fields : fields_written w ≡ 0
  pub blank : has_written w ≡ false
