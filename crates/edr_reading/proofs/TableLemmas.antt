-- The records of a table.
use Rattle.std.proofs.Common.{arith, ◌≡◌, refl, ℕ, zero, suc, ◌<◌, List, [], ◌∷◌, length, Some, None, sym, subst, ◌++◌, map, flat_map, drop, codes, decimal}
use Rattle.csv.specs.{Records.field_at, Machine.{Read, next_record}, Reading.{AreRecords, Reached, default_config, strip_bom}}
use Rattle.csv.specs.Writing.{fields_text, is_blank}
use Rattle.csv.specs.declared.parser.State.TheVariants as st
use Rattle.csv.proofs.RoundTrip.{read-write-many}
use Rattle.edr_report.specs.Lines.{Line, table_row, table_head, table_of}
use Rattle.edr_reading.specs.Reading.{head_row, line_fields}
use Rattle.edr_spell.specs.Spell.{RecordsOf}

-- ---- the three fields of a record

pub three-fields : (fs : List (List ℕ)) (x y z : List ℕ) → length fs ≡ 3 → Some x ≡ field_at fs 0 → Some y ≡ field_at fs 1 → Some z ≡ field_at fs 2 → x ∷ y ∷ z ∷ [] ≡ fs
unfolding field_at
three-fields [] x y z n a b c = absurd (omega arith)
three-fields (p ∷ []) x y z n a b c = absurd (omega arith)
three-fields (p ∷ q ∷ []) x y z n a b c = absurd (omega arith)
three-fields (p ∷ q ∷ r ∷ []) x y z n a b c =
    let d : x ≡ p = cc in
    let e : y ≡ q = cc in
    let f : z ≡ r = cc in
    rw (d, e, f) refl
three-fields (p ∷ q ∷ r ∷ t ∷ ts) x y z n a b c = absurd (omega arith)

pub field_at-there : (fs : List (List ℕ)) (i : ℕ) → i < length fs → None ≡ field_at fs i → ⊥
unfolding field_at
field_at-there [] i h e = absurd (omega arith)
field_at-there (f ∷ fs) zero h e = cc
field_at-there (f ∷ fs) (suc i) h e = field_at-there fs i (omega arith) e

-- ---- the table of lines is read as their rows

rows-read : (ls : List Line) → AreRecords default_config st.StartRecord (flat_map table_row ls) (map line_fields ls)
unfolding Reached next_record
rows-read [] = (st.StartRecord, [], (refl, refl), refl)
rows-read (l ∷ ls) =
    let more = rows-read ls in
    let p : Read = (line_fields l, st.StartRecord, flat_map table_row ls) in
    (more.0, more.1, (p, read-write-many (decimal l.block) l.name (l.value ∷ []) (flat_map table_row ls), refl, more.2), more.3)

all-read : (ls : List Line) → AreRecords default_config st.StartRecord (table_of ls) (head_row ∷ map line_fields ls)
unfolding Reached
all-read ls =
    let more = rows-read ls in
    let p : Read = (head_row, st.StartRecord, flat_map table_row ls) in
    (more.0, more.1, (p, read-write-many (codes "block") (codes "name") (codes "value" ∷ []) (flat_map table_row ls), refl, more.2), more.3)

-- a table doesn't begin with a byte order mark
head-is : table_head ≡ 98 ∷ 108 ∷ 111 ∷ drop 3 table_head
unfolding fields_text is_blank
head-is = refl

no-mark : (head rest : List ℕ) → head ≡ 98 ∷ 108 ∷ 111 ∷ drop 3 head → strip_bom (head ++ rest) ≡ head ++ rest
unfolding strip_bom
no-mark head rest e = rw e refl

pub table-read : (ls : List Line) → RecordsOf (table_of ls) (head_row ∷ map line_fields ls)
table-read ls = subst (λ (x : List ℕ). AreRecords default_config st.StartRecord x (head_row ∷ map line_fields ls)) (sym (no-mark table_head (flat_map table_row ls) head-is)) (all-read ls)
