-- How many cycles a trace spells.
use Rattle.std.proofs.Common.{◌≡◌, refl, sym, ap, ◌∙◌, arith, ℕ, ◌^◌, ◌<◌, ◌≤◌, inl, inr, List, [], ◌∷◌, length, length-append, Ok}
use Rattle.std.proofs.lemmas.List.{length-map}
use Rattle.std.proofs.lemmas.List.Sums.{count_by-le-length}
use Rattle.edr_spell.proofs.CsvLemmas.{length-strip_bom, reached-count}
use Rattle.edr_spell.specs.declared.CycleInput.{CycleInput}
use Rattle.edr_spell.specs.declared.Row.{Row}
use Rattle.edr_spell.specs.Rows.{AreRows, row_of}
use Rattle.edr_spell.specs.Spell.{Spell, SpellCycles, SpellsCycle, largest_trace}
use Rattle.edr_audit.specs.Verdicts.{may_fork, stops_in}

-- no more may fork than there are
pub stops_few : (cs : List CycleInput) → stops_in cs ≤ length cs
stops_few cs = count_by-le-length may_fork cs

-- each cycle has a row of its own
some_row : (rows : List Row) (c : CycleInput) → SpellsCycle rows c → 1 ≤ length rows
some_row rows c (inl s) = let long = ap length s.2 in omega (arith, long)
some_row rows c (inr s) = let long = ap length s.2 in omega (arith, long)

cycles_of_rows : (rows : List Row) (cs : List CycleInput) → SpellCycles rows cs → length cs ≤ length rows
unfolding SpellCycles
cycles_of_rows rows [] h = omega arith
cycles_of_rows rows (c ∷ cs) h =
    let first = some_row h.0 c h.3 in
    let later = cycles_of_rows h.1 cs h.4 in
    let long = ap length h.2 in
    let both = length-append h.0 h.1 in
    omega (arith, first, later, long, both)

-- each row is a record
rows_of_records : (records : List (List (List ℕ))) (rows : List Row) → AreRows records rows → length records ≡ length rows
rows_of_records records rows h = sym (length-map records row_of) ∙ ap length h ∙ length-map rows Ok

-- and each record takes a byte
pub cycles_of_bytes : (trace : List ℕ) (cs : List CycleInput) → Spell trace cs → length cs ≤ length trace
cycles_of_bytes trace cs h =
    let few = cycles_of_rows h.rows cs h.spelled in
    let same = rows_of_records h.records h.rows h.meant in
    let taken = reached-count _ _ h.read.0 _ h.read.1 h.records refl h.read.2 in
    let bare = length-strip_bom trace in
    omega (arith, few, same, taken, bare)

-- so their number is a u32
pub cycles_few : (trace : List ℕ) (cs : List CycleInput) → Spell trace cs → length trace ≤ largest_trace → length cs < 2 ^ 32
cycles_few trace cs h few = let some = cycles_of_bytes trace cs h in omega (arith, some, few)
