-- The bounds of what is read: of the rows, and of the cycles that they spell.
use Rattle.std.proofs.Common.{arith, ◌≡◌, ap, subst, sym, refl, ℕ, ◌≤◌, ℤ, Bool, true, false, nat_le, Option, Some, None, Result, Ok, Err, List, [], ◌∷◌, ◌++◌, map, inl, inr}
use Rattle.std.proofs.lemmas.Bool.Decides.{nat_tests}
use Rattle.std.specs.List.{AllByRecursion}
use Rattle.std.specs.Option.{option_map_or}
use Rattle.edr_items.specs.declared.Sensor.{Sensor}
use Rattle.edr_items.specs.declared.Item.{Item}
use Rattle.edr_items.specs.Item.{mark_of}
use Rattle.edr_items.specs.SensorLists.{items_of, no_items, IsLevel}
use Rattle.edr_items.proofs.FeedLemmas.{no_items-feeds}
use Rattle.edr_items.proofs.PerSensorLemmas.{value_of-each}
use Rattle.edr_text.specs.Numbers.{natural_in, integer_in}
use Rattle.edr_spell.specs.declared.CycleInput.{CycleInput}
use Rattle.edr_spell.specs.declared.Word.{Word}
use Rattle.edr_spell.specs.declared.Word.TheVariants as w
use Rattle.edr_spell.specs.declared.Row.{Row}
use Rattle.edr_spell.specs.declared.Row.TheVariants as row
use Rattle.edr_spell.specs.declared.TraceFault.{TraceFault}
use Rattle.edr_spell.specs.Rows.{◌>>=◌, is_i32, in_i32, value_in, nothing_in, up_to, highest_u32, word_of, row_by, row_of, IsRow, AreRows}
use Rattle.edr_spell.specs.Samples.{row_for}
use Rattle.edr_spell.specs.Spell.{stopped_cycle, SpellsCycle, SpellCycles, Spell, IsCycleInput}

-- where two steps are right, the first one is
first-right : {A B : Type 0} (x : Result A TraceFault) (next : A → Result B TraceFault) (r : B) → (x >>= next) ≡ Ok r → (a : A) × (x ≡ Ok a) × (next a ≡ Ok r)
first-right (Ok a) next r h = (a, refl, h)
first-right (Err e) next r h = cc h

up_to-within : (limit : ℕ) (o : Option ℕ) (n : ℕ) → up_to limit o ≡ Ok n → n ≤ limit
up_to-within limit None n h = cc h
up_to-within limit (Some m) n h = by (nat_le m limit) refl h
  where
    le : (a b : ℕ) → nat_le a b ≡ true → a ≤ b
    le a b k = grind (arith, nat_tests)

    by : (b : Bool) → nat_le m limit ≡ b → up_to limit (Some m) ≡ Ok n → n ≤ limit
    by true e k =
        let same : m ≡ n = let j = rw e at k in cc j in
        subst (λ (x : ℕ). x ≤ limit) same (le m limit e)
    by false e k = let j = rw e at k in cc j

in_i32-within : (o : Option ℤ) (v : Option ℤ) → in_i32 o ≡ Ok v → option_map_or is_i32 v true ≡ true
in_i32-within None v h = cc h
in_i32-within (Some z) v h = by (is_i32 z) refl h
  where
    by : (b : Bool) → is_i32 z ≡ b → in_i32 (Some z) ≡ Ok v → option_map_or is_i32 v true ≡ true
    by true e k =
        let same : Some z ≡ v = let j = rw e at k in cc j in
        subst (λ (x : Option ℤ). option_map_or is_i32 x true ≡ true) same e
    by false e k = let j = rw e at k in cc j

value_in-within : (bytes : List ℕ) (v : Option ℤ) → value_in bytes ≡ Ok v → option_map_or is_i32 v true ≡ true
value_in-within [] v h =
    let same : None ≡ v = cc h in
    subst (λ (x : Option ℤ). option_map_or is_i32 x true ≡ true) same refl
value_in-within (b ∷ bs) v h = in_i32-within (integer_in (b ∷ bs)) v h

row_by-bounds : (word : Option Word) (second third : List ℕ) (r : Row) → row_by word second third ≡ Ok r → IsRow r
unfolding row_by
row_by-bounds None second third r h = cc h
row_by-bounds (Some w.On) second third r h =
    let a = first-right (up_to 6 (natural_in second)) _ r h in
    let b = first-right (nothing_in third) _ r a.2 in
    let same : row.On a.0 ≡ r = cc b.2 in
    subst IsRow same (up_to-within 6 (natural_in second) a.0 a.1)
row_by-bounds (Some w.Cut) second third r h =
    let a = first-right (up_to highest_u32 (natural_in second)) _ r h in
    let b = first-right (nothing_in third) _ r a.2 in
    let same : row.Cut a.0 ≡ r = cc b.2 in
    subst IsRow same (up_to-within highest_u32 (natural_in second) a.0 a.1)
row_by-bounds (Some (w.Of s)) second third r h =
    let a = first-right (up_to highest_u32 (natural_in second)) _ r h in
    let b = first-right (value_in third) _ r a.2 in
    let same : row.Sample s (record { moment = a.0; value = b.0 }) ≡ r = cc b.2 in
    subst IsRow same (up_to-within highest_u32 (natural_in second) a.0 a.1, value_in-within third b.0 b.1)

-- what is read as a row is within the bounds
pub row_of-bounds : (fields : List (List ℕ)) (r : Row) → row_of fields ≡ Ok r → IsRow r
unfolding row_of
row_of-bounds [] r h = cc h
row_of-bounds (a ∷ []) r h = cc h
row_of-bounds (a ∷ b ∷ []) r h = cc h
row_of-bounds (a ∷ b ∷ c ∷ []) r h = row_by-bounds (word_of a) b c r h
row_of-bounds (a ∷ b ∷ c ∷ d ∷ more) r h = cc h

rows-bounds : (records : List (List (List ℕ))) (rows : List Row) → AreRows records rows → AllByRecursion IsRow rows
rows-bounds [] [] h = tt
rows-bounds [] (r ∷ rows) h = cc h
rows-bounds (f ∷ records) [] h = cc
rows-bounds (f ∷ records) (r ∷ rows) h =
    let first : row_of f ≡ Ok r = cc h in
    let rest : AreRows records rows = cc h in
    (row_of-bounds f r first, rows-bounds records rows rest)

all-front : (a b : List Row) → AllByRecursion IsRow (a ++ b) → AllByRecursion IsRow a
all-front [] b h = tt
all-front (r ∷ a) b h = (h.0, all-front a b h.1)

all-back : (a b : List Row) → AllByRecursion IsRow (a ++ b) → AllByRecursion IsRow b
all-back [] b h = h
all-back (r ∷ a) b h = all-back a b h.1

no_items-mark : (s : Sensor) → mark_of (items_of s no_items) ≡ 0
no_items-mark s = ap (λ (xs : List Item). mark_of xs) (value_of-each {A = List Item} [] s)

no_items-level : IsLevel no_items
no_items-level = λ s r. let a = no_items-mark s in omega (arith, a)

stopped-is : (k : ℕ) → k ≤ 6 → IsCycleInput (stopped_cycle k)
stopped-is k h = record { start_stop = h; stop = omega arith; stopped = λ one. refl; feeds = no_items-feeds; level = no_items-level }

cycle-is : (rows : List Row) (c : CycleInput) → AllByRecursion IsRow rows → SpellsCycle rows c → IsCycleInput c
cycle-is rows c are (inl h) =
    let on = subst (λ (x : List Row). AllByRecursion IsRow x) h.2 are in
    subst IsCycleInput (sym h.3) (stopped-is h.0 on.0)
cycle-is rows c are (inr h) =
    let all = subst (λ (x : List Row). AllByRecursion IsRow x) h.2 are in
    let cut = all-back (map row_for h.0) (row.Cut h.1 ∷ []) all.1 in
    subst IsCycleInput (sym h.5) (record { start_stop = omega arith; stop = cut.0; stopped = λ one. absurd (omega (arith, one)); feeds = h.3; level = h.4 })

cycles-are : (rows : List Row) (cs : List CycleInput) → AllByRecursion IsRow rows → SpellCycles rows cs → AllByRecursion IsCycleInput cs
unfolding SpellCycles
cycles-are rows [] are h = tt
cycles-are rows (c ∷ cs) are h =
    let all = subst (λ (x : List Row). AllByRecursion IsRow x) h.2 are in
    (cycle-is h.0 c (all-front h.0 h.1 all) h.3, cycles-are h.1 cs (all-back h.0 h.1 all) h.4)

-- so are the cycles that are spelled
pub spelled-cycles : (bytes : List ℕ) (cycles : List CycleInput) → Spell bytes cycles → AllByRecursion IsCycleInput cycles
spelled-cycles bytes cycles h = cycles-are h.rows cycles (rows-bounds h.records h.rows h.meant) h.spelled
