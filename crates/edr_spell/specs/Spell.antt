-- Which cycles a trace spells.
use Rattle.std.specs.Prelude.{◌≡◌, ℕ, ◌≤◌, ◌⊎◌, List, [], ◌∷◌, ◌++◌, map}
use Rattle.csv.specs.Reading.{AreRecords, default_config, strip_bom}
use Rattle.csv.specs.declared.parser.State.TheVariants as st
use Rattle.edr_items.specs.SensorLists.{AreFeeds, IsLevel, no_items}
use Rattle.edr_spell.specs.declared.CycleInput.{CycleInput}
use Rattle.edr_spell.specs.declared.Row.{Row}
use Rattle.edr_spell.specs.declared.Row.TheVariants as row
use Rattle.edr_spell.specs.Rows.{AreRows, highest_u32}
use Rattle.edr_spell.specs.Samples.{Sample, row_for, feeds_given}

-- the most bytes that a trace may have
abbrev pub largest_trace : ℕ
largest_trace = 67108864

-- a cycle whose start is stopped: it has no further rows
abbrev pub stopped_cycle : ℕ → CycleInput
stopped_cycle k = record { start_stop = k; feeds = no_items; stop = 0 }

-- a cycle with these sensor rows, which ends in a cut
abbrev pub whole_cycle : List Sample → ℕ → CycleInput
whole_cycle xs k = record { start_stop = 0; feeds = feeds_given xs; stop = k }

-- the rows are the one of a cycle whose start is stopped
abbrev pub IsStoppedStart : List Row → CycleInput → Type 0
IsStoppedStart rows c = (k : ℕ) × (1 ≤ k) × (rows ≡ row.On k ∷ []) × (c ≡ stopped_cycle k)

-- the rows are `on,0,`, sensor rows and a cut, and what they give is level feeds
abbrev pub IsWholeCycle : List Row → CycleInput → Type 0
IsWholeCycle rows c = (xs : List Sample) × (k : ℕ) × (rows ≡ row.On 0 ∷ map row_for xs ++ row.Cut k ∷ [])
    × AreFeeds (feeds_given xs) × IsLevel (feeds_given xs) × (c ≡ whole_cycle xs k)

-- the rows are those of this one cycle
abbrev pub SpellsCycle : List Row → CycleInput → Type 0
SpellsCycle rows c = IsStoppedStart rows c ⊎ IsWholeCycle rows c

-- the rows are those of these cycles, one after the other
unfoldable pub SpellCycles : List Row → List CycleInput → Type 0
SpellCycles rows [] = rows ≡ []
SpellCycles rows (c ∷ cs) = (first : List Row) × (rest : List Row) × (rows ≡ first ++ rest) × SpellsCycle first c × SpellCycles rest cs

-- these are all the records that csv gives of the bytes
abbrev pub RecordsOf : List ℕ → List (List (List ℕ)) → Type 0
RecordsOf bytes records = AreRecords default_config st.StartRecord (strip_bom bytes) records

-- the records of the bytes spell the cycles
pub record Spell (bytes : List ℕ) (cycles : List CycleInput) : Type 0 where
  pub records : List (List (List ℕ))
  pub rows : List Row
  pub read : RecordsOf bytes records
  pub meant : AreRows records rows
  pub spelled : SpellCycles rows cycles

-- the numbers of the cycle are in their bounds, what its sensors gave is level feeds, and a stopped start has nothing else
pub record IsCycleInput (c : CycleInput) : Type 0 where
  pub start_stop : c.start_stop ≤ 6
  pub stop : c.stop ≤ highest_u32
  pub stopped : 1 ≤ c.start_stop → c ≡ stopped_cycle c.start_stop
  pub feeds : AreFeeds c.feeds
  pub level : IsLevel c.feeds
