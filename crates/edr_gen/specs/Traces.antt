-- The trace of a number: its cycles, its rows and its bytes.
use Rattle.std.specs.Prelude.{ℕ, zero, suc, List, [], ◌∷◌, ◌++◌, map}
use Rattle.edr_spell.specs.declared.CycleInput.{CycleInput}
use Rattle.edr_spell.specs.declared.Row.{Row}
use Rattle.edr_spell.specs.declared.Row.TheVariants as row
use Rattle.edr_spell.specs.Samples.{Sample, row_for}
use Rattle.edr_spell.specs.Spell.{whole_cycle}
use Rattle.edr_spell.specs.Lines.{text_of}
use Rattle.edr_gen.specs.declared.plan.TheConstants.{TICKS}
use Rattle.edr_gen.specs.Draws.{Planned, plan_from, state_past}
use Rattle.edr_gen.specs.Cycles.{samples_after}

-- what the sensors give in a planned cycle
abbrev pub samples_of : Planned → List Sample
samples_of p = samples_after p.impulses 0 TICKS

-- the cycle
abbrev pub cycle_of : Planned → CycleInput
cycle_of p = whole_cycle (samples_of p) p.stop

-- its rows
abbrev pub rows_of : Planned → List Row
rows_of p = row.On 0 ∷ map row_for (samples_of p) ++ row.Cut p.stop ∷ []

-- the cycles that a number gives, so many of them
unfoldable pub generated_cycles : ℕ → ℕ → List CycleInput
generated_cycles x zero = []
generated_cycles x (suc m) = cycle_of (plan_from x) ∷ generated_cycles (state_past x) m

-- their rows
unfoldable pub generated_rows : ℕ → ℕ → List Row
generated_rows x zero = []
generated_rows x (suc m) = rows_of (plan_from x) ++ generated_rows (state_past x) m

-- the bytes of the trace
abbrev pub generated_trace : ℕ → ℕ → List ℕ
generated_trace x m = text_of (generated_rows x m)
