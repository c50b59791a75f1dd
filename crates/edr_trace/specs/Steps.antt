-- What a step over one more row does.
use Rattle.std.specs.Prelude.{◌≡◌, Result, Ok, None, List, ◌++◌}
use Rattle.edr_items.specs.declared.Item.{Item}
use Rattle.edr_items.specs.declared.Sensor.{Sensor}
use Rattle.edr_spell.specs.declared.CycleInput.{CycleInput}
use Rattle.edr_spell.specs.declared.Row.{Row}
use Rattle.edr_spell.specs.declared.Row.TheVariants as row
use Rattle.edr_spell.specs.declared.TraceFault.{TraceFault}
use Rattle.edr_spell.specs.Fault.{fault_in}
use Rattle.edr_spell.specs.Rows.{IsRow}
use Rattle.edr_spell.specs.Steps.{feeds_next, cycles_next}
use Rattle.edr_trace.specs.declared.steps.Trace.{Trace}

-- the trace has these cycles more
abbrev pub GainsCycles : List CycleInput → Trace → Trace → Type 0
GainsCycles cycles old new = new.cycles.items ≡ old.cycles.items ++ cycles

-- what was read is a row that has no fault there, and the row is taken
abbrev pub TakesRead : Result Row TraceFault → Trace → Trace → Type 0
TakesRead read old new = (row : Row) × (read ≡ Ok row) × (fault_in old.inside row ≡ None)
    × (new.inside ≡ feeds_next old.inside row) × GainsCycles (cycles_next old.inside row) old new

-- the item of the sensor is a row that has no fault there, and the row is taken
abbrev pub TakesSample : Sensor → Item → Trace → Trace → Type 0
TakesSample s x old new = IsRow (row.Sample s x) × (fault_in old.inside (row.Sample s x) ≡ None)
    × (new.inside ≡ feeds_next old.inside (row.Sample s x)) × (new.cycles.items ≡ old.cycles.items)
