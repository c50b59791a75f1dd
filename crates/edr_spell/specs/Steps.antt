-- What one row that is right does to the feeds of the open cycle, and which cycle it ends: the steps of a reader.
use Rattle.std.specs.Prelude.{zero, suc, Option, Some, None, List, [], ◌∷◌, ◌++◌}
use Rattle.edr_items.specs.SensorLists.{SensorLists, items_of, with_items, no_items}
use Rattle.edr_spell.specs.declared.CycleInput.{CycleInput}
use Rattle.edr_spell.specs.declared.Row.{Row}
use Rattle.edr_spell.specs.declared.Row.TheVariants as row
use Rattle.edr_spell.specs.Spell.{stopped_cycle}

-- the feeds of the open cycle, one row later
abbrev pub feeds_next : Option SensorLists → Row → Option SensorLists
feeds_next feeds (row.On zero) = Some no_items
feeds_next feeds (row.On (suc k)) = None
feeds_next None (row.Sample s x) = None
feeds_next (Some feeds) (row.Sample s x) = Some (with_items s (items_of s feeds ++ x ∷ []) feeds)
feeds_next feeds (row.Cut k) = None

-- the cycles that the row ends: one or none
abbrev pub cycles_next : Option SensorLists → Row → List CycleInput
cycles_next feeds (row.On zero) = []
cycles_next feeds (row.On (suc k)) = stopped_cycle (suc k) ∷ []
cycles_next feeds (row.Sample s x) = []
cycles_next None (row.Cut k) = []
cycles_next (Some feeds) (row.Cut k) = record { start_stop = 0; feeds = feeds; stop = k } ∷ []
