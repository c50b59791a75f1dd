-- What a detector was given: a row for each tick.
use Rattle.std.specs.Prelude.{ℕ, zero, suc, ℤ, pos, Option, None, option_map, List, slice_get}
use Rattle.std.specs.Option.{option_map_or}
use Rattle.edr_items.specs.declared.Restraints.{Restraints}
use Rattle.edr_definitions.specs.Signals.{Signals}

-- the changes of speed in one tick, and the restraints that fire there
pub record SignalRow : Type 0 where
  pub along : ℤ
  pub across : ℤ
  pub fired : Restraints

-- the row of a tick, of its changes and the restraints that fire
abbrev pub row_of : ℤ → ℤ → Restraints → SignalRow
row_of along across fired = record { along = along; across = across; fired = fired }

-- the row of a tick at which nothing moves and nothing fires
abbrev pub still_row : SignalRow
still_row = row_of (pos 0) (pos 0) (record { 0 = 0 })

-- the row of a tick: the first row is that of tick 1
abbrev pub row_at : List SignalRow → ℕ → Option SignalRow
row_at rows zero = None
row_at rows (suc k) = slice_get rows k

-- the signals that the rows give
abbrev pub signals_of_rows : List SignalRow → Signals
signals_of_rows rows = record {
  along = λ t. option_map (λ r. r.along) (row_at rows t);
  across = λ t. option_map (λ r. r.across) (row_at rows t);
  fired = λ t. option_map_or (λ r. r.fired.0) (row_at rows t) 0;
}
