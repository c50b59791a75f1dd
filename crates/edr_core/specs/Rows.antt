-- The rows that a detector is given.
use Rattle.std.specs.Prelude.{◌≡◌, ℕ, ◌+◌, List, map}
use Rattle.edr_definitions.specs.Ticks.{ticks}
use Rattle.edr_definitions.specs.Signals.{Signals}
use Rattle.edr_definitions.specs.Windows.{change_at}
use Rattle.edr_detect.specs.Rows.{SignalRow}
use Rattle.edr_core.specs.declared.candidate.TickRow.{TickRow as Given}

-- the row of the tick t: a tick without a sample has a change of 0
abbrev pub row_of : Signals → ℕ → SignalRow
row_of m t = record { along = change_at m.along t; across = change_at m.across t; fired = record { 0 = m.fired t } }

-- the rows of the ticks up to t
abbrev pub rows_of : Signals → ℕ → List SignalRow
rows_of m t = map (row_of m) (ticks 1 (t + 1))

-- what was given of a tick is what the signals have there
pub record RowIs (m : Signals) (t : ℕ) (r : Given) : Type 0 where
  pub along : r.along ≡ m.along t
  pub across : r.across ≡ m.across t
  pub fired : r.fired.0 ≡ m.fired t
