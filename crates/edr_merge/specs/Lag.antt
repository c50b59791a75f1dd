-- What is known of the sensors beside the two axes.
use Rattle.std.specs.Prelude.{ℕ, ◌≤◌}
use Rattle.edr_items.specs.declared.Sensor.{Sensor}
use Rattle.edr_items.specs.Sensor.{number_of}
use Rattle.edr_merge.specs.Marks.{Marks, mark_in}

-- no sensor beside the two axes, whose numbers are 1 and 2, has a mark before this tick
abbrev pub IsBelowSlow : ℕ → Marks → Type 0
IsBelowSlow t m = (s : Sensor) → 3 ≤ number_of s → t ≤ mark_in s m
