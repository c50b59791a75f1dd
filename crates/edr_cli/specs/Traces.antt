-- What is read of a source's trace on the way.
use Rattle.std.specs.Prelude.{ℕ, ◌+◌, ◌≤◌, Option, List, ◌++◌, length, vec_len}
use Rattle.edr_device.specs.Told.{Told}
use Rattle.edr_device.specs.Transfer.{GivesAll}
use Rattle.edr_trace.specs.Given.{Given}
use Rattle.edr_cli.specs.declared.traces.Taken.{Taken}

-- the source gave all its bytes, up to the limit: those that the reading took, and those that are left
abbrev pub HasAll : ℕ → Taken → Option (List ℕ) → Option (List ℕ) → Type 0
HasAll limit t old new =
    (before : List ℕ) × Given before t.reading × (length before + vec_len t.left ≤ limit) × Told (GivesAll (before ++ t.left.items)) old new
