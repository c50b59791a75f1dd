-- The calls on an object in memory.
use Rattle.std.specs.Prelude.{ℕ, List, Bool, if◌then◌else◌}
use Rattle.std.specs.List.{Contains}
use Rattle.edr_device.specs.Faults.{next_number}
use Rattle.edr_device.specs.declared.calls.Calls.{Calls}

-- the numbers of the calls that are to fail, from 1; how many calls there were; how many of them failed
pub record CallCounts : Type 0 where
  pub fails : List ℕ
  pub made : ℕ
  pub faults : ℕ

-- the counts in the fields
abbrev pub counts_of : Calls → CallCounts
counts_of c = record { fails = c.fails.items; made = c.made; faults = c.faults }

-- no call was made yet
abbrev pub no_calls : List ℕ → CallCounts
no_calls fails = record { fails = fails; made = 0; faults = 0 }

-- the next call is numbered among those that are to fail
abbrev pub IsToFail : CallCounts → Type 0
IsToFail c = Contains c.fails (next_number c.made)

-- after one more call, which succeeded or failed
abbrev pub after_call : Bool → CallCounts → CallCounts
after_call succeeded c = record { fails = c.fails; made = next_number c.made; faults = (if succeeded then c.faults else next_number c.faults) }
