-- What contracts see of a source in memory.
use Rattle.std.specs.Prelude.{ℕ, List, min, length, drop}
use Rattle.edr_device.specs.CallCounts.{CallCounts, counts_of}
use Rattle.edr_device.specs.declared.mem_source.MemSource.{MemSource}

-- the bytes that are left, how many a call gives at most, and the calls
pub record SourceState : Type 0 where
  pub left : List ℕ
  pub piece : ℕ
  pub calls : CallCounts

-- the state in the fields
abbrev pub source_state : MemSource → SourceState
source_state s = record { left = drop s.at s.bytes.items; piece = s.piece; calls = counts_of s.calls }

-- how many bytes a call that succeeds gives, where it may give so many
abbrev pub given_of : SourceState → ℕ → ℕ
given_of s room = min s.piece (min room (length s.left))
