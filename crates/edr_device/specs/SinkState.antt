-- What contracts see of a sink in memory.
use Rattle.std.specs.Prelude.{◌≡◌, ◌⊎◌, ◌+◌, ℕ, List, [], length, min}
use Rattle.edr_device.specs.CallCounts.{CallCounts, counts_of, IsToFail, no_calls}
use Rattle.edr_device.specs.declared.mem_sink.MemSink.{MemSink}

-- the bytes that were put, for how many more there is room, how many a call takes at most, and the calls
pub record SinkState : Type 0 where
  pub content : List ℕ
  pub room : ℕ
  pub piece : ℕ
  pub calls : CallCounts

-- the state in the fields
abbrev pub sink_state : MemSink → SinkState
sink_state s = record { content = s.bytes.items; room = s.room; piece = s.piece; calls = counts_of s.calls }

abbrev pub new_sink : ℕ → ℕ → List ℕ → SinkState
new_sink room piece fails = record { content = []; room = room; piece = piece; calls = no_calls fails }

-- how many bytes it takes in all
abbrev pub room_in_all : SinkState → ℕ
room_in_all s = length s.content + s.room

-- how many bytes a call that succeeds takes, where it is offered so many
abbrev pub taken_of : SinkState → ℕ → ℕ
taken_of s offered = min s.piece (min offered s.room)

-- the next call fails: it is numbered, or there is no room
abbrev pub PutFails : SinkState → Type 0
PutFails s = (s.room ≡ 0) ⊎ IsToFail s.calls
