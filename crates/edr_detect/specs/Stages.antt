-- The stages of the streaming search, as the definitions see them.
use Rattle.std.specs.Prelude.{ℕ, Bool, true, false, if◌then◌else◌, Some, None}
use Rattle.std.specs.Option.{option_or}
use Rattle.edr_definitions.specs.Selection.{Bounds}
use Rattle.edr_definitions.specs.Search.{Phase, Searching, Open, Search, tick_if, next_open, past_end}
use Rattle.edr_definitions.specs.Change.{Change}
use Rattle.edr_detect.specs.declared.stage.Change.{Change as Answer}
use Rattle.edr_detect.specs.declared.stage.Stage.{Stage}
use Rattle.edr_detect.specs.declared.stage.Stage.TheVariants as stage
use Rattle.edr_detect.specs.declared.stage.Tests.{Tests}

-- what the answer says stands at its tick
abbrev pub told_of : Answer → Change
told_of a = record { zero = a.zero; confirmed = a.confirmed; locked = a.locked; ended = a.ended; dropped = a.dropped; closed = a.closed }

-- nothing stands
abbrev pub nothing : Answer
nothing = record { zero = false; confirmed = false; locked = false; ended = false; dropped = false; closed = false }

-- the phase that a stage is
abbrev pub phase_of : Stage → Phase
phase_of stage.Searching = Searching
phase_of (stage.Open z c l e) = Open z c l e

-- an event is open: a candidate that is confirmed, up to its close
abbrev pub is_event : Phase → Bool
is_event Searching = false
is_event (Open z None l e) = false
is_event (Open z (Some c) l e) = true

-- the search past the tick t, by the answers of the four tests there
abbrev pub stepped_search : ℕ → Tests → Bounds → Phase → Search
stepped_search t a b Searching =
    if a.zero then record { bounds = b; phase = Open t (tick_if a.trigger t) (tick_if a.locks t) None }
    else record { bounds = b; phase = Searching }
stepped_search t a b (Open z c l None) = next_open t b z (option_or c (tick_if a.trigger t)) (option_or l (tick_if a.locks t)) a.ends
stepped_search t a b (Open z c l (Some e)) = past_end t b z c (option_or l (tick_if a.locks t)) e
