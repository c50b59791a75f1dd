-- The places of the events of a cycle, and the commands that they issue.
use Rattle.std.specs.Prelude.{ℕ, ◌+◌, ◌-◌, ◌*◌, ◌%◌, ◌≤◌, Bool, not, nat_eq, nat_le, if◌then◌else◌, Option, Some, None, List, [], ◌∷◌, ◌++◌, map, filter, zip, flat_map}
use Rattle.edr_items.specs.SensorLists.{SensorLists}
use Rattle.edr_record.specs.declared.TheConstants.{LONGEST_PAIR}
use Rattle.edr_record.specs.declared.Place.{Place}
use Rattle.edr_record.specs.declared.Place.TheVariants.{First, Second}
use Rattle.edr_record.specs.declared.Command.{Command}
use Rattle.edr_record.specs.declared.Command.TheVariants.{Take, Lock, Done}
use Rattle.edr_record.specs.Parts.{PrePart}
use Rattle.edr_definitions.specs.Ticks.{first_tick}
use Rattle.edr_definitions.specs.Signals.{Signals, signals_of}
use Rattle.edr_definitions.specs.Selection.{Event, events, close_of}
use Rattle.edr_definitions.specs.Parts.{pre_part, crash_part}

-- ---- the place of an event in its crash

-- second after a first event whose time zero is at most 5 s before it, else first (563.5, multi-event crash)
abbrev pub place_after : Place → ℕ → ℕ → Place
place_after First before z = if nat_le (z - before) LONGEST_PAIR then Second (z - before) else First
place_after (Second _) before z = First

-- the place of an event with time zero z, from the place and the time zero of the event before it, if there is one
abbrev pub place_of : Option (Place × ℕ) → ℕ → Place
place_of None z = First
place_of (Some s) z = place_after s.0 s.1 z

-- the places of the events with these time zeros that follow that event
abbrev pub places_from : Option (Place × ℕ) → List ℕ → List Place
places_from s [] = []
places_from s (z ∷ zs) = place_of s z ∷ places_from (Some (place_of s z, z)) zs

-- the places of the events of a cycle with these time zeros
abbrev pub places : List ℕ → List Place
places zs = places_from None zs

-- the place and the time zero of the last of these events, or of the one that they follow
abbrev pub last_from : Option (Place × ℕ) → List ℕ → Option (Place × ℕ)
last_from s [] = s
last_from s (z ∷ zs) = last_from (Some (place_of s z, z)) zs

-- the place and the time zero of the last event of a cycle with these time zeros, if there is one
abbrev pub last_placed : List ℕ → Option (Place × ℕ)
last_placed zs = last_from None zs

-- ---- the lock of an event

-- a restraint fires at t that locks the record: any but the two pretensioners (563.9, locked memory)
abbrev pub is_locking : Signals → ℕ → Bool
is_locking m t = not (nat_eq (m.fired t % 64) 0)

-- the tick at which the event with time zero z and end e is locked: the first such tick up to its close, if there is one
abbrev pub lock_of : Signals → ℕ → ℕ → Option ℕ
lock_of m z e = first_tick (is_locking m) z (close_of z e + 1)

-- ---- the commands of one event

-- a command, and the tick at which it is issued
pub record Issue : Type 0 where
  pub tick : ℕ
  pub command : Command

-- the command, issued at the tick t
abbrev pub issue_at : ℕ → Command → Issue
issue_at t c = record { tick = t; command = c }

-- the Lock of a pre part at a tick, if there is one
abbrev pub locks_at : PrePart → Option ℕ → List Issue
locks_at pre None = []
locks_at pre (Some t) = record { tick = t; command = Lock pre } ∷ []

-- the commands of one event: Take at its confirmation, Lock where a locking restraint first fires, Done at its close
unfoldable pub issues_of : SensorLists → ℕ → Event × Place → List Issue
issues_of f n e =
    let m = signals_of f in
    let z = e.0.zero_tick in
    let pre = pre_part f n e.1 z in
    record { tick = e.0.confirmed_tick; command = Take pre }
    ∷ locks_at pre (lock_of m z e.0.end_tick)
    ++ record { tick = close_of z e.0.end_tick; command = Done (crash_part m z e.0.end_tick) }
    ∷ []

-- ---- the commands of a cycle

-- the time zeros of the events that are confirmed by the tick t
abbrev pub zeros_by : Signals → ℕ → List ℕ
zeros_by m t = map (λ e. e.zero_tick) (events m t)

-- the events that are confirmed by the tick t, each with its place
abbrev pub placed_events : Signals → ℕ → List (Event × Place)
placed_events m t = zip (events m t) (places (zeros_by m t))

-- all that these events issue in cycle n, past the tick t too
abbrev pub all_issues : SensorLists → ℕ → ℕ → List Issue
all_issues f n t = flat_map (issues_of f n) (placed_events (signals_of f) t)

-- what cycle n issues up to the tick t, in order
abbrev pub issues : SensorLists → ℕ → ℕ → List Issue
issues f n t = filter (λ i. nat_le i.tick t) (all_issues f n t)

-- the commands of cycle n that are issued up to the tick t, in order
unfoldable pub commands : SensorLists → ℕ → ℕ → List Command
commands f n t = map (λ i. i.command) (issues f n t)

-- ---- their order

-- at one tick Take stands first and Done last
abbrev pub rank_of : Command → ℕ
rank_of (Take _) = 0
rank_of (Lock _) = 1
rank_of (Done _) = 2

-- where an issue stands among others: by its tick, and at one tick by its command
abbrev pub order_of : Issue → ℕ
order_of i = 3 * i.tick + rank_of i.command

-- each issue stands past the ones before it, and the first not before `a`
abbrev pub InOrder : ℕ → List Issue → Type 0
InOrder a [] = Unit {0}
InOrder a (i ∷ is) = (a ≤ order_of i) × InOrder (order_of i + 1) is
