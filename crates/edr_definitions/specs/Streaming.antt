-- A core between two ticks and what it is told of the next one, as its laws speak of them.
use Rattle.std.specs.Prelude.{◌≡◌, ℕ, ◌+◌, ◌<◌, ◌≤◌, Bool, true, false, ◌&&◌, ◌||◌, not, None, List}
use Rattle.std.specs.Option.{ForSome}
use Rattle.edr_definitions.specs.declared.limits.TheConstants.{LONGEST_AGE}
use Rattle.edr_record.specs.declared.TheConstants.{RESET, SLOT_REACH}
use Rattle.edr_items.specs.declared.TheConstants.{LONGEST_GAP}
use Rattle.edr_items.specs.declared.Sensor.{Sensor}
use Rattle.edr_items.specs.declared.Item.{Item}
use Rattle.edr_items.specs.Item.{refusal_of, mark_of}
use Rattle.edr_items.specs.SensorLists.{SensorLists, items_of, horizon_of, AreFeeds}
use Rattle.edr_record.specs.declared.Place.{Place}
use Rattle.edr_record.specs.declared.Command.{Command}
use Rattle.edr_record.specs.Parts.{PrePart}
use Rattle.edr_definitions.specs.Signals.{Signals, signals_of}
use Rattle.edr_definitions.specs.Selection.{at_start, close_of}
use Rattle.edr_definitions.specs.Parts.{pre_part}
use Rattle.edr_definitions.specs.Search.{Phase, Search, Searching, Open, next_search, StandsFor}
use Rattle.edr_definitions.specs.Change.{Change}
use Rattle.edr_definitions.specs.OpenCrash.{OpenCrash, finish_crash}
use Rattle.edr_definitions.specs.Schedule.{with_item}
use Rattle.edr_definitions.specs.Core.{CoreState, pre_after, core_after, part_after, is_open, no_change, issues_at, commands_of, IsTold, CoreStandsFor, WholeCoreStandsFor}
use Rattle.edr_definitions.specs.Premises.{EndsInTime}

-- a core between two ticks: the lists that were given of its cycle, the closed tick, the search there, what it keeps and its open crash part
pub record LiveCore : Type 0 where
  pub lists : SensorLists
  pub cycle : ℕ
  pub tick : ℕ
  pub search : Search
  pub state : CoreState
  pub crash : OpenCrash

-- the core stands for its lists, whatever crash part is open
abbrev pub CoreStands : LiveCore → Type 0
CoreStands c = CoreStandsFor c.lists c.cycle c.tick c.search c.state

-- the core stands for its lists, and so does its open crash part
abbrev pub Stands : LiveCore → Type 0
Stands c = WholeCoreStandsFor c.lists c.cycle c.tick c.search c.state c.crash

-- ---- before the first tick, and an item
-- where the search stands before the first tick
abbrev pub first_search : Search
first_search = record { bounds = at_start; phase = Searching }

-- the core before the first tick
abbrev pub at_first : LiveCore → LiveCore
at_first c = record c { tick = 0; search = first_search }

-- the item is accepted next in its sensor's list
abbrev pub MayAdd : Sensor → Item → SensorLists → Type 0
MayAdd r x f = refusal_of r (mark_of (items_of r f)) x ≡ None

-- the core with one more item in its lists
abbrev pub core_with : Sensor → Item → LiveCore → LiveCore
core_with r x c = record c { lists = with_item r x c.lists }

-- what lists give of a cycle up to a tick stays the same with one more accepted item, where the tick is not past their horizon
abbrev pub IsSettledByHorizon : {X : Type 0} → (SensorLists → ℕ → ℕ → X) → Type 0
IsSettledByHorizon out =
    (f : SensorLists) (n t : ℕ) (r : Sensor) (x : Item) → t ≤ horizon_of f → MayAdd r x f → out (with_item r x f) n t ≡ out f n t

-- ---- the next tick
-- what a core is told of its next tick: what stands there, and the pre part of a time zero there
pub record NextTick (c : LiveCore) : Type 0 where
  pub change : Change
  pub begun : PrePart
  pub told : IsTold c.lists c.cycle (c.tick + 1) change begun

-- the next tick may be closed
abbrev pub MayClose : LiveCore → Type 0
MayClose c = c.tick + 1 ≤ horizon_of c.lists

-- what the core keeps past its next tick
abbrev pub next_state : (c : LiveCore) → NextTick c → CoreState
next_state c x = core_after (c.tick + 1) x.change x.begun c.state

-- the core past its next tick
abbrev pub next_core : (c : LiveCore) → NextTick c → LiveCore
next_core c x =
    let m = signals_of c.lists in
    record c {
      tick = c.tick + 1;
      search = next_search m (c.tick + 1) c.search;
      state = next_state c x;
      crash = part_after m (c.tick + 1) x.change c.crash;
    }

-- what the core issues at its next tick
abbrev pub next_commands : (c : LiveCore) → NextTick c → List Command
next_commands c x =
    let crash = finish_crash (next_core c x).crash (next_state c x).ended in
    commands_of (issues_at x.change x.begun crash c.state)

-- the time zero of the candidate that is open at the next tick
abbrev pub next_zero : (c : LiveCore) → NextTick c → ℕ
next_zero c x = (pre_after x.change x.begun c.state).key.zero

-- the end is 20 to 500 ms past time zero, and the next tick is the close that it gives
pub record ClosesInTime (c : LiveCore) (x : NextTick c) : Type 0 where
  pub ends : EndsInTime (next_zero c x) (next_state c x).ended
  pub closes : close_of (next_zero c x) (next_state c x).ended ≡ c.tick + 1

-- that time zero is past the one of the last event
abbrev pub IsPastTheLast : (c : LiveCore) → NextTick c → Type 0
IsPastTheLast c x = ForSome c.state.linked (λ last. last.1 < next_zero c x)

-- ---- the open candidate
-- this holds of the time zero of the open candidate, if there is one
abbrev pub WhereOpen : Phase → (ℕ → Type 0) → Type 0
WhereOpen Searching P = Unit {0}
WhereOpen (Open z c l e) P = P z

-- the pre part is of this time zero, which the tick is less than 500 ms past
pub record IsOpenShortly (c : LiveCore) (z : ℕ) : Type 0 where
  pub zero_is : c.state.frozen.key.zero ≡ z
  pub begun : z ≤ c.tick
  pub short : c.tick < z + RESET

-- the search stands for the signals, and a candidate is open
abbrev pub StandsOpen : Signals → ℕ → Search → Type 0
StandsOpen m t s = StandsFor m t s × (is_open s.phase ≡ true)

-- the search stands for the signals, and no candidate is open
abbrev pub StandsSearching : Signals → ℕ → Search → Type 0
StandsSearching m t s = StandsFor m t s × (is_open s.phase ≡ false)

-- whether a candidate is open past a tick, by whether one was before it
abbrev pub open_after : Change → Bool → Bool
open_after change was_open = (change.zero || was_open) && not (change.dropped || change.closed)

-- it is a time zero, or nothing stands there
abbrev pub IsZeroOrNothing : Change → Type 0
IsZeroOrNothing change = change.zero ≡ false → change ≡ no_change

-- the core stands so, and no candidate is open
abbrev pub StandsBetween : LiveCore → Type 0
StandsBetween c = Stands c × (is_open c.search.phase ≡ false)

-- the core with another state and another open crash part
abbrev pub core_keeping : CoreState → OpenCrash → LiveCore → LiveCore
core_keeping k p c = record c { state = k; crash = p }

-- ---- rings
-- rings of so many samples of these feeds reach back from any mark to the oldest sample of a slot, where no mark is further past the time zero than a gap
pub record ReachBack (room z : ℕ) (f : SensorLists) : Type 0 where
  pub enough : SLOT_REACH + LONGEST_GAP + LONGEST_AGE < room
  pub feeds : AreFeeds f
  pub near : (s : Sensor) → mark_of (items_of s f) ≤ z + LONGEST_GAP

-- the lists give the same pre part of that time zero, whatever cycle and place
abbrev pub GiveTheSamePre : ℕ → SensorLists → SensorLists → Type 0
GiveTheSamePre z f g = (n : ℕ) (place : Place) → pre_part f n place z ≡ pre_part g n place z
