-- What a core keeps from tick to tick and what it issues, and that it stands for the lists of a cycle.
use Rattle.std.specs.Prelude.{◌≡◌, ℕ, ◌≤◌, Bool, true, false, if◌then◌else◌, Option, Some, None, MatchOption, option_map, option_to_list, List, ◌++◌}
use Rattle.edr_items.specs.SensorLists.{SensorLists, horizon_of}
use Rattle.edr_record.specs.declared.Place.{Place}
use Rattle.edr_record.specs.declared.Command.{Command}
use Rattle.edr_record.specs.declared.Command.TheVariants.{Take, Lock, Done}
use Rattle.edr_record.specs.Parts.{PrePart, CrashPart}
use Rattle.edr_definitions.specs.Signals.{Signals, signals_of}
use Rattle.edr_definitions.specs.Parts.{pre_part}
use Rattle.edr_definitions.specs.Commands.{place_of, last_placed, zeros_by}
use Rattle.edr_definitions.specs.Search.{Phase, Searching, Open, Search, StandsFor}
use Rattle.edr_definitions.specs.Change.{Change, tick_change}
use Rattle.edr_definitions.specs.Rings.{samples, newest}
use Rattle.edr_definitions.specs.OpenCrash.{OpenCrash, crash_at, begin_crash, next_crash}

-- ---- what a tick does
-- the pre part and the end of the open candidate, which count only while one is open, and place and time zero of the last confirmed event
pub record CoreState : Type 0 where
  pub frozen : PrePart
  pub ended : ℕ
  pub linked : Option (Place × ℕ)

-- the open candidate's pre part past a tick: a time zero freezes `begun`, a confirmation puts in the place
abbrev pub pre_after : Change → PrePart → CoreState → PrePart
pre_after change begun k =
    let pre = if change.zero then begun else k.frozen in
    if change.confirmed then record pre { place = place_of k.linked pre.key.zero } else pre

-- what the core keeps past the tick t
abbrev pub core_after : ℕ → Change → PrePart → CoreState → CoreState
core_after t change begun k =
    let pre = pre_after change begun k in
    record {
      frozen = pre;
      ended = if change.ended then t else k.ended;
      linked = if change.confirmed then Some (pre.place, pre.key.zero) else k.linked;
    }

-- the open crash part past the tick t: a time zero begins it
abbrev pub part_after : Signals → ℕ → Change → OpenCrash → OpenCrash
part_after m t change p = if change.zero then begin_crash t (m.fired t) else next_crash p (m.along t) (m.across t) (m.fired t)

-- a candidate is open
abbrev pub is_open : Phase → Bool
is_open Searching = false
is_open (Open z c l e) = true

-- nothing stands at a tick
abbrev pub no_change : Change
no_change = record { zero = false; confirmed = false; locked = false; ended = false; dropped = false; closed = false }

-- ---- what a tick issues
-- the parts that a tick issues: at a confirmation, at a first locking firing and at a close
pub record TickIssues : Type 0 where
  pub take : Option PrePart
  pub lock : Option PrePart
  pub done : Option CrashPart

-- the same as a list of commands, in their order
abbrev pub commands_of : TickIssues → List Command
commands_of i = option_to_list (option_map Take i.take) ++ (option_to_list (option_map Lock i.lock) ++ option_to_list (option_map Done i.done))

-- this, where the test holds
abbrev pub when : {X : Type 0} → Bool → X → Option X
when b x = if b then Some x else None

-- what a tick issues, where `crash` is the crash part that a close gives
abbrev pub issues_at : Change → PrePart → CrashPart → CoreState → TickIssues
issues_at change begun crash k =
    let pre = pre_after change begun k in
    record { take = when change.confirmed pre; lock = when change.locked pre; done = when change.closed crash }

-- ---- what it stands for
-- the lists, where a ring keeps the newest n samples of each sensor that gives slots
abbrev pub ring_lists : ℕ → SensorLists → SensorLists
ring_lists n f = record f {
  speed = newest n (samples f.speed);
  throttle = newest n (samples f.throttle);
  brake = newest n (samples f.brake);
  belt = newest n (samples f.belt);
  lamp = newest n (samples f.lamp);
}

-- the pre part of the time zero z of cycle n, with any place
abbrev pub IsPreOfZero : SensorLists → ℕ → ℕ → PrePart → Type 0
IsPreOfZero f n z pre = pre ≡ pre_part f n pre.place z

-- the change is what stands at the tick t, and at a time zero `begun` is its pre part
pub record IsTold (f : SensorLists) (n t : ℕ) (change : Change) (begun : PrePart) : Type 0 where
  pub change_is : change ≡ tick_change (signals_of f) t
  pub begun_is : change.zero ≡ true → IsPreOfZero f n t begun

-- what the core keeps of an open candidate: its pre part, with its place once it is confirmed, and its end once that has come
abbrev pub OpenIs : SensorLists → ℕ → CoreState → Phase → Type 0
OpenIs f n k Searching = Unit {0}
OpenIs f n k (Open z c l e) =
    IsPreOfZero f n z k.frozen × MatchOption c (Unit {0}) (λ _. k.linked ≡ Some (k.frozen.place, z)) × MatchOption e (Unit {0}) (λ x. k.ended ≡ x)

-- the core of cycle n has closed the ticks up to t of these lists, and its search stands at s
pub record CoreStandsFor (f : SensorLists) (n t : ℕ) (s : Search) (k : CoreState) : Type 0 where
  pub within : t ≤ horizon_of f
  pub search_is : StandsFor (signals_of f) t s
  pub linked_is : k.linked ≡ last_placed (zeros_by (signals_of f) t)
  pub open_is : OpenIs f n k s.phase

-- the open crash part is that of the open candidate; with none open it doesn't count
abbrev pub PartIs : Signals → ℕ → OpenCrash → Phase → Type 0
PartIs m t p Searching = Unit {0}
PartIs m t p (Open z c l e) = p ≡ crash_at m z t

-- the core stands so, and so does its open crash part
pub record WholeCoreStandsFor (f : SensorLists) (n t : ℕ) (s : Search) (k : CoreState) (p : OpenCrash) : Type 0 where
  pub core_is : CoreStandsFor f n t s k
  pub part_is : PartIs (signals_of f) t p s.phase
