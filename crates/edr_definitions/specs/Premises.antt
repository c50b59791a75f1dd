-- What several laws suppose or say, each in a word.
use Rattle.std.specs.Prelude.{◌≡◌, ℕ, ◌+◌, ◌<◌, ◌≤◌, ◌⊎◌, nat_eq, nat_le, List, ◌++◌, map, filter}
use Rattle.edr_items.specs.declared.Sensor.{Sensor}
use Rattle.edr_items.specs.declared.Item.{Item}
use Rattle.edr_items.specs.Item.{mark_of}
use Rattle.edr_items.specs.SensorLists.{SensorLists, items_of, AreFeeds, horizon_of, IsLevel}
use Rattle.edr_record.specs.declared.TheConstants.{EARLIEST_END, RESET}
use Rattle.edr_record.specs.declared.Command.{Command}
use Rattle.edr_definitions.specs.declared.limits.TheConstants.{LONGEST_AGE}
use Rattle.edr_definitions.specs.Signals.{Signals}
use Rattle.edr_definitions.specs.Windows.{filled_signals}
use Rattle.edr_definitions.specs.Selection.{Candidate}
use Rattle.edr_definitions.specs.Commands.{Issue, issue_at, all_issues, issues, commands}
use Rattle.edr_definitions.specs.Facts.{AgreeUpTo}
use Rattle.edr_definitions.specs.Search.{Search, StandsFor, open_candidates}
use Rattle.edr_definitions.specs.OpenCrash.{OpenCrash, SameAfter, SameFrom, next_crash}
use Rattle.edr_definitions.specs.Rings.{RisesFrom, samples}
use Rattle.edr_definitions.specs.Schedule.{Progress, CoreMove, items_given, IsNextItem, IsUnderWay}

-- ---- events and their commands
-- the end of an event is 20 to 500 ms past its time zero
abbrev pub EndsInTime : ℕ → ℕ → Type 0
EndsInTime z e = (z + EARLIEST_END ≤ e) × (e ≤ z + RESET)

-- the lists are feeds, and the cycle has a number that a counter of 32 bits reaches
pub record AreFeedsOf (n : ℕ) (f : SensorLists) : Type 0 where
  pub feeds : AreFeeds f
  pub from : 1 ≤ n
  pub to : n ≤ 4_294_967_295

-- the commands of these issues up to the tick t
abbrev pub commands_by : ℕ → List Issue → List Command
commands_by t is = map (λ i. i.command) (filter (λ i. nat_le i.tick t) is)

-- the commands that cycle n issues at the tick t
abbrev pub commands_at : SensorLists → ℕ → ℕ → List Command
commands_at f n t = map (λ i. i.command) (filter (λ i. nat_eq i.tick t) (all_issues f n t))

-- the tick past t adds these commands at the end
abbrev pub AddsCommands : SensorLists → ℕ → ℕ → List Command → Type 0
AddsCommands f n t cs = commands f n (t + 1) ≡ commands f n t ++ cs

-- it adds them as issues at that tick
abbrev pub AddsIssues : SensorLists → ℕ → ℕ → List Command → Type 0
AddsIssues f n t cs = issues f n (t + 1) ≡ issues f n t ++ map (issue_at (t + 1)) cs

-- ---- signals and searches
-- up to the tick t the signals have the same changes of speed and firings
abbrev pub ChangeAlikeUpTo : ℕ → Signals → Signals → Type 0
ChangeAlikeUpTo t m n = AgreeUpTo t (filled_signals m) (filled_signals n)

-- the candidates that the search has closed, and then its open one
abbrev pub told_chain : (m : Signals) (t : ℕ) (s : Search) → StandsFor m t s → List Candidate
told_chain m t s h = h.closed ++ open_candidates m s.bounds s.phase

-- ---- growing parts
-- the open crash part past the tick t
abbrev pub crash_past : Signals → ℕ → OpenCrash → OpenCrash
crash_past m t p = next_crash p (m.along t) (m.across t) (m.fired t)

-- up to the tick t the same restraints fire from z on, and the samples past z are the same
pub record AgreeFrom (z t : ℕ) (m n : Signals) : Type 0 where
  pub fired : SameFrom z t m.fired n.fired
  pub along : SameAfter z t m.along n.along
  pub across : SameAfter z t m.across n.across

-- the samples of the list rise, and the newest n of them reach back to the oldest one that the slot at t may have
pub record HasRoomFor (n t : ℕ) (xs : List Item) : Type 0 where
  pub rises : RisesFrom 0 (samples xs)
  pub near : mark_of (samples xs) + LONGEST_AGE < t + n

-- ---- runs
-- level feeds are being given
pub record AreLevelUnderWay (f : SensorLists) (p : Progress) : Type 0 where
  pub feeds : AreFeeds f
  pub level : IsLevel f
  pub under_way : IsUnderWay f p

-- x is what the sensor gives next, and it is waited for: the sensor's mark is the closed tick, or the horizon is closed
pub record IsAwaited (f : SensorLists) (p : Progress) (s : Sensor) (x : Item) : Type 0 where
  pub next : IsNextItem f p s x
  pub due : (mark_of (items_of s p.given) ≡ p.closed) ⊎ (p.closed ≡ horizon_of f)

-- the steps give each sensor the same items
abbrev pub GiveTheSameItems : List CoreMove → List CoreMove → Type 0
GiveTheSameItems steps others = (s : Sensor) → items_given s steps ≡ items_given s others
