-- What the windows of the streaming search hold.
use Rattle.std.specs.Prelude.{◌≡◌, ℕ, ◌+◌, ◌≤◌, ℤ, pos, Bool, IsTrue, false, if◌then◌else◌, Option, None}
use Rattle.edr_definitions.specs.declared.limits.TheConstants.{ACROSS_TICKS, ALONG_TICKS, TRIGGER_TICKS}
use Rattle.edr_definitions.specs.Signals.{Signals}
use Rattle.edr_definitions.specs.Windows.{change_at, swing}
use Rattle.edr_definitions.specs.Selection.{Bounds, is_triggered, is_time_zero, is_end}
use Rattle.edr_definitions.specs.Search.{Phase}
use Rattle.edr_definitions.specs.Commands.{is_locking}
use Rattle.edr_window.specs.Changes.{changes}
use Rattle.edr_window.specs.Swing.{SwingState, SwingStandsFor}
use Rattle.edr_detect.specs.declared.stage.Change.{Change as Answer}
use Rattle.edr_detect.specs.declared.stage.Stage.{Stage}
use Rattle.edr_detect.specs.declared.stage.Stage.TheVariants as stage
use Rattle.edr_detect.specs.declared.stage.Tests.{Tests}
use Rattle.edr_detect.specs.declared.windows.Windows.{Windows}
use Rattle.edr_detect.specs.Latest.{AreZeros, LatestStandsFor}
use Rattle.edr_detect.specs.Stages.{phase_of, is_event}

-- ---- what they hold at a tick

-- at the tick t, in a search with these bounds, the swings hold the changes past the bounds
pub record SwingsStandFor (m : Signals) (b : Bounds) (t : ℕ) (w : Windows) : Type 0 where
  pub zero_along : SwingStandsFor ALONG_TICKS w.zero_along (changes m.along b.after t)
  pub zero_across : SwingStandsFor ACROSS_TICKS w.zero_across (changes m.across b.after t)
  pub trigger_along : SwingStandsFor TRIGGER_TICKS w.trigger_along (changes m.along b.since t)
  pub trigger_across : SwingStandsFor TRIGGER_TICKS w.trigger_across (changes m.across b.since t)

-- what the tests of a phase ask: the sums are those of the last 20 ticks, and where no event is open the swings hold their changes
pub record WindowsStandFor (m : Signals) (b : Bounds) (p : Phase) (t : ℕ) (w : Windows) : Type 0 where
  pub swings : is_event p ≡ false → SwingsStandFor m b t w
  pub latest_along : LatestStandsFor m.along t w.latest_along.values w.latest_along.sum
  pub latest_across : LatestStandsFor m.across t w.latest_across.values w.latest_across.sum

-- swings that hold the changes up to a tick, at which the bounds have come, then hold these of the next tick too
abbrev pub SwingsTake : ℤ → ℤ → Windows → Windows → Type 0
SwingsTake along across w next =
    (m : Signals) (b : Bounds) (before t : ℕ) → t ≡ before + 1 → b.after ≤ before → b.since ≤ before
    → change_at m.along t ≡ along → change_at m.across t ≡ across → SwingsStandFor m b before w → SwingsStandFor m b t next

-- ---- at rest, and since the beginning

-- no change of the last 20 ticks of either axis differs from 0
pub record HoldNothing (w : Windows) : Type 0 where
  pub along : AreZeros w.latest_along.values
  pub across : AreZeros w.latest_across.values

-- at the tick t no change that counts for a time zero or the trigger differs from 0
pub record AreStill (m : Signals) (b : Bounds) (t : ℕ) : Type 0 where
  pub zero_along : swing m.along ALONG_TICKS b.after t ≡ 0
  pub zero_across : swing m.across ACROSS_TICKS b.after t ≡ 0
  pub trigger_along : swing m.along TRIGGER_TICKS b.since t ≡ 0
  pub trigger_across : swing m.across TRIGGER_TICKS b.since t ≡ 0

-- since its restart no swing was given more than n values
pub record PushedAtMost (n : ℕ) (w : Windows) : Type 0 where
  pub zero_along : w.zero_along.pushes ≤ n
  pub zero_across : w.zero_across.pushes ≤ n
  pub trigger_along : w.trigger_along.pushes ≤ n
  pub trigger_across : w.trigger_across.pushes ≤ n

-- all the sums of each swing are 0
pub record SwingsAreStill (w : Windows) : Type 0 where
  pub zero_along : IsTrue w.zero_along.still
  pub zero_across : IsTrue w.zero_across.still
  pub trigger_along : IsTrue w.trigger_along.still
  pub trigger_across : IsTrue w.trigger_across.still

-- at tick 0, before the first one, the speed does not change
pub record BeginsAtRest (m : Signals) : Type 0 where
  pub along : change_at m.along 0 ≡ pos 0
  pub across : change_at m.across 0 ≡ pos 0

-- ---- one tick more, and what is asked of a swing

-- windows that hold up to a tick, at which the bounds have come, what the tests of a phase ask hold it up to t with these changes of t, where that is the next tick
abbrev pub WindowsTake : Phase → ℕ → ℤ → ℤ → Windows → Windows → Type 0
WindowsTake p t along across w next =
    (m : Signals) (b : Bounds) (before : ℕ) → t ≡ before + 1 → b.after ≤ before → b.since ≤ before → BeginsAtRest m
    → change_at m.along t ≡ along → change_at m.across t ≡ across → WindowsStandFor m b p before w → WindowsStandFor m b p t next

-- the size is that of the swing of any changes that the sums stand for
abbrev pub IsSizeOfSwing : ℕ → SwingState → ℕ → Type 0
IsSizeOfSwing k s size =
    (axis : ℕ → Option ℤ) (from t : ℕ) → SwingStandsFor k s (changes axis from t) → size ≡ swing axis k from t

-- any changes that the sums stand for have no swing
abbrev pub HasNoSwing : ℕ → SwingState → Type 0
HasNoSwing k s = (axis : ℕ → Option ℤ) (from t : ℕ) → SwingStandsFor k s (changes axis from t) → swing axis k from t ≡ 0

-- ---- the tests at a tick, and the restart past it

-- where the open candidate has not ended, this is whether it does at the tick t
abbrev pub EndIs : Signals → Stage → ℕ → Bool → Type 0
EndIs m s t ends = (z : ℕ) (c l : Option ℕ) → s ≡ stage.Open z c l None → ends ≡ is_end m z t

-- an event that is open in the phase p is open in q too, unless it closes
abbrev pub IsEventUntilClosed : Answer → Phase → Phase → Type 0
IsEventUntilClosed a p q = a.closed ≡ false → is_event q ≡ false → is_event p ≡ false

-- the answers are those of the definitions' tests at the tick t; the first two don't count while an event is open
pub record TestsAre (m : Signals) (b : Bounds) (s : Stage) (t : ℕ) (a : Tests) : Type 0 where
  pub zero : is_event (phase_of s) ≡ false → a.zero ≡ is_time_zero m b t
  pub trigger : is_event (phase_of s) ≡ false → a.trigger ≡ is_triggered m b.since t
  pub locks : a.locks ≡ is_locking m t
  pub ends : EndIs m s t a.ends

-- the bounds past the tick t at which this stands: both at the close of an event, and the first alone at the end of a dropped candidate
abbrev pub bounds_past : ℕ → Answer → Bounds → Bounds
bounds_past t a b =
    if a.closed then record { after = t; since = t }
    else if a.dropped then record { after = t; since = b.since }
    else b

-- windows that stand at a tick then stand past what is there, in any phase to which that can lead
abbrev pub WindowsRestart : Answer → Windows → Windows → Type 0
WindowsRestart a w next =
    (m : Signals) (b : Bounds) (p q : Phase) (t : ℕ) → IsEventUntilClosed a p q → WindowsStandFor m b p t w → WindowsStandFor m (bounds_past t a b) q t next
