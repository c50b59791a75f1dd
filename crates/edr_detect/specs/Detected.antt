-- What a detector is, and of which rows.
use Rattle.std.specs.Prelude.{◌≡◌, ℕ, ◌+◌, ◌≤◌, Bool, IsTrue, List, [], ◌∷◌, ◌++◌, length}
use Rattle.edr_definitions.specs.Signals.{Signals}
use Rattle.edr_definitions.specs.Selection.{Bounds}
use Rattle.edr_definitions.specs.Search.{Searching, StandsFor}
use Rattle.edr_definitions.specs.Change.{tick_change}
use Rattle.edr_detect.specs.declared.stage.Change.{Change as Answer}
use Rattle.edr_detect.specs.declared.stage.Stage.{Stage}
use Rattle.edr_detect.specs.declared.windows.Windows.{Windows}
use Rattle.edr_detect.specs.Stages.{phase_of, told_of}
use Rattle.edr_detect.specs.Standing.{WindowsStandFor, HoldNothing, AreStill, PushedAtMost, SwingsAreStill}
use Rattle.edr_detect.specs.Rows.{SignalRow, signals_of_rows}

-- the number of its ticks, how far an open candidate has come, what it keeps of the rows, and whether it rests
pub record DetectState : Type 0 where
  pub tick : ℕ
  pub stage : Stage
  pub windows : Windows
  pub rests : Bool

-- what is true of its fields: no swing was given more values than there were ticks, and where it rests all of them are still
pub record CountsTicks (d : DetectState) : Type 0 where
  pub pushed : PushedAtMost d.tick d.windows
  pub still : IsTrue d.rests → SwingsAreStill d.windows

-- at the tick t no candidate is open, and no change that still counts differs from 0
pub record IsAtRest (m : Signals) (b : Bounds) (t : ℕ) (d : DetectState) : Type 0 where
  pub searching : phase_of d.stage ≡ Searching
  pub still : AreStill m b t
  pub nothing : HoldNothing d.windows

-- what the detector keeps of these signals up to t: the windows hold what the tests of its phase ask, and where it says that it rests it does
unfoldable pub KeepsRecent : Signals → Bounds → ℕ → DetectState → Type 0
KeepsRecent m b t d = WindowsStandFor m b (phase_of d.stage) t d.windows × (IsTrue d.rests → IsAtRest m b t d)

-- the detector was given these rows, and no others: the search of the definitions stands at the last of them as the stage says, with bounds past which it keeps what the search needs
pub record DetectStandsFor (d : DetectState) (rows : List SignalRow) : Type 0 where
  pub tick_is : d.tick ≡ length rows
  pub bounds : Bounds
  pub since_past : bounds.since ≤ length rows
  pub search_is : StandsFor (signals_of_rows rows) (length rows) (record { bounds = bounds; phase = phase_of d.stage })
  pub kept_are : KeepsRecent (signals_of_rows rows) bounds (length rows) d

-- whatever rows the detector was given, it was then given this one after them
abbrev pub DetectsNext : SignalRow → DetectState → DetectState → Type 0
DetectsNext row d next = (rows : List SignalRow) → DetectStandsFor d rows → DetectStandsFor next (rows ++ row ∷ [])

-- whatever rows the detector was given, the answer is what stands at the tick of this one after them
abbrev pub TellsNext : SignalRow → DetectState → Answer → Type 0
TellsNext row d answer =
    (rows : List SignalRow) → DetectStandsFor d rows → told_of answer ≡ tick_change (signals_of_rows (rows ++ row ∷ [])) (length rows + 1)
