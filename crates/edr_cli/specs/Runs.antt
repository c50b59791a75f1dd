-- What the run of a trace comes to, by `replay`, by `drive` and by `drive` with live lines.
use Rattle.std.specs.Prelude.{◌≡◌, ◌+◌, ◌≤◌, ℕ, List, length, Some, IfSome, None}
use Rattle.edr_device.specs.declared.device.Nvm as device
use Rattle.edr_device.specs.declared.stream.Sink as sink
use Rattle.edr_device.specs.declared.stream.Source as stream
use Rattle.edr_device.specs.Device.{IsQuiet, MayLeave}
use Rattle.edr_device.specs.Lent.{Between}
use Rattle.edr_spell.specs.declared.CycleInput.{CycleInput}
use Rattle.edr_spell.specs.Spell.{Spell, largest_trace}
use Rattle.edr_image.specs.Banks.{Store}
use Rattle.edr_image.specs.Image.{View, view_of}
use Rattle.edr_image.specs.Kept.{AreKept}
use Rattle.edr_words.specs.declared.Form.{Form}
use Rattle.edr_gates.specs.Found.{Holds, Says}
use Rattle.edr_run.specs.Cycle.{Outcome, IsRun, last_count}
use Rattle.edr_run.specs.Keeps.{KeepsDone, KeepsLocked, LeavesLocked, StaysInWindow}
use Rattle.edr_replay.specs.Past.{LeavesPast}
use Rattle.edr_replay.specs.Reached.{IsReached, RanFirst}
use Rattle.edr_replay.specs.Replayed.{RanToTheLast}
use Rattle.edr_cli.specs.declared.fault.Fault.{Fault}
use Rattle.edr_cli.specs.declared.status.Status.TheVariants.{Ok}
use Rattle.edr_cli.specs.declared.status.Status.{Status}
use Rattle.edr_cli.specs.Endings.{Ends, IsServed}
use Rattle.edr_cli.specs.Outside.{Input, IsAtEnd, Memory, NoFault, OfBoth, OfRun, input, memory}
use Rattle.edr_cli.specs.Reports.{report_in}

-- over banks that were kept: they are kept, each event above the count at first is one of the cycle that had its number, with
-- that event's own parts, and each other one stood in its bank at first
abbrev pub HasOwnWindow : List CycleInput → Store → ℕ → Outcome → Type 0
HasOwnWindow cycles v n o = AreKept v.banks n → AreKept o.store.banks o.count × StaysInWindow cycles v n o

-- ---- the trace

-- a trace may have so many bytes, and they spell these cycles
abbrev pub IsTraceOf : List CycleInput → List ℕ → Type 0
IsTraceOf cycles bytes = (length bytes ≤ largest_trace) × Spell bytes cycles

-- a source told the bytes of a trace of these cycles
abbrev pub ToldTraceOf : List CycleInput → Input → Type 0
ToldTraceOf cycles i = (bytes : List ℕ) × (i.left ≡ Some bytes) × IsTraceOf cycles bytes

-- the source gave a trace, and is at its end
abbrev pub GaveTrace : Input → Input → Type 0
GaveTrace i i' = IfSome i.left (λ bytes. (cycles : List CycleInput) × IsTraceOf cycles bytes) × IsAtEnd i'.left

-- ---- the run and its report

-- the run of the trace of these bytes over this image, with its report
pub record TheRun (form : Form) (bytes image : List ℕ) (new : Memory) (text : List ℕ) : Type 0 where
  pub cycles : List CycleInput
  pub store : Store
  pub count : ℕ
  pub outcome : Outcome
  -- Run: from what the image says, the cycles that the bytes spell come to what the device holds, with nothing pending
  pub spelled : IsTraceOf cycles bytes
  pub says : Says image store count
  pub run : IsRun cycles store count outcome
  pub held : Holds new.content new.settled outcome.store outcome.count
  -- Output: the text is the report of it
  pub output : text ≡ report_in form outcome.reports outcome.store outcome.count
  -- Own window
  pub own_window : HasOwnWindow cycles store count outcome
  -- Locked: what was locked at first, and what was acknowledged as locked
  pub leaves_locked : LeavesLocked store outcome
  pub keeps_locked : KeepsLocked cycles outcome
  pub keeps_done : KeepsDone cycles outcome

-- what is said of the bytes of a source and a device, where both tell them
abbrev pub IfTold : Input → Memory → (List ℕ → List ℕ → Type 0) → Type 0
IfTold i m says = IfSome i.left (λ bytes. IfSome m.content (λ image. says bytes image))

-- the text is the report of a run
abbrev pub RunIs : Form → Input → Memory → Memory → List ℕ → Type 0
RunIs form i old new text = IfTold i old (λ bytes image. TheRun form bytes image new text)

-- ---- what a run needs

-- what a run needs but memory: bytes that spell cycles, an image that isn't refused, and numbers for them all
pub record CanRun (i : Input) (m : Memory) : Type 0 where
  pub bytes : List ℕ
  pub image : List ℕ
  pub cycles : List CycleInput
  pub store : Store
  pub count : ℕ
  pub given : i.left ≡ Some bytes
  pub spelled : IsTraceOf cycles bytes
  pub told : m.content ≡ Some image
  pub says : Says image store count
  pub room : count + length cycles ≤ last_count

-- ---- what a run leaves that ends early

-- the cycles before one that found no number left ran, and the device holds what they came to
pub record IsSpent (bytes image : List ℕ) (new : Memory) : Type 0 where
  pub cycles : List CycleInput
  pub store : Store
  pub count : ℕ
  pub outcome : Outcome
  pub spelled : IsTraceOf cycles bytes
  pub says : Says image store count
  pub ran : RanToTheLast cycles store count outcome
  pub held : Holds new.content new.settled outcome.store outcome.count

-- the trace of these bytes brings a view to one that the image says: after some first cycles, or by a stop in the next one
pub record ReachesByTrace (bytes : List ℕ) (v : View) (image : List ℕ) : Type 0 where
  pub cycles : List CycleInput
  pub spelled : Spell bytes cycles
  pub view : View
  pub view_is : view_of image ≡ Some view
  pub reached : IsReached cycles v.store v.count view.store view.count

-- where nothing was pending, each image that a crash may leave is the bytes, if they have no view, or else one that the trace reaches
abbrev pub LeavesRun : Input → Memory → Memory → Type 0
LeavesRun i old new = (bytes image : List ℕ) → IsQuiet old.content old.settled bytes → MayLeave new.content new.settled image
    → (view_of bytes ≡ None → image ≡ bytes)
    × ((v : View) → view_of bytes ≡ Some v → IfSome i.left (λ trace. ReachesByTrace trace v image))

-- some first cycles of the trace ran, and the device holds what they came to
pub record RanSome (bytes image : List ℕ) (new : Memory) : Type 0 where
  pub cycles : List CycleInput
  pub store : Store
  pub count : ℕ
  pub p : ℕ
  pub outcome : Outcome
  pub spelled : IsTraceOf cycles bytes
  pub says : Says image store count
  pub ran : RanFirst cycles store count p outcome
  pub held : Holds new.content new.settled outcome.store outcome.count

-- ---- how a run ends

-- the report of a run of the cycles that the source spelled, from what the device told at first to what it holds, with nothing pending
pub record Runs {S K D : Type 0} (s : stream.Ghosts S) (k : sink.Ghosts K) (d : device.Ghosts D)
    (IsCause : Input → Input → Memory → Memory → Fault → Type 0) (IsText : Input → Memory → Memory → List ℕ → Type 0) (status : Status)
    (source source' : S) (sink sink' : K) (nvm nvm' : D) : Type 0 where
  -- with Ok the source is at its end
  pub at_end : status ≡ Ok → IsAtEnd (s.left source')
  pub ends : Ends k (OfRun s d IsText source nvm nvm') (OfBoth s d IsCause source source' nvm nvm') status sink sink'
  -- whatever the status, what stands past the image stays
  pub past : Between d LeavesPast nvm nvm'
  -- where nothing counts a fault, a trace is run over an image that isn't refused and has numbers left
  pub complete : CanRun (input s source) (memory d nvm) → NoFault s.faults source source' → NoFault d.faults nvm nvm'
      → NoFault k.faults sink sink' → IsServed status

-- ---- what the laws of runs say

-- no stop is planned in the cycle
abbrev pub IsPowered : CycleInput → Type 0
IsPowered c = (c.start_stop ≡ 0) × (c.stop ≡ 0)

-- a report of a run of the one trace is one of the other, over the same image
abbrev pub HaveSameReports : Input → Input → Type 0
HaveSameReports i j = (form : Form) (old new : Memory) (text : List ℕ) → RunIs form i old new text → RunIs form j old new text
