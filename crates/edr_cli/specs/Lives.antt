-- `drive W live`: a run by threads with a line for each cycle that ran.
use Rattle.std.specs.Prelude.{◌≡◌, ℕ, Some, List, ◌++◌, flat_map}
use Rattle.edr_device.specs.declared.device.Nvm as device
use Rattle.edr_device.specs.declared.stream.Sink as sink
use Rattle.edr_device.specs.declared.stream.Source as stream
use Rattle.edr_spell.specs.declared.CycleInput.{CycleInput}
use Rattle.edr_image.specs.Banks.{Store}
use Rattle.edr_words.specs.declared.Form.TheVariants.{Text}
use Rattle.edr_words.specs.declared.jobs.Job.TheVariants as job
use Rattle.edr_words.specs.Jobs.{job_of}
use Rattle.edr_report.specs.Format.{live_line}
use Rattle.edr_gates.specs.Found.{Holds}
use Rattle.edr_run.specs.declared.live.LiveLine.{LiveLine}
use Rattle.edr_run.specs.Cycle.{Outcome}
use Rattle.edr_run.specs.Live.{IsLiveRun}
use Rattle.edr_cli.specs.declared.status.Status.{Status}
use Rattle.edr_cli.specs.Drives.{IsDriveCause}
use Rattle.edr_cli.specs.Outside.{Input, Memory}
use Rattle.edr_cli.specs.Reports.{report_in}
use Rattle.edr_cli.specs.Runs.{IfTold, Runs, TheRun}

-- they ask for the run of a trace by so many workers, and its report with a line for each cycle that ran
abbrev pub AreLiveWords : ℕ → List (List ℕ) → Type 0
AreLiveWords workers words = job_of words ≡ Some (job.DriveLive workers)

-- the line of a cycle that ran
unfoldable pub line_text : LiveLine → List ℕ
line_text l = live_line l.cycle l.commands l.events

-- those of several
abbrev pub live_text : List LiveLine → List ℕ
live_text lines = flat_map line_text lines

-- the run of the trace of these bytes over this image, with its report as text and its live lines
pub record TheLiveRun (bytes image : List ℕ) (new : Memory) (text : List ℕ) : Type 0 where
  pub report : List ℕ
  pub whole : TheRun Text bytes image new report
  -- the lines are those of a chain of cycles by which that run came to its outcome
  pub lines : List LiveLine
  pub live : IsLiveRun 1 whole.cycles whole.store whole.count whole.outcome lines
  -- Output: the text is the report, and then these lines
  pub output : text ≡ report ++ live_text lines

-- the text is the report of a run with its live lines
abbrev pub LiveRunIs : Input → Memory → Memory → List ℕ → Type 0
LiveRunIs i old new text = IfTold i old (λ bytes image. TheLiveRun bytes image new text)

-- of these cycles over what the device held
abbrev pub ReportsLive : List CycleInput → Memory → Memory → List ℕ → Type 0
ReportsLive cycles old new text = (v : Store) (n : ℕ) → Holds old.content old.settled v n
    → (o : Outcome) × (lines : List LiveLine) × IsLiveRun 1 cycles v n o lines × Holds new.content new.settled o.store o.count
    × (text ≡ report_in Text o.reports o.store o.count ++ live_text lines)

-- and tells how its cycles went
abbrev pub ServesLive : {S K D : Type 0} → stream.Ghosts S → sink.Ghosts K → device.Ghosts D → List (List ℕ) → Status
    → S → S → K → K → D → D → Type 0
ServesLive s k d words status source source' sink sink' nvm nvm' =
    (workers : ℕ) → AreLiveWords workers words → Runs s k d IsDriveCause LiveRunIs status source source' sink sink' nvm nvm'
