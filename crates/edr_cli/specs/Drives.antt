-- `drive`: a run by threads.
use Rattle.std.specs.Prelude.{◌≡◌, ℕ, Some, List, ◌⊎◌}
use Rattle.edr_device.specs.declared.device.Nvm as device
use Rattle.edr_device.specs.declared.stream.Sink as sink
use Rattle.edr_device.specs.declared.stream.Source as stream
use Rattle.edr_spell.specs.declared.CycleInput.{CycleInput}
use Rattle.edr_image.specs.Banks.{Store}
use Rattle.edr_image.specs.Image.{View}
use Rattle.edr_words.specs.declared.Form.{Form}
use Rattle.edr_words.specs.declared.jobs.Job.TheVariants as job
use Rattle.edr_words.specs.Jobs.{job_of}
use Rattle.edr_gates.specs.Found.{Holds, Says}
use Rattle.edr_replay.specs.Reached.{IsCutShort}
use Rattle.edr_cli.specs.declared.fault.Fault.TheVariants as fault
use Rattle.edr_cli.specs.declared.fault.Fault.{Fault}
use Rattle.edr_cli.specs.declared.status.Status.{Status}
use Rattle.edr_cli.specs.Outside.{Input, Memory}
use Rattle.edr_cli.specs.Replays.{IsReplayCause}
use Rattle.edr_cli.specs.Runs.{IfTold, IsTraceOf, RunIs, Runs}

-- they ask for the run of a trace by so many workers, and its report in this form
abbrev pub AreDrive : Form → ℕ → List (List ℕ) → Type 0
AreDrive form workers words = job_of words ≡ Some (job.Drive workers form)

-- some first cycles of the trace ran, or these and a start of the next one that was stopped in call 6 and did count, and the device
-- holds what they came to
pub record RanCutShort (bytes image : List ℕ) (new : Memory) : Type 0 where
  pub cycles : List CycleInput
  pub store : Store
  pub count : ℕ
  pub end : View
  pub spelled : IsTraceOf cycles bytes
  pub says : Says image store count
  pub cut_short : IsCutShort cycles store count end.store end.count
  pub held : Holds new.content new.settled end.store end.count

-- as on one thread; or memory ran out, perhaps after the start of a cycle
abbrev pub IsDriveCause : Input → Input → Memory → Memory → Fault → Type 0
IsDriveCause i i' old new f =
    IsReplayCause i i' old new f ⊎ ((f ≡ fault.OutOfMemory) × IfTold i old (λ bytes image. RanCutShort bytes image new))

-- `drive` runs it by threads
abbrev pub ServesDrive : {S K D : Type 0} → stream.Ghosts S → sink.Ghosts K → device.Ghosts D → List (List ℕ) → Status
    → S → S → K → K → D → D → Type 0
ServesDrive s k d words status source source' sink sink' nvm nvm' =
    (form : Form) (workers : ℕ) → AreDrive form workers words → Runs s k d IsDriveCause (RunIs form) status source source' sink sink' nvm nvm'
