-- `replay`: a run on one thread.
use Rattle.std.specs.Prelude.{◌≡◌, ℕ, Some, List, ◌⊎◌}
use Rattle.edr_device.specs.declared.device.Nvm as device
use Rattle.edr_device.specs.declared.stream.Sink as sink
use Rattle.edr_device.specs.declared.stream.Source as stream
use Rattle.edr_device.specs.Faults.{Rose}
use Rattle.edr_words.specs.declared.Form.{Form}
use Rattle.edr_words.specs.declared.jobs.Job.TheVariants as job
use Rattle.edr_words.specs.Jobs.{job_of}
use Rattle.edr_cli.specs.declared.fault.Fault.TheVariants as fault
use Rattle.edr_cli.specs.declared.fault.Fault.{Fault}
use Rattle.edr_cli.specs.declared.status.Status.{Status}
use Rattle.edr_cli.specs.Outside.{Input, IsAtEnd, Memory}
use Rattle.edr_cli.specs.Reports.{IsImageCause}
use Rattle.edr_cli.specs.Runs.{GaveTrace, IfTold, IsSpent, LeavesRun, RanSome, RunIs, Runs}
use Rattle.edr_cli.specs.Sources.{IsTraceCause}

-- they ask for the run of a trace, and its report in this form
abbrev pub AreReplayWords : Form → List (List ℕ) → Type 0
AreReplayWords form words = job_of words ≡ Some (job.Replay form)

-- why there is no report of a run, by the first thing that went wrong
abbrev pub IsReplayCause : Input → Input → Memory → Memory → Fault → Type 0
IsReplayCause i i' old new (fault.Trace t) = IsTraceCause i i' (fault.Trace t) × (new ≡ old)
IsReplayCause i i' old new fault.Read = IsTraceCause i i' fault.Read × (new ≡ old)
IsReplayCause i i' old new fault.TooLong = IsTraceCause i i' fault.TooLong × (new ≡ old)
IsReplayCause i i' old new fault.Store = GaveTrace i i' × Rose old.faults new.faults × LeavesRun i old new
IsReplayCause i i' old new (fault.Short size needed) = GaveTrace i i' × IsImageCause old new (fault.Short size needed)
IsReplayCause i i' old new (fault.Header h) = GaveTrace i i' × IsImageCause old new (fault.Header h)
IsReplayCause i i' old new fault.Spent = IfTold i old (λ bytes image. IsSpent bytes image new) × IsAtEnd i'.left
IsReplayCause i i' old new fault.OutOfMemory = (new.content ≡ old.content) ⊎ IfTold i old (λ bytes image. RanSome bytes image new)
IsReplayCause i i' old new other = ⊥

-- `replay` runs a trace
abbrev pub ServesReplay : {S K D : Type 0} → stream.Ghosts S → sink.Ghosts K → device.Ghosts D → List (List ℕ) → Status
    → S → S → K → K → D → D → Type 0
ServesReplay s k d words status source source' sink sink' nvm nvm' =
    (form : Form) → AreReplayWords form words → Runs s k d IsReplayCause (RunIs form) status source source' sink sink' nvm nvm'
