-- `generate` and `large`: a text that is made from a number.
use Rattle.std.specs.Prelude.{◌≡◌, ℕ, List, Some}
use Rattle.edr_device.specs.declared.stream.Sink as sink
use Rattle.edr_gen.specs.Traces.{generated_trace}
use Rattle.edr_words.specs.declared.jobs.Job.TheVariants as job
use Rattle.edr_words.specs.Jobs.{job_of}
use Rattle.edr_large.specs.Large.{AreLinesOf}
use Rattle.edr_cli.specs.declared.fault.Fault.TheVariants as fault
use Rattle.edr_cli.specs.declared.fault.Fault.{Fault}
use Rattle.edr_cli.specs.declared.status.Status.{Status}
use Rattle.edr_cli.specs.Endings.{Ends, IsServed}
use Rattle.edr_cli.specs.Outside.{NoFault}

-- why there is no text that is made from a number: memory ran out
abbrev pub IsNumberCause : Fault → Type 0
IsNumberCause f = f ≡ fault.OutOfMemory

-- a text that is made from a number
pub record MakesText {K : Type 0} (k : sink.Ghosts K) (IsText : List ℕ → Type 0) (status : Status) (sink sink' : K) : Type 0 where
  pub ends : Ends k IsText IsNumberCause status sink sink'
  -- where the sink counts no fault, it is whole
  pub complete : NoFault k.faults sink sink' → IsServed status

-- they ask for the trace of this number, with so many cycles
abbrev pub AreGenerateWords : ℕ → ℕ → List (List ℕ) → Type 0
AreGenerateWords number cycles words = job_of words ≡ Some (job.Generate number cycles)

-- `generate` writes exactly the trace of the number
abbrev pub ServesGenerate : {K : Type 0} → sink.Ghosts K → List (List ℕ) → Status → K → K → Type 0
ServesGenerate k words status sink sink' =
    (number cycles : ℕ) → AreGenerateWords number cycles words → MakesText k (λ text. text ≡ generated_trace number cycles) status sink sink'

-- they ask for the run of that trace over a new memory, and its counts
abbrev pub AreLargeWords : ℕ → ℕ → List (List ℕ) → Type 0
AreLargeWords number cycles words = job_of words ≡ Some (job.Large number cycles)

-- `large` the counts of a run over the cycles that this trace spells
abbrev pub ServesLarge : {K : Type 0} → sink.Ghosts K → List (List ℕ) → Status → K → K → Type 0
ServesLarge k words status sink sink' =
    (number cycles : ℕ) → AreLargeWords number cycles words → MakesText k (AreLinesOf number cycles) status sink sink'
