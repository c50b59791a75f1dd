-- Which words are served, and what is read and used for them.
use Rattle.std.specs.Prelude.{ℕ, Option, Some, None, List, ⊤}
use Rattle.edr_words.specs.declared.jobs.Job.TheVariants.{Format, Replay, Report, Drive, DriveLive, Migrate, Dialog, Fleet, Audit}
use Rattle.edr_words.specs.declared.jobs.Job.{Job}
use Rattle.edr_words.specs.Jobs.{job_of}
use Rattle.edr_cli.specs.declared.fault.Fault.TheVariants as fault
use Rattle.edr_cli.specs.declared.fault.Fault.{Fault}

-- the job, if there is one, is none that is served
abbrev pub IsOther : Option Job → Type 0
IsOther None = ⊤
IsOther (Some (Drive workers form)) = ⊤
IsOther (Some (DriveLive workers)) = ⊤
IsOther (Some (Fleet workers)) = ⊤
IsOther other = ⊥

-- they ask for nothing that is served
abbrev pub AreOther : List (List ℕ) → Type 0
AreOther words = IsOther (job_of words)

-- why words are not served: they ask for nothing that is, or memory ran out while they were read
abbrev pub IsUsageCause : Fault → Type 0
IsUsageCause fault.Usage = ⊤
IsUsageCause fault.OutOfMemory = ⊤
IsUsageCause other = ⊥

-- the job, if there is one, reads nothing
abbrev pub IsWithoutSource : Option Job → Type 0
IsWithoutSource (Some (Replay form)) = ⊥
IsWithoutSource (Some Migrate) = ⊥
IsWithoutSource (Some Dialog) = ⊥
IsWithoutSource (Some Audit) = ⊥
IsWithoutSource other = ⊤

-- they ask for nothing that reads a trace, an old image, requests or what is audited
abbrev pub ReadNothing : List (List ℕ) → Type 0
ReadNothing words = IsWithoutSource (job_of words)

-- the job, if there is one, uses no memory of records
abbrev pub IsWithoutMemory : Option Job → Type 0
IsWithoutMemory (Some (Format header)) = ⊥
IsWithoutMemory (Some (Replay form)) = ⊥
IsWithoutMemory (Some (Report form)) = ⊥
IsWithoutMemory (Some Migrate) = ⊥
IsWithoutMemory (Some Dialog) = ⊥
IsWithoutMemory (Some Audit) = ⊥
IsWithoutMemory other = ⊤

-- they ask for nothing that uses one
abbrev pub UseNoMemory : List (List ℕ) → Type 0
UseNoMemory words = IsWithoutMemory (job_of words)

-- the job, if there is one, is not done by threads
abbrev pub IsWithoutThreads : Option Job → Type 0
IsWithoutThreads (Some (Drive workers form)) = ⊥
IsWithoutThreads (Some (DriveLive workers)) = ⊥
IsWithoutThreads (Some (Fleet workers)) = ⊥
IsWithoutThreads other = ⊤

-- they ask for nothing that is done by threads
abbrev pub NeedNoThreads : List (List ℕ) → Type 0
NeedNoThreads words = IsWithoutThreads (job_of words)
