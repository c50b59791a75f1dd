-- What an audit comes to.
use Rattle.std.specs.Prelude.{◌≡◌, ◌≢◌, ◌⊎◌, ◌≤◌, ℕ, List, ◌∷◌, ◌++◌, length, Option, Some, IfSome, codes, decimal}
use Rattle.edr_text.specs.Lines.{line_of}
use Rattle.edr_text.specs.Numbers.{numeral}
use Rattle.edr_device.specs.declared.device.Nvm as device
use Rattle.edr_device.specs.declared.stream.Sink as sink
use Rattle.edr_device.specs.declared.stream.Source as stream
use Rattle.edr_device.specs.Faults.{Rose}
use Rattle.edr_device.specs.Stream.{Appends}
use Rattle.edr_device.specs.Told.{Told}
use Rattle.edr_device.specs.Transfer.{AppendsPart}
use Rattle.edr_spell.specs.Spell.{largest_trace}
use Rattle.edr_words.specs.declared.jobs.Job.TheVariants as job
use Rattle.edr_words.specs.Jobs.{job_of}
use Rattle.edr_audit.specs.declared.Difference.TheVariants.{Before, Trace, Stops, After, Run, Report}
use Rattle.edr_audit.specs.declared.Difference.{Difference}
use Rattle.edr_audit.specs.declared.Verdict.TheVariants.{Agrees, Differs}
use Rattle.edr_audit.specs.declared.Verdict.{Verdict}
use Rattle.edr_audit.specs.Verdicts.{IsVerdict}
use Rattle.edr_cli.specs.declared.audit.Audited.TheVariants.{Lengths, Judged}
use Rattle.edr_cli.specs.declared.audit.Audited.{Audited}
use Rattle.edr_cli.specs.declared.fault.Fault.TheVariants as fault
use Rattle.edr_cli.specs.declared.fault.Fault.{Fault}
use Rattle.edr_cli.specs.declared.status.Status.TheVariants as status
use Rattle.edr_cli.specs.declared.status.Status.{Status}
use Rattle.edr_cli.specs.Crashes.{KeepsBytes}
use Rattle.edr_cli.specs.Dialogs.{IsSaid}
use Rattle.edr_cli.specs.Endings.{TellsFault, TellsFaultPart}
use Rattle.edr_cli.specs.Outside.{Input, IsAtEnd, Memory, NoFault, input, memory}
use Rattle.edr_cli.specs.Sources.{Gave, IsTraceCause}

-- they ask whether what the image holds, and a report, come from an earlier image and a trace
abbrev pub AreAuditWords : List (List ℕ) → Type 0
AreAuditWords words = job_of words ≡ Some job.Audit

-- ---- what the source gives

-- so many bytes of an image and so many of a trace are told by two numbers, parted by a space
abbrev pub lengths_line : ℕ → ℕ → List ℕ
lengths_line image trace = numeral image ++ 32 ∷ numeral trace

-- the bytes are that line, of at most 21 bytes before its line feed, and then an image, a trace and a report
pub record ArePieces (bytes before trace report : List ℕ) : Type 0 where
  pub short : length (lengths_line (length before) (length trace)) ≤ 21
  pub listed : bytes ≡ lengths_line (length before) (length trace) ++ 10 ∷ (before ++ trace ++ report)

-- there are such pieces, and no more bytes than may be taken
abbrev pub HavePieces : List ℕ → Type 0
HavePieces bytes = (length bytes ≤ largest_trace) × (before : List ℕ) × (trace : List ℕ) × (report : List ℕ) × ArePieces bytes before trace report

-- there are none
abbrev pub HaveNoPieces : List ℕ → Type 0
HaveNoPieces bytes = (length bytes ≤ largest_trace) × ((before trace report : List ℕ) → ArePieces bytes before trace report → ⊥)

-- ---- what is said of it

abbrev pub difference_words : Difference → List ℕ
difference_words Before = codes "before"
difference_words (Trace row) = codes "trace row " ++ decimal row
difference_words (Stops found) = codes "stops " ++ decimal found
difference_words After = codes "after"
difference_words Run = codes "run"
difference_words (Report offset) = codes "report at " ++ decimal offset

abbrev pub audited_words : Audited → List ℕ
audited_words Lengths = codes "differs in lengths"
audited_words (Judged Agrees) = codes "agrees"
audited_words (Judged (Differs d)) = codes "differs in " ++ difference_words d

-- the line that is written
abbrev pub audited_line : Audited → List ℕ
audited_line a = line_of (codes "audit") (audited_words a)

-- the status of a call that writes it
abbrev pub audited_status : Audited → Status
audited_status Lengths = status.Audit
audited_status (Judged Agrees) = status.Ok
audited_status (Judged (Differs d)) = status.Audit

-- the verdict on the pieces and on the image that the device told, if it told one
pub record JudgesPieces (bytes : List ℕ) (after : Option (List ℕ)) (v : Verdict) : Type 0 where
  pub before : List ℕ
  pub trace : List ℕ
  pub report : List ℕ
  pub pieces : ArePieces bytes before trace report
  pub verdict : IfSome after (λ image. IsVerdict before trace image report v)

-- what is said of the bytes that the source told; where these have no pieces, the device is not touched
abbrev pub IsAudit : Input → Memory → Memory → Audited → Type 0
IsAudit i old new Lengths = IfSome i.left HaveNoPieces × (new ≡ old)
IsAudit i old new (Judged v) = IfSome i.left (λ bytes. (length bytes ≤ largest_trace) × JudgesPieces bytes old.content v)

-- why nothing is said, by the first thing that went wrong
abbrev pub IsAuditCause : Input → Input → Memory → Memory → Fault → Type 0
IsAuditCause i i' old new fault.Read = IsTraceCause i i' fault.Read × (new ≡ old)
IsAuditCause i i' old new fault.TooLong = IsTraceCause i i' fault.TooLong × (new ≡ old)
IsAuditCause i i' old new fault.Store = Gave i i' HavePieces × Rose old.faults new.faults
IsAuditCause i i' old new fault.OutOfMemory = new.content ≡ old.content
IsAuditCause i i' old new other = ⊥

-- ---- what a call comes to

-- something was said, of which the sink gained the line
abbrev pub TellsAudit : (Audited → Type 0) → Status → Option (List ℕ) → Option (List ℕ) → Type 0
TellsAudit IsSaid end old new = (a : Audited) × IsSaid a × (end ≡ audited_status a) × Told (Appends (audited_line a)) old new

-- or a part of it, where a write failed
abbrev pub TellsAuditPart : (Audited → Type 0) → Option (List ℕ) → Option (List ℕ) → Type 0
TellsAuditPart IsSaid old new = (a : Audited) × IsSaid a × Told (AppendsPart (audited_line a)) old new

-- the status says that an audit was made
abbrev pub IsMadeAudit : Status → Type 0
IsMadeAudit end = (end ≡ status.Ok) ⊎ (end ≡ status.Audit)

-- an audit of what the device holds
pub record Audits {S K D : Type 0} (s : stream.Ghosts S) (k : sink.Ghosts K) (d : device.Ghosts D) (end : Status)
    (source source' : S) (sink sink' : K) (nvm nvm' : D) : Type 0 where
  -- with Ok and with Audit the source is at its end, and the sink gained the line of what is said, which has that status
  pub at_end : IsMadeAudit end → IsAtEnd (s.left source')
  pub whole : IsMadeAudit end → TellsAudit (IsAudit (input s source) (memory d nvm) (memory d nvm')) end (k.content sink) (k.content sink')
  -- with another status the line of a fault that has its cause, and where a write failed a part of either
  pub other : end ≢ status.Ok → end ≢ status.Audit → end ≢ status.WriteFault
      → TellsFault (IsAuditCause (input s source) (input s source') (memory d nvm) (memory d nvm')) end (k.content sink) (k.content sink')
  pub part : end ≡ status.WriteFault
      → TellsAuditPart (IsAudit (input s source) (memory d nvm) (memory d nvm')) (k.content sink) (k.content sink')
      ⊎ TellsFaultPart (IsAuditCause (input s source) (input s source') (memory d nvm) (memory d nvm')) (k.content sink) (k.content sink')
  -- where nothing was pending, a crash at the end leaves the bytes as they were, whatever the status
  pub stays : KeepsBytes d nvm nvm'
  -- where the device counts no fault, its bytes are as they were
  pub keeps : NoFault d.faults nvm nvm' → d.content nvm' ≡ d.content nvm
  -- where nothing counts a fault, any bytes are audited, no more than may be taken
  pub complete : (bytes : List ℕ) → s.left source ≡ Some bytes → length bytes ≤ largest_trace
      → NoFault s.faults source source' → NoFault d.faults nvm nvm' → NoFault k.faults sink sink'
      → IsMadeAudit end ⊎ (end ≡ status.OutOfMemory)

-- `audit` makes it
abbrev pub ServesAudit : {S K D : Type 0} → stream.Ghosts S → sink.Ghosts K → device.Ghosts D → List (List ℕ) → Status
    → S → S → K → K → D → D → Type 0
ServesAudit s k d words end source source' sink sink' nvm nvm' =
    AreAuditWords words → Audits s k d end source source' sink sink' nvm nvm'
