-- How a call ends: what it has written, by its status.
use Rattle.std.specs.Prelude.{◌≡◌, ◌≢◌, ◌⊎◌, ◌≤◌, ℕ, List, Option}
use Rattle.edr_device.specs.Faults.{Rose}
use Rattle.edr_device.specs.Stream.{Appends}
use Rattle.edr_device.specs.Told.{Told}
use Rattle.edr_device.specs.Transfer.{AppendsPart}
use Rattle.edr_device.specs.declared.stream.Sink as sink
use Rattle.edr_cli.specs.declared.fault.Fault.{Fault}
use Rattle.edr_cli.specs.Faults.{fault_line, status_of}
use Rattle.edr_cli.specs.declared.status.Status.{Status}
use Rattle.edr_cli.specs.declared.status.Status.TheVariants.{Ok, OutOfMemory, WriteFault}

-- the sink gained the text that is asked for
abbrev pub Tells : (List ℕ → Type 0) → Option (List ℕ) → Option (List ℕ) → Type 0
Tells IsText old new = (text : List ℕ) × IsText text × Told (Appends text) old new

-- the sink gained the line of a fault with this status, and nothing else; the fault has its cause
abbrev pub TellsFault : (Fault → Type 0) → Status → Option (List ℕ) → Option (List ℕ) → Type 0
TellsFault IsCause status old new = (f : Fault) × IsCause f × (status_of f ≡ status) × Told (Appends (fault_line f)) old new

-- a write failed: the sink gained a part of the line of a fault that has its cause
abbrev pub TellsFaultPart : (Fault → Type 0) → Option (List ℕ) → Option (List ℕ) → Type 0
TellsFaultPart IsCause old new = (f : Fault) × IsCause f × Told (AppendsPart (fault_line f)) old new

-- a write failed: the sink gained a part of the text, or of the line of a fault that has its cause
abbrev pub TellsPart : (List ℕ → Type 0) → (Fault → Type 0) → Option (List ℕ) → Option (List ℕ) → Type 0
TellsPart IsText IsCause old new = ((text : List ℕ) × IsText text × Told (AppendsPart text) old new) ⊎ TellsFaultPart IsCause old new

-- ---- of a sink

-- a text was written for a call that would end with this status: the sink gained it, or a part of it where a write failed
pub record Gains {K : Type 0} (k : sink.Ghosts K) (text : List ℕ) (wanted status : Status) (old new : K) : Type 0 where
  pub whole : status ≢ WriteFault → (status ≡ wanted) × Told (Appends text) (k.content old) (k.content new)
  pub part : status ≡ WriteFault → Told (AppendsPart text) (k.content old) (k.content new) × Rose (k.faults old) (k.faults new)
  pub answers : (status ≡ wanted) ⊎ (status ≡ WriteFault)
  pub later : k.faults old ≤ k.faults new

-- a call ended that tells a text or a fault: with Ok the sink gained the text; with another status the line of a fault, unless a
-- write failed; and then a part of either
pub record Ends {K : Type 0} (k : sink.Ghosts K) (IsText : List ℕ → Type 0) (IsCause : Fault → Type 0) (status : Status) (old new : K) : Type 0 where
  pub text : status ≡ Ok → Tells IsText (k.content old) (k.content new)
  pub other : status ≢ Ok → status ≢ WriteFault → TellsFault IsCause status (k.content old) (k.content new)
  pub part : status ≡ WriteFault → TellsPart IsText IsCause (k.content old) (k.content new)

-- a fault of this cause is told, whole unless a write failed, and then a part of it
abbrev pub TellsWhole : {K : Type 0} → sink.Ghosts K → (Fault → Type 0) → Status → K → K → Type 0
TellsWhole k IsCause status old new = status ≢ WriteFault → TellsFault IsCause status (k.content old) (k.content new)

abbrev pub TellsCut : {K : Type 0} → sink.Ghosts K → (Fault → Type 0) → Status → K → K → Type 0
TellsCut k IsCause status old new = status ≡ WriteFault → TellsFaultPart IsCause (k.content old) (k.content new)

-- it is whole, or there was no memory
abbrev pub IsServed : Status → Type 0
IsServed status = (status ≡ Ok) ⊎ (status ≡ OutOfMemory)
