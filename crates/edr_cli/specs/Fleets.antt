-- What the report of a fleet comes to.
use Rattle.std.specs.Prelude.{◌≡◌, ◌≤◌, ℕ, List, length, Option, Some, IfSome, ⊤}
use Rattle.edr_device.specs.declared.stream.Sink as sink
use Rattle.edr_device.specs.declared.stream.Source as stream
use Rattle.edr_spell.specs.Spell.{largest_trace}
use Rattle.edr_words.specs.declared.jobs.Job.TheVariants as job
use Rattle.edr_words.specs.Jobs.{job_of}
use Rattle.edr_fleet.specs.Frames.{AreFramesOf, EndsInFrameAt}
use Rattle.edr_fleet.specs.Text.{IsFleetText}
use Rattle.edr_cli.specs.declared.fault.Fault.TheVariants as fault
use Rattle.edr_cli.specs.declared.fault.Fault.{Fault}
use Rattle.edr_cli.specs.declared.status.Status.TheVariants.{Ok}
use Rattle.edr_cli.specs.declared.status.Status.{Status}
use Rattle.edr_cli.specs.Endings.{Ends, IsServed}
use Rattle.edr_cli.specs.Outside.{Input, IsAtEnd, NoFault, input}
use Rattle.edr_cli.specs.Sources.{Gave, IsTraceCause}

-- they ask for the report of many images, by so many workers
abbrev pub AreFleetWords : ℕ → List (List ℕ) → Type 0
AreFleetWords workers words = job_of words ≡ Some (job.Fleet workers)

-- the text is the report of the images whose frames the source told
abbrev pub FleetIs : Input → List ℕ → Type 0
FleetIs i text = IfSome i.left (λ bytes. IsFleetText bytes text)

-- the bytes are no more than may be taken, and end inside the frame that begins at this offset
abbrev pub IsTruncatedAt : ℕ → List ℕ → Type 0
IsTruncatedAt offset bytes = (length bytes ≤ largest_trace) × EndsInFrameAt offset bytes

-- why there is no report of a fleet: the source was not taken whole, or its bytes end inside a frame
abbrev pub IsFleetCause : Input → Input → Fault → Type 0
IsFleetCause i i' fault.Read = IsTraceCause i i' fault.Read
IsFleetCause i i' fault.TooLong = IsTraceCause i i' fault.TooLong
IsFleetCause i i' (fault.Fleet offset) = Gave i i' (IsTruncatedAt offset)
IsFleetCause i i' fault.OutOfMemory = ⊤
IsFleetCause i i' other = ⊥

-- the source told whole frames, no more bytes than may be taken
abbrev pub ToldFrames : Option (List ℕ) → Type 0
ToldFrames left = (bytes : List ℕ) × (images : List (List ℕ)) × (left ≡ Some bytes) × (length bytes ≤ largest_trace) × AreFramesOf images bytes

-- the report of a fleet
pub record TellsFleet {S K : Type 0} (s : stream.Ghosts S) (k : sink.Ghosts K) (status : Status) (source source' : S) (sink sink' : K) : Type 0 where
  -- with Ok the source is at its end
  pub at_end : status ≡ Ok → IsAtEnd (s.left source')
  pub ends : Ends k (FleetIs (input s source)) (IsFleetCause (input s source) (input s source')) status sink sink'
  -- where nothing counts a fault, whole frames are reported
  pub complete : ToldFrames (s.left source) → NoFault s.faults source source' → NoFault k.faults sink sink' → IsServed status

-- `fleet` tells it
abbrev pub ServesFleet : {S K : Type 0} → stream.Ghosts S → sink.Ghosts K → List (List ℕ) → Status → S → S → K → K → Type 0
ServesFleet s k words status source source' sink sink' =
    (workers : ℕ) → AreFleetWords workers words → TellsFleet s k status source source' sink sink'
