-- What a dialog comes to.
use Rattle.std.specs.Prelude.{◌≡◌, ◌≢◌, ◌⊎◌, ◌+◌, ◌≤◌, ℕ, List, [], ◌∷◌, ◌++◌, length, Option, Some, None, Result, Ok, Err}
use Rattle.edr_device.specs.declared.device.Nvm as device
use Rattle.edr_device.specs.declared.stream.Failed.{Failed}
use Rattle.edr_device.specs.declared.stream.Sink as sink
use Rattle.edr_device.specs.declared.stream.Source as stream
use Rattle.edr_device.specs.Faults.{Rose}
use Rattle.edr_device.specs.Stream.{Appends}
use Rattle.edr_device.specs.Told.{Told}
use Rattle.edr_device.specs.Transfer.{AppendsPart}
use Rattle.edr_spell.specs.Spell.{largest_trace}
use Rattle.edr_image.specs.Image.{View, image_refusal, view_of}
use Rattle.edr_words.specs.declared.jobs.Job.TheVariants as job
use Rattle.edr_words.specs.Jobs.{job_of}
use Rattle.edr_dialog.specs.Replies.{EndsInside, EndsWell, HasBye, IsRefusedIn, replies}
use Rattle.edr_cli.specs.declared.fault.Fault.TheVariants as fault
use Rattle.edr_cli.specs.declared.fault.Fault.{Fault}
use Rattle.edr_cli.specs.declared.status.Status.TheVariants as status
use Rattle.edr_cli.specs.declared.status.Status.{Status}
use Rattle.edr_cli.specs.Crashes.{KeepsBytes}
use Rattle.edr_cli.specs.Endings.{IsServed}
use Rattle.edr_cli.specs.Faults.{fault_line, status_of}
use Rattle.edr_cli.specs.Outside.{Input, IsAtEnd, Memory, NoFault, input, memory}
use Rattle.edr_cli.specs.Reports.{IsImageCause}

-- they ask for replies about what the image holds
abbrev pub AreDialogWords : List (List ℕ) → Type 0
AreDialogWords words = job_of words ≡ Some job.Dialog

-- ---- the stream, and what is written of it over what an image says

-- these bytes stood first in what was left, and were taken
abbrev pub StoodFirst : List ℕ → List ℕ → List ℕ → Type 0
StoodFirst bytes left left' = left ≡ bytes ++ left'

-- the replies to the bytes that were taken, and then the line of a fault of the source: it failed, or gave one byte too many
abbrev pub IsBroken : Input → Input → View → List ℕ → Fault → List ℕ → Type 0
IsBroken i i' v s fault.Read text = Rose i.faults i'.faults × (text ≡ replies v s ++ fault_line fault.Read)
IsBroken i i' v s fault.TooLong text = (length s ≡ largest_trace + 1) × (text ≡ replies v s ++ fault_line fault.TooLong)
IsBroken i i' v s other text = ⊥

-- what is written of these bytes where this status comes: the replies to them, and with a fault of the source its line; a write
-- may fail in either. With Ok and Dialog they ended it so
abbrev pub IsSaid : Input → Input → View → List ℕ → Status → List ℕ → Type 0
IsSaid i i' v s status.Ok text = EndsWell s × (HasBye s ⊎ IsAtEnd i'.left) × (text ≡ replies v s)
IsSaid i i' v s status.Dialog text = (IsRefusedIn s ⊎ (EndsInside s × IsAtEnd i'.left)) × (text ≡ replies v s)
IsSaid i i' v s status.ReadFault text = IsBroken i i' v s fault.Read text
IsSaid i i' v s status.TooLong text = IsBroken i i' v s fault.TooLong text
IsSaid i i' v s status.WriteFault text = (text ≡ replies v s) ⊎ ((f : Fault) × IsBroken i i' v s f text)
IsSaid i i' v s other text = ⊥

-- ---- a dialog over the image that a device holds

-- the image that the device told says this
abbrev pub IsToldView : Memory → View → Type 0
IsToldView m v = (image : List ℕ) → m.content ≡ Some image → view_of image ≡ Some v

-- the image was opened, and these bytes of the source were taken
pub record TextOfStream (i i' : Input) (old : Memory) (end : Status) (text : List ℕ) : Type 0 where
  pub view : View
  pub view_is : IsToldView old view
  pub bytes : List ℕ
  pub taken : Told (StoodFirst bytes) i.left i'.left
  pub said : IsSaid i i' view bytes end text

-- the image was not opened: the text is the line of that fault alone, and the source is as it was
pub record TextOfRefusal (i i' : Input) (old new : Memory) (end : Status) (text : List ℕ) : Type 0 where
  pub fault : Fault
  pub cause : IsImageCause old new fault
  pub end_is : (end ≡ status_of fault) ⊎ (end ≡ status.WriteFault)
  pub text_is : text ≡ fault_line fault
  pub untaken : i' ≡ i

-- the text of a dialog that ends with this status
abbrev pub IsDialogText : Input → Input → Memory → Memory → Status → List ℕ → Type 0
IsDialogText i i' old new end text = TextOfStream i i' old end text ⊎ TextOfRefusal i i' old new end text

-- a dialog over what the device holds
pub record Talks {S K D : Type 0} (s : stream.Ghosts S) (k : sink.Ghosts K) (d : device.Ghosts D) (end : Status)
    (source source' : S) (sink sink' : K) (nvm nvm' : D) : Type 0 where
  pub text : List ℕ
  pub text_is : IsDialogText (input s source) (input s source') (memory d nvm) (memory d nvm') end text
  -- the sink gained it, or a part of it where a write failed
  pub whole : end ≢ status.WriteFault → Told (Appends text) (k.content sink) (k.content sink')
  pub part : end ≡ status.WriteFault → Told (AppendsPart text) (k.content sink) (k.content sink')
  -- where nothing was pending, a crash at the end leaves the bytes as they were, whatever the status
  pub stays : KeepsBytes d nvm nvm'
  -- where the device counts no fault, its bytes are as they were
  pub keeps : NoFault d.faults nvm nvm' → d.content nvm' ≡ d.content nvm
  -- where nothing counts a fault, a stream that ends well is replied to, over an image that isn't refused
  pub complete : (image bytes : List ℕ) → d.content nvm ≡ Some image → image_refusal image ≡ None
      → s.left source ≡ Some bytes → length bytes ≤ largest_trace → EndsWell bytes
      → NoFault s.faults source source' → NoFault d.faults nvm nvm' → NoFault k.faults sink sink' → IsServed end

-- `dialog` talks
abbrev pub ServesDialog : {S K D : Type 0} → stream.Ghosts S → sink.Ghosts K → device.Ghosts D → List (List ℕ) → Status
    → S → S → K → K → D → D → Type 0
ServesDialog s k d words end source source' sink sink' nvm nvm' =
    AreDialogWords words → Talks s k d end source source' sink sink' nvm nvm'

-- ---- the steps of a dialog, which the clause doesn't cite

-- a byte was taken; or none was, at the end of the source or since it failed
abbrev pub TakesByte : {S : Type 0} → stream.Ghosts S → Result (Option ℕ) Failed → S → S → Type 0
TakesByte g (Ok (Some byte)) old new = Told (StoodFirst (byte ∷ [])) (g.left old) (g.left new)
TakesByte g (Ok None) old new = Told (StoodFirst []) (g.left old) (g.left new) × IsAtEnd (g.left new)
TakesByte g (Err e) old new = Told (StoodFirst []) (g.left old) (g.left new) × Rose (g.faults old) (g.faults new)

-- a stream was replied to over this view
pub record Talked {S K : Type 0} (s : stream.Ghosts S) (k : sink.Ghosts K) (v : View) (end : Status) (source source' : S) (sink sink' : K) : Type 0 where
  pub bytes : List ℕ
  pub few : length bytes ≤ largest_trace + 1
  pub taken : Told (StoodFirst bytes) (s.left source) (s.left source')
  pub text : List ℕ
  pub said : IsSaid (input s source) (input s source') v bytes end text
  pub whole : end ≢ status.WriteFault → Told (Appends text) (k.content sink) (k.content sink')
  pub part : end ≡ status.WriteFault → Told (AppendsPart text) (k.content sink) (k.content sink') × Rose (k.faults sink) (k.faults sink')
  pub source_later : s.faults source ≤ s.faults source'
  pub sink_later : k.faults sink ≤ k.faults sink'
