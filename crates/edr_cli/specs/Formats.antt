-- `format`: what a new image is.
use Rattle.std.specs.Prelude.{◌≡◌, ℕ, Some, List, IfSome, ◌<◌, ◌≤◌}
use Rattle.edr_device.specs.declared.device.Nvm as device
use Rattle.edr_device.specs.declared.stream.Sink as sink
use Rattle.edr_device.specs.Device.{IsQuiet}
use Rattle.edr_device.specs.Faults.{Rose}
use Rattle.edr_image.specs.declared.Header.{Header}
use Rattle.edr_image.specs.Image.{image_size}
use Rattle.edr_words.specs.declared.jobs.Job.TheVariants as job
use Rattle.edr_words.specs.Jobs.{job_of}
use Rattle.edr_report.specs.Format.{format_line}
use Rattle.edr_banks.specs.Formatting.{IsNew, LacksMagic, IsPartlyFormatted}
use Rattle.edr_cli.specs.declared.fault.Fault.TheVariants as fault
use Rattle.edr_cli.specs.declared.fault.Fault.{Fault}
use Rattle.edr_cli.specs.declared.status.Status.{Status}
use Rattle.edr_cli.specs.Crashes.{HasMagic, KeepsImage, OfCrash}
use Rattle.edr_cli.specs.Endings.{Ends, IsServed}
use Rattle.edr_cli.specs.Outside.{Memory, NoFault, OfMemory}

-- they ask for a new image with this header
abbrev pub AreFormatWords : Header → List (List ℕ) → Type 0
AreFormatWords h words = job_of words ≡ Some (job.Format h)

-- where the device told bytes, there was no image among them; it tells those of the new one, and nothing is pending
abbrev pub IsMade : Header → Memory → Memory → Type 0
IsMade h old new = IfSome old.content (λ bytes. LacksMagic bytes × (image : List ℕ) × IsQuiet new.content new.settled image × IsNew h bytes image)

-- and the text is the line that tells of it
abbrev pub FormatIs : Header → Memory → Memory → List ℕ → Type 0
FormatIs h old new text = IsMade h old new × (text ≡ format_line h)

-- why there is no new image; a refusal leaves the bytes as they were
abbrev pub IsFormatCause : Header → Memory → Memory → Fault → Type 0
IsFormatCause h old new fault.Store = Rose old.faults new.faults
IsFormatCause h old new (fault.Short size needed) = (size ≡ old.size) × (needed ≡ image_size h.banks) × (size < needed) × (new.content ≡ old.content)
IsFormatCause h old new fault.Formatted = (image_size h.banks ≤ old.size) × IfSome old.content HasMagic × (new.content ≡ old.content)
IsFormatCause h old new fault.OutOfMemory = new.content ≡ old.content
IsFormatCause h old new other = ⊥

-- the line of a new image, which the device holds and had none before; a refusal leaves its bytes
pub record Formats {K D : Type 0} (k : sink.Ghosts K) (d : device.Ghosts D) (h : Header) (status : Status)
    (sink sink' : K) (nvm nvm' : D) : Type 0 where
  pub ends : Ends k (OfMemory d (FormatIs h) nvm nvm') (OfMemory d (IsFormatCause h) nvm nvm') status sink sink'
  -- where nothing was pending, a crash at the end leaves the image as it was, or without the magic, or the new one
  pub crash : OfCrash d nvm nvm' (IsPartlyFormatted h)
  -- an image that is there stays, whatever the status
  pub stays : KeepsImage d nvm nvm'
  -- where neither the device nor the sink counts a fault, a device with room and without an image is formatted
  pub complete : NoFault d.faults nvm nvm' → NoFault k.faults sink sink' → image_size h.banks ≤ d.extent nvm
      → IfSome (d.content nvm) (λ bytes. LacksMagic bytes → IsServed status)

-- `format` makes it
abbrev pub ServesFormat : {K D : Type 0} → sink.Ghosts K → device.Ghosts D → List (List ℕ) → Status → K → K → D → D → Type 0
ServesFormat k d words status sink sink' nvm nvm' =
    (h : Header) → AreFormatWords h words → Formats k d h status sink sink' nvm nvm'
