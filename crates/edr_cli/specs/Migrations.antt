-- `migrate`: what an old image that the source gave comes to.
use Rattle.std.specs.Prelude.{◌≡◌, ℕ, Some, List, ◌⊎◌, ◌≤◌, length, ◌<◌, IfSome}
use Rattle.edr_device.specs.declared.device.Nvm as device
use Rattle.edr_device.specs.declared.stream.Sink as sink
use Rattle.edr_device.specs.declared.stream.Source as stream
use Rattle.edr_device.specs.Device.{IsQuiet}
use Rattle.edr_device.specs.Faults.{Rose}
use Rattle.edr_spell.specs.Spell.{largest_trace}
use Rattle.edr_image.specs.declared.OldRefused.{OldRefused}
use Rattle.edr_image.specs.Image.{View, image_size, old_refusal}
use Rattle.edr_words.specs.declared.jobs.Job.TheVariants as job
use Rattle.edr_words.specs.Jobs.{job_of}
use Rattle.edr_report.specs.Format.{migrate_line}
use Rattle.edr_banks.specs.Formatting.{LacksMagic}
use Rattle.edr_migrate.specs.Migrated.{IsWhole, migrated_of}
use Rattle.edr_migrate.specs.NewBytes.{IsMigrated, IsPartlyMigrated}
use Rattle.edr_cli.specs.declared.fault.Fault.TheVariants as fault
use Rattle.edr_cli.specs.declared.fault.Fault.{Fault}
use Rattle.edr_cli.specs.declared.status.Status.TheVariants.{Ok}
use Rattle.edr_cli.specs.declared.status.Status.{Status}
use Rattle.edr_cli.specs.Crashes.{HasMagic, KeepsImage, OfCrash}
use Rattle.edr_cli.specs.Endings.{Ends, IsServed}
use Rattle.edr_cli.specs.Outside.{Input, IsAtEnd, Memory, NoFault, OfBoth, OfRun, input, memory}
use Rattle.edr_cli.specs.Runs.{IfTold}
use Rattle.edr_cli.specs.Sources.{Gave, IsTraceCause}

-- they ask for what an old image holds to be taken over
abbrev pub AreMigrateWords : List (List ℕ) → Type 0
AreMigrateWords words = job_of words ≡ Some job.Migrate

-- ---- the old image, which may have as many bytes as a trace

-- it says this, and none of its banks is damaged
abbrev pub IsOldImage : View → List ℕ → Type 0
IsOldImage v old = (length old ≤ largest_trace) × IsWhole old v

-- it says something
abbrev pub IsAnOldImage : List ℕ → Type 0
IsAnOldImage old = (v : View) × IsOldImage v old

-- what it says needs so many bytes
abbrev pub NeedsBytes : ℕ → List ℕ → Type 0
NeedsBytes needed old = (v : View) × IsOldImage v old × (needed ≡ image_size v.store.header.banks)

-- what it says has room in so many bytes
abbrev pub FitsInto : ℕ → List ℕ → Type 0
FitsInto size old = (v : View) × IsOldImage v old × (image_size v.store.header.banks ≤ size)

-- it is refused for this reason: it says nothing, or has a damaged bank
pub record IsOldRefused (e : OldRefused) (old : List ℕ) : Type 0 where
  pub within : length old ≤ largest_trace
  pub refused : old_refusal old ≡ Some e
  pub not_whole : (v : View) → ¬ IsWhole old v

-- ---- what the device holds

-- the line that tells what was taken over
abbrev pub line_of_view : View → List ℕ
line_of_view v = migrate_line (migrated_of v).events (migrated_of v).count

-- there was no image among these bytes; the device holds the one that says what the old one said, with nothing pending, and the
-- text tells of it
pub record TookOver (old bytes : List ℕ) (new : Memory) (text : List ℕ) : Type 0 where
  pub view : View
  pub old_is : IsOldImage view old
  pub lacks : LacksMagic bytes
  pub image : List ℕ
  pub held : IsQuiet new.content new.settled image
  pub migrated : IsMigrated view bytes image
  pub text_is : text ≡ line_of_view view

-- the same where the source and the device tell their bytes
abbrev pub MigrateIs : Input → Memory → Memory → List ℕ → Type 0
MigrateIs i old new text = IfTold i old (λ image bytes. TookOver image bytes new text)

-- the bytes are as they were, or lack the magic, or the image says what the old one said; and what stands past it is as it was
abbrev pub IsPartlyTaken : List ℕ → List ℕ → List ℕ → Type 0
IsPartlyTaken old bytes image = (image ≡ bytes) ⊎ ((v : View) × IsOldImage v old × IsPartlyMigrated v bytes image)

-- what a migration needs but memory: an old image without damage, and a device with room and without an image
pub record CanMigrate (i : Input) (m : Memory) : Type 0 where
  pub old : List ℕ
  pub bytes : List ℕ
  pub view : View
  pub given : i.left ≡ Some old
  pub old_is : IsOldImage view old
  pub told : m.content ≡ Some bytes
  pub room : image_size view.store.header.banks ≤ m.size
  pub lacks : LacksMagic bytes

-- ---- why nothing was taken over

-- why an old image that was given was not taken over; a refusal leaves the bytes as they were
abbrev pub IsTakingCause : ((List ℕ → Type 0) → Type 0) → Memory → Memory → Fault → Type 0
IsTakingCause IsGiven old new (fault.Old e) = IsGiven (IsOldRefused e) × (new ≡ old)
IsTakingCause IsGiven old new fault.Store = IsGiven IsAnOldImage × Rose old.faults new.faults
IsTakingCause IsGiven old new (fault.Short size needed) =
    IsGiven (NeedsBytes needed) × (size ≡ old.size) × (size < needed) × (new.content ≡ old.content)
IsTakingCause IsGiven old new fault.Formatted = IsGiven (FitsInto old.size) × IfSome old.content HasMagic × (new.content ≡ old.content)
IsTakingCause IsGiven old new other = ⊥

-- why nothing was taken over, by the first thing that went wrong
abbrev pub IsMigrateCause : Input → Input → Memory → Memory → Fault → Type 0
IsMigrateCause i i' old new fault.Read = IsTraceCause i i' fault.Read × (new ≡ old)
IsMigrateCause i i' old new fault.TooLong = IsTraceCause i i' fault.TooLong × (new ≡ old)
IsMigrateCause i i' old new fault.OutOfMemory = new ≡ old
IsMigrateCause i i' old new other = IsTakingCause (Gave i i') old new other

-- ---- the word

-- the line of what was taken over from an old image, which the device holds and had none before; a refusal leaves its bytes
pub record Migrates {S K D : Type 0} (s : stream.Ghosts S) (k : sink.Ghosts K) (d : device.Ghosts D) (status : Status)
    (source source' : S) (sink sink' : K) (nvm nvm' : D) : Type 0 where
  -- with Ok the source is at its end
  pub at_end : status ≡ Ok → IsAtEnd (s.left source')
  pub ends : Ends k (OfRun s d MigrateIs source nvm nvm') (OfBoth s d IsMigrateCause source source' nvm nvm') status sink sink'
  -- where nothing was pending, a crash at the end leaves the image as it was, or without the magic, or one that says what the old one said
  pub crash : OfCrash d nvm nvm' (λ bytes image. IfSome (s.left source) (λ old. IsPartlyTaken old bytes image))
  -- an image that is there stays, whatever the status
  pub stays : KeepsImage d nvm nvm'
  -- where nothing counts a fault, an old image without damage is taken over by a device with room and without an image
  pub complete : CanMigrate (input s source) (memory d nvm) → NoFault s.faults source source' → NoFault d.faults nvm nvm'
      → NoFault k.faults sink sink' → IsServed status

-- `migrate` takes it over
abbrev pub ServesMigrate : {S K D : Type 0} → stream.Ghosts S → sink.Ghosts K → device.Ghosts D → List (List ℕ) → Status
    → S → S → K → K → D → D → Type 0
ServesMigrate s k d words status source source' sink sink' nvm nvm' =
    AreMigrateWords words → Migrates s k d status source source' sink sink' nvm nvm'
