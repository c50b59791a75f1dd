-- The bytes of the image that a migration makes, and what a crash inside it may leave.
use Rattle.std.specs.Prelude.{◌≡◌, ◌⊎◌, ℕ, Bool, not, nat_eq, if◌then◌else◌, Option, Some, List, ◌∷◌, ◌++◌, drop, is_some, flat_map, replicate, take}
use Rattle.std.specs.Option.{option_map_or}
use Rattle.byteorder.specs.Endian.{big_bytes}
use Rattle.edr_record.specs.Parts.{CrashPart}
use Rattle.edr_record.specs.declared.Record.{Record}
use Rattle.edr_image.specs.declared.BankView.{BankView}
use Rattle.edr_image.specs.declared.BankView.TheVariants.{Void, Event, Damaged}
use Rattle.edr_image.specs.declared.Header.{Header}
use Rattle.edr_image.specs.declared.places.TheConstants.{BANK_SIZE, CRASH_SIZE, FIRST_SLOT, OPEN_GATE}
use Rattle.edr_image.specs.Image.{View, image_size, new_image, view_of}
use Rattle.edr_image.specs.PartBytes.{crash_bytes, pre_bytes}
use Rattle.edr_device.specs.Faults.{Rose}
use Rattle.edr_device.specs.declared.device.Nvm.{Ghosts}
use Rattle.edr_image.specs.Kept.{IsKept}
use Rattle.edr_banks.specs.Laying.{IsPartlyLaid, LacksMagic}
use Rattle.edr_migrate.specs.Migrated.{migrated_view}

-- ---- its bytes

abbrev pub gate_byte : Bool → ℕ
gate_byte is_open = if is_open then OPEN_GATE else 0

-- a crash part, zeros where there is none
abbrev pub done_bytes : Option CrashPart → List ℕ
done_bytes crash = option_map_or crash_bytes crash (replicate CRASH_SIZE 0)

-- the gates of an event, 13 bytes that are not read, the pre part and the crash part
abbrev pub event_bytes : Record → List ℕ
event_bytes r =
    OPEN_GATE ∷ gate_byte r.locked ∷ gate_byte (is_some r.crash) ∷ replicate 13 0
    ++ pre_bytes r.pre
    ++ done_bytes r.crash

abbrev pub bank_bytes : BankView → List ℕ
bank_bytes Void = replicate BANK_SIZE 0
bank_bytes (Event r) = event_bytes r
bank_bytes (Damaged offset found locked) = replicate BANK_SIZE 0

-- the front of a new image, with a count above 0 in slot 0
abbrev pub front_bytes : Header → ℕ → List ℕ
front_bytes h count =
    take FIRST_SLOT (new_image h) ++ gate_byte (not (nat_eq count 0)) ∷ replicate 3 0 ++ big_bytes 4 count ++ replicate 56 0

-- the image of a view
unfoldable pub image_of : View → List ℕ
image_of v = front_bytes v.store.header v.count ++ flat_map bank_bytes v.store.banks

-- ---- over what stood there

-- the image says what the old one said, and past it stands what stood there
pub record IsMigrated (v : View) (bytes image : List ℕ) : Type 0 where
  pub same : image ≡ image_of v ++ drop (image_size v.store.header.banks) bytes
  pub view : view_of image ≡ Some (migrated_view v)

-- the bytes are as they were, or the magic doesn't stand, or the image is migrated; and what stands past it is as it was
abbrev pub IsPartlyMigrated : View → List ℕ → List ℕ → Type 0
IsPartlyMigrated v bytes image = IsPartlyLaid (image_size v.store.header.banks) (IsMigrated v bytes) bytes image

-- the bytes are as they were, or the magic doesn't stand, or the image is kept
abbrev pub IsKeptAnew : List ℕ → List ℕ → Type 0
IsKeptAnew bytes image = (image ≡ bytes) ⊎ (LacksMagic image ⊎ IsKept image)

-- where the magic doesn't stand and the device doesn't fail, this is so
abbrev pub Completes : {D : Type 0} → Ghosts D → D → D → Type 0 → Type 0
Completes g old new done =
    (bytes : List ℕ) → g.content old ≡ Some bytes → LacksMagic bytes → ¬ Rose (g.faults old) (g.faults new) → done
