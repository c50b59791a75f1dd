-- Why nothing is migrated.
use Rattle.std.specs.Prelude.{◌≡◌, ◌≤◌, ◌<◌, ℕ, Option, Some, None, List, IfSome}
use Rattle.edr_device.specs.Faults.{Rose}
use Rattle.edr_image.specs.declared.OldRefused.{OldRefused}
use Rattle.edr_image.specs.declared.OldRefused.TheVariants as old_refused
use Rattle.edr_image.specs.Image.{View, image_size, not_magic, old_refusal}
use Rattle.edr_banks.specs.declared.FormatFault.{FormatFault}
use Rattle.edr_banks.specs.declared.FormatFault.TheVariants as format_fault
use Rattle.edr_migrate.specs.declared.MigrateFault.{MigrateFault}
use Rattle.edr_migrate.specs.declared.MigrateFault.TheVariants.{OldShort, OldHeader, OldBank, Short, Formatted, StoreFault}
use Rattle.edr_migrate.specs.Migrated.{IsWhole}

-- the fault of an old image that is refused
abbrev pub fault_of : OldRefused → MigrateFault
fault_of (old_refused.Short size needed) = OldShort size needed
fault_of (old_refused.Header h) = OldHeader h
fault_of (old_refused.Bank bank offset found) = OldBank bank offset found

-- the same of a device over which nothing is laid
abbrev pub laying_fault : FormatFault → MigrateFault
laying_fault (format_fault.Short size needed) = Short size needed
laying_fault format_fault.Formatted = Formatted
laying_fault format_fault.StoreFault = StoreFault

-- how many bytes the new image has of an old one that says this
abbrev pub new_size : View → ℕ
new_size v = image_size v.store.header.banks

-- the old image says this, and a device of this size has room for the new one
pub record HasRoom (old : List ℕ) (size : ℕ) (v : View) : Type 0 where
  pub old_is : IsWhole old v
  pub room : new_size v ≤ size

-- the device is too short for an old image that says this
pub record LacksRoom (old : List ℕ) (size needed : ℕ) (v : View) : Type 0 where
  pub old_is : IsWhole old v
  pub needs : needed ≡ new_size v
  pub short : size < needed

-- the cause of each fault, over a device of this size that told this content and counted these faults
abbrev pub IsCause : List ℕ → ℕ → Option (List ℕ) → ℕ → ℕ → MigrateFault → Type 0
IsCause old extent content before now (OldShort size needed) = old_refusal old ≡ Some (old_refused.Short size needed)
IsCause old extent content before now (OldHeader h) = old_refusal old ≡ Some (old_refused.Header h)
IsCause old extent content before now (OldBank bank offset found) = old_refusal old ≡ Some (old_refused.Bank bank offset found)
IsCause old extent content before now (Short size needed) = (v : View) × (size ≡ extent) × LacksRoom old extent needed v
IsCause old extent content before now Formatted = (v : View) × HasRoom old extent v × IfSome content (λ bytes. not_magic bytes ≡ None)
IsCause old extent content before now StoreFault = (v : View) × HasRoom old extent v × Rose before now
