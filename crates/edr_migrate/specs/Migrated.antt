-- What a migration keeps of an image of version 1.
use Rattle.std.specs.Prelude.{◌≡◌, ◌≢◌, ℕ, Bool, Some, List, map, count_by, slice_get}
use Rattle.edr_record.specs.declared.Profile.TheVariants.{Short}
use Rattle.edr_record.specs.declared.Record.{Record}
use Rattle.edr_record.specs.Parts.{PrePart}
use Rattle.edr_image.specs.declared.BankView.{BankView}
use Rattle.edr_image.specs.declared.BankView.TheVariants.{Void, Event, Damaged}
use Rattle.edr_image.specs.declared.Header.{Header}
use Rattle.edr_image.specs.Banks.{Store, holds_event}
use Rattle.edr_image.specs.Image.{View, old_view_of}
use Rattle.edr_migrate.specs.declared.Migrated.{Migrated}

-- ---- the definition

-- the same key, place and slots, and the profile short
abbrev pub migrated_pre : PrePart → PrePart
migrated_pre p = record {
  key = p.key;
  place = p.place;
  profile = Short;
  speed = p.speed;
  throttle = p.throttle;
  brake = p.brake;
  belt = p.belt;
  lamp = p.lamp;
}

-- the same lock and crash part
abbrev pub migrated_record : Record → Record
migrated_record r = record { pre = migrated_pre r.pre; locked = r.locked; crash = r.crash }

-- a void bank stays void
abbrev pub migrated_bank : BankView → BankView
migrated_bank Void = Void
migrated_bank (Event r) = Event (migrated_record r)
migrated_bank (Damaged offset found locked) = Damaged offset found locked

-- the same number of banks and the same choice
abbrev pub migrated_header : Header → Header
migrated_header h = record { banks = h.banks; choice = h.choice }

abbrev pub migrated_store : Store → Store
migrated_store s = record { header = migrated_header s.header; banks = map migrated_bank s.banks }

-- what the new image says, where the old one says this: the same count too
abbrev pub migrated_view : View → View
migrated_view v = record { store = migrated_store v.store; count = v.count }

-- each event has the profile short
abbrev pub AreShort : List BankView → Type 0
AreShort banks = (i : ℕ) (r : Record) → slice_get banks i ≡ Some (Event r) → r.pre.profile ≡ Short

-- ---- what is migrated

-- no bank is damaged
abbrev pub AreWhole : List BankView → Type 0
AreWhole banks = (i offset found : ℕ) (locked : Bool) → slice_get banks i ≢ Some (Damaged offset found locked)

-- the bytes are those of an image of version 1 that says this, and none of its banks is damaged
pub record IsWhole (old : List ℕ) (v : View) : Type 0 where
  pub view : old_view_of old ≡ Some v
  pub whole : AreWhole v.store.banks

-- how many events it has, and its count
abbrev pub migrated_of : View → Migrated
migrated_of v = record { events = count_by holds_event v.store.banks; count = v.count }
