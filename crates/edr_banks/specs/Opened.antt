-- What contracts see of opened banks.
use Rattle.std.specs.Prelude.{◌≡◌, ◌≤◌, ◌-◌, ℕ, Bool, Option, Some, None, length, slice_get}
use Rattle.edr_record.specs.declared.Record.{Record}
use Rattle.edr_image.specs.declared.BankView.TheVariants.{Event}
use Rattle.edr_image.specs.declared.places.TheConstants.{FEWEST_BANKS, MOST_BANKS}
use Rattle.edr_image.specs.Banks.{Store}
use Rattle.edr_image.specs.Steps.{State}

-- the banks with their header, the count of cycles that the image had, the bank that the open event holds, and whether a
-- command has met a fault of the device
pub record OpenedBanks : Type 0 where
  pub store : Store
  pub count : ℕ
  pub held : Option ℕ
  pub ended : Bool

-- the banks, and the bank that the open event holds
abbrev pub state_of : OpenedBanks → State
state_of o = record { store = o.store; held = o.held }

-- there are as many banks as the header says, and one that is held has an event that isn't done
pub record IsOpened (o : OpenedBanks) : Type 0 where
  pub from : FEWEST_BANKS ≤ o.store.header.banks
  pub to : o.store.header.banks ≤ MOST_BANKS
  pub all : length o.store.banks ≡ o.store.header.banks
  pub held : (m : ℕ) → o.held ≡ Some m → (1 ≤ m) × (r : Record) × (slice_get o.store.banks (m - 1) ≡ Some (Event r)) × (r.crash ≡ None)
