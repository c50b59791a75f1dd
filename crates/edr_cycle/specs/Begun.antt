-- What contracts see of a cycle that was started.
use Rattle.std.specs.Prelude.{◌≡◌, ◌+◌, ◌-◌, ◌*◌, ◌/◌, ◌≤◌, ℕ, false, None, []}
use Rattle.edr_items.specs.SensorLists.{no_items}
use Rattle.edr_core.specs.Contents.{CoreContents}
use Rattle.edr_core.specs.StandsFor.{CoreIsFor}
use Rattle.edr_image.specs.Image.{View}
use Rattle.edr_cycle.specs.CycleLogged.{CycleLogged}
use Rattle.edr_banks.specs.Opened.{OpenedBanks}

-- its number, up to how many ticks there is room in its log, the banks that were found, its core and its log
pub record Begun : Type 0 where
  pub number : ℕ
  pub ticks : ℕ
  pub banks : OpenedBanks
  pub core : CoreContents
  pub log : CycleLogged

-- what the image says before it and after it
abbrev pub view_before : Begun → View
view_before s = record { store = s.banks.store; count = s.number - 1 }

abbrev pub view_begun : Begun → View
view_begun s = record { store = s.banks.store; count = s.number }

-- the core stands for the cycle of that number, to which nothing was given yet
abbrev pub IsFreshCore : CoreContents → ℕ → Type 0
IsFreshCore core number = CoreIsFor core number (record { given = no_items; closed = 0 })

-- how many acknowledgements a cycle of this many ticks can have
abbrev pub room_for : ℕ → ℕ
room_for ticks = 3 * (ticks / 51 + 1)

-- no bank is held and no fault was met, nothing was given to the core, and the log is empty, with room for all acknowledgements
pub record IsBegun (s : Begun) : Type 0 where
  pub none_held : s.banks.held ≡ None
  pub not_ended : s.banks.ended ≡ false
  pub fresh : IsFreshCore s.core s.number
  pub empty : s.log.acks ≡ []
  pub no_command : s.log.commands ≡ []
  pub room : room_for s.ticks ≤ s.log.spare
