-- What a cycle by threads that was opened can be run over, and what it leaves.
use Rattle.std.specs.Prelude.{◌≡◌, ◌≤◌, ℕ, Bool, false, List, [], None}
use Rattle.edr_items.specs.SensorLists.{SensorLists, horizon_of}
use Rattle.edr_device.specs.declared.device.Nvm.{Ghosts}
use Rattle.edr_image.specs.declared.Ack.{Ack}
use Rattle.edr_image.specs.Image.{image_size}
use Rattle.edr_banks.specs.Opened.{OpenedBanks}
use Rattle.edr_cycle.specs.Begun.{room_for}
use Rattle.edr_cycle.specs.Ends.{MeetsCycleOn}
use Rattle.edr_live.specs.declared.ends.LiveWriter.{LiveWriter}
use Rattle.edr_live.specs.Ends.{has_ended, opened_by, shown_by}
use Rattle.edr_live.specs.Writing.{first_view}
use Rattle.edr_drive.specs.declared.beginning.OpenedCycle.{OpenedCycle}
use Rattle.edr_drive.specs.Beginnings.{IsBeginning}

-- it is a beginning, with banks that have met no fault and hold no bank, and an empty log with room for what these feeds issue; and a
-- memory of this extent has room for its banks
pub record CanRunOver (f : SensorLists) (extent : ℕ) (b : OpenedCycle) : Type 0 where
  pub beginning : IsBeginning b.recording.desk.core.cycle b.recording b.committer.inbox
  pub counted : 1 ≤ b.recording.desk.core.cycle
  pub rests : b.committer.ledger.banks.held ≡ None
  pub live : b.committer.ledger.banks.ended ≡ false
  pub empty : b.committer.ledger.log.acks ≡ []
  pub no_command : b.committer.ledger.log.commands ≡ []
  pub room : room_for (horizon_of f) ≤ b.committer.ledger.log.spare
  pub size : image_size b.committer.ledger.banks.store.header.banks ≤ extent

-- the writer was opened over these banks, and has shown nothing
pub record HasShownNothing (o : OpenedBanks) (w : LiveWriter) : Type 0 where
  pub opened : opened_by w ≡ first_view o
  pub none : shown_by w ≡ []
  pub fresh : has_ended w ≡ false

-- the memory and the log are those of the cycle that was opened, over these feeds
abbrev pub MeetsOpenedOn : {D : Type 0} → Ghosts D → SensorLists → OpenedCycle → Bool → List Ack → D → D → Type 0
MeetsOpenedOn g f b failed acks d d' =
    MeetsCycleOn g f b.recording.desk.core.cycle b.committer.ledger.banks.store failed acks d d'
