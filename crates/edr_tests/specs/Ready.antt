-- A cycle by threads that has begun.
use Rattle.std.specs.Prelude.{◌≡◌, ◌≤◌, ℕ, [], false}
use Rattle.edr_items.specs.SensorLists.{SensorLists}
use Rattle.edr_image.specs.Image.{image_size}
use Rattle.edr_loops.specs.Recorders.{HasPosted, IsRecording}
use Rattle.edr_seats.specs.Rings.{items_taken}
use Rattle.edr_loops.specs.Senders.{HaveBegun}
use Rattle.edr_drive.specs.declared.beginning.OpenedCycle.{OpenedCycle}

-- its threads can run: nothing was done yet, and a memory of this size has room for its banks
pub record IsReadyOver (size : ℕ) (b : OpenedCycle) : Type 0 where
  pub senders : (f : SensorLists) → HaveBegun f b.recording.senders
  pub recording : IsRecording b.recording.desk
  pub posted : HasPosted b.recording.desk
  pub live : b.committer.ledger.banks.ended ≡ false
  pub holds : image_size b.committer.ledger.banks.store.header.banks ≤ size
  pub fresh : items_taken b.committer.inbox ≡ []
