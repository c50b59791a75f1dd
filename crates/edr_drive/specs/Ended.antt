-- What the threads leave of a cycle.
use Rattle.std.specs.Prelude.{◌≡◌, ◌++◌, ℕ, length}
use Rattle.edr_items.specs.SensorLists.{SensorLists, horizon_of}
use Rattle.edr_cycle.specs.Remaining.{Remains}
use Rattle.edr_seats.specs.Rings.{items_known, items_sent, items_taken}
use Rattle.edr_loops.specs.Orders.{Inbox}
use Rattle.edr_loops.specs.Recorders.{DeskStands}
use Rattle.edr_drive.specs.declared.beginning.WorkersAndRecorder.{WorkersAndRecorder}
use Rattle.edr_drive.specs.declared.closing.Unclosed.{Unclosed}
use Rattle.edr_drive.specs.Beginnings.{AreTied}
use Rattle.edr_drive.specs.Left.{HasIssued}

-- the desk as it stands in cycle n, and both ends of each ring
pub record IsEnded (f : SensorLists) (n : ℕ) (r : WorkersAndRecorder) (inbox : Inbox) : Type 0 where
  pub stands : DeskStands n (horizon_of f) r.desk
  pub tied : AreTied f r inbox

-- what is left once both ends of each ring were looked at: what remains of the feeds past what the desk took; what it sent, and then
-- holds, is what the cycle issues up to the closed tick; and what it sent is what was taken, and then those that are known
pub record IsUnclosed (f : SensorLists) (u : Unclosed) (inbox : Inbox) : Type 0 where
  pub remains : Remains f u.desk.core.cycle u.desk.core u.rest
  pub issued : HasIssued f u.desk
  pub sent : items_taken inbox ++ items_known inbox ≡ items_sent u.desk.outbox
  pub known : u.count ≡ length (items_known inbox)
