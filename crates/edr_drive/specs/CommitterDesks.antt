-- The committer's desk, before the threads run and after them.
use Rattle.std.specs.Prelude.{◌≡◌, ◌≤◌, ◌⊎◌, ℕ, List, [], false, None, Result}
use Rattle.edr_board.specs.Seats.{board_of_committer, board_of_watch, status_seen}
use Rattle.edr_definitions.specs.Commands.{Issue}
use Rattle.edr_device.specs.declared.device.Nvm.{Ghosts}
use Rattle.edr_image.specs.Image.{image_size}
use Rattle.edr_cycle.specs.Begun.{Begun, room_for}
use Rattle.edr_cycle.specs.Commits.{CommitsOn}
use Rattle.edr_cycle.specs.declared.ledger.Ledger as ledger
use Rattle.edr_cycle.specs.declared.ledger.Books.{Books}
use Rattle.edr_seats.specs.Rings.{SameReceiver, items_known, items_taken}
use Rattle.edr_drive.specs.declared.committer.CommitterDesk.{CommitterDesk}
use Rattle.edr_drive.specs.Left.{issues_taken}

-- it has the banks that a start found, and an empty log with room for the whole cycle
pub record HasStarted (s : Begun) (c : CommitterDesk Books) : Type 0 where
  pub banks_are : c.ledger.banks ≡ s.banks
  pub none_held : c.ledger.banks.held ≡ None
  pub live : c.ledger.banks.ended ≡ false
  pub empty : c.ledger.log.acks ≡ []
  pub no_command : c.ledger.log.commands ≡ []
  pub room : room_for s.ticks ≤ c.ledger.log.spare
  pub counted : 1 ≤ s.number

-- the banks have met no fault, and a memory of this size has room for them
pub record CanCommit {L : Type 0} (l : ledger.Ghosts L) (size : ℕ) (c : CommitterDesk L) : Type 0 where
  pub live : (l.banks c.ledger).ended ≡ false
  pub holds : image_size (l.banks c.ledger).store.header.banks ≤ size

-- it can commit, and took no order yet
pub record AwaitsOrders {L : Type 0} (l : ledger.Ghosts L) (size : ℕ) (c : CommitterDesk L) : Type 0 where
  pub can : CanCommit l size c
  pub fresh : items_taken c.inbox ≡ []

-- it is at the same ring and the same board
pub record SamePosts {L : Type 0} (a b : CommitterDesk L) : Type 0 where
  pub ring : SameReceiver a.inbox b.inbox
  pub watch : board_of_watch b.watch ≡ board_of_watch a.watch
  pub seat : board_of_committer b.seat ≡ board_of_committer a.seat

-- it has read that the horizon is closed, and then knew of no order in the ring, or had no room in its log
pub record HasNoOrder {L : Type 0} (l : ledger.Ghosts L) (horizon : ℕ) (c : CommitterDesk L) : Type 0 where
  pub closed : horizon ≤ (status_seen c.watch).closed
  pub none : ((l.log c.ledger).spare ≡ 0) ⊎ (items_known c.inbox ≡ [])

-- these are committed to a ledger, up to a command that failed
abbrev pub CommitsTo : {L D T E : Type 0} → ledger.Ghosts L → Ghosts D → List Issue → Result T E → L → L → D → D → Type 0
CommitsTo l g xs result a b d d' = CommitsOn g xs result (l.banks a) (l.banks b) (l.log a) (l.log b) d d'

-- the same of the ledger of a desk
abbrev pub CommitsAt : {L D T E : Type 0} → ledger.Ghosts L → Ghosts D → List Issue → Result T E → CommitterDesk L → CommitterDesk L → D → D → Type 0
CommitsAt l g xs result a b d d' = CommitsTo l g xs result a.ledger b.ledger d d'

-- what was taken is committed, up to a command that failed
abbrev pub CommitsTaken : {L D T E : Type 0} → ledger.Ghosts L → Ghosts D → Result T E → CommitterDesk L → CommitterDesk L → D → D → Type 0
CommitsTaken l g result a b d d' = CommitsAt l g (issues_taken b.inbox) result a b d d'
