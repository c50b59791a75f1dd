-- What is left to commit of a cycle by threads, once they have ended.
use Rattle.std.specs.Prelude.{◌≡◌, ◌++◌, ℕ, List}
use Rattle.edr_items.specs.SensorLists.{SensorLists, horizon_of}
use Rattle.edr_definitions.specs.Commands.{Issue, issues}
use Rattle.edr_cycle.specs.Rest.{issues_past}
use Rattle.edr_seats.specs.Rings.{items_known, items_taken}
use Rattle.edr_loops.specs.Orders.{Inbox, issues_of}
use Rattle.edr_loops.specs.declared.recorder.Desk.{Desk}
use Rattle.edr_loops.specs.Recorders.{DeskStands}
use Rattle.edr_loops.specs.UnsentOrders.{issues_held, issues_out}
use Rattle.edr_loops.specs.Lanes.{AreTakenParts, FastBegin}

-- what the committer took
abbrev pub issues_taken : Inbox → List Issue
issues_taken inbox = issues_of (items_taken inbox)

-- what the recorder holds, and what the cycle issues past the closed tick
abbrev pub issues_after : SensorLists → Desk → List Issue
issues_after f desk = issues_held desk.held ++ issues_past f desk.core.cycle desk.core.closed

-- the orders in the ring, those that the recorder holds, and what the cycle issues past the closed tick
abbrev pub issues_left : SensorLists → Inbox → Desk → List Issue
issues_left f inbox desk = issues_of (items_known inbox) ++ issues_after f desk

-- what the recorder sent, and then what it holds, is what the cycle issues up to the closed tick
abbrev pub HasIssued : SensorLists → Desk → Type 0
HasIssued f desk = issues f desk.core.cycle desk.core.closed ≡ issues_out desk.outbox desk.held

-- this is so of a cycle of which the desk took first items and parts of these feeds
abbrev pub WhereStands : SensorLists → Desk → (ℕ → Type 0) → Type 0
WhereStands f desk says =
    (n : ℕ) → FastBegin f desk.fast → AreTakenParts f desk.parts → DeskStands n (horizon_of f) desk → says n
