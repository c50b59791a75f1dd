-- What a recorder's desk stands for.
use Rattle.std.specs.Prelude.{◌≡◌, ◌≤◌, ◌+◌, ◌⊎◌, ℕ, All, List, [], min, true, if◌then◌else◌}
use Rattle.edr_items.specs.declared.TheConstants.{LATEST_MOMENT, LONGEST_GAP}
use Rattle.edr_items.specs.Item.{mark_of}
use Rattle.edr_items.specs.PerSlowSensor.{EachSlow, slow_at}
use Rattle.edr_items.specs.SensorLists.{SensorLists, items_of}
use Rattle.edr_definitions.specs.Commands.{Issue}
use Rattle.edr_board.specs.Seats.{board_of_recorder, board_of_watch, closed_posted, gate_posted, status_seen}
use Rattle.edr_board.specs.declared.freeze_seats.Asker.{Asker}
use Rattle.edr_board.specs.FreezeSeats.{IsFreshAsker, SlowMarks, freeze_of_asker, grant_posted, last_zero, marks_read, open_zero}
use Rattle.edr_core.specs.Parts.{AreSlotsOf, PartSlots, issues_with}
use Rattle.edr_core.specs.SplitContents.{SplitContents}
use Rattle.edr_core.specs.SplitHistory.{History, start_of}
use Rattle.edr_core.specs.SplitStandsFor.{SplitCoreStandsFor, merge_progress}
use Rattle.edr_loops.specs.declared.per_fast_sensor.PerFastSensor.{PerFastSensor}
use Rattle.edr_seats.specs.Rings.{SameSender, items_sent}
use Rattle.edr_loops.specs.Orders.{Outbox}
use Rattle.edr_loops.specs.declared.recorder.Desk.{Desk}
use Rattle.edr_loops.specs.FastInlets.{AreFastFeeds, HaveFast, fast_marks_of}
use Rattle.edr_loops.specs.Lanes.{FastInlets, FastItems, PartInlets, SameFastInlets, SamePartInlets, SlowParts, fast_taken, no_fast_items, no_slow_parts, slow_taken}
use Rattle.edr_loops.specs.UnsentOrders.{issues_out}
use Rattle.edr_loops.specs.PartInlets.{IsTakenPart}

-- ---- the asker and the core

-- the zero that is asked for, 0 where none is
abbrev pub zero_of : History → ℕ
zero_of h = if h.asking then h.past.closed + 1 else 0

-- the asker later, where it asks for nothing
pub record IsAskerSettled (a b : Asker) : Type 0 where
  pub freeze : freeze_of_asker b ≡ freeze_of_asker a
  pub granted : grant_posted b ≡ grant_posted a
  pub asks : open_zero b ≡ 0
  pub last : last_zero b ≡ last_zero a
  pub marks : marks_read b ≡ marks_read a

-- of the slow sensors the lists have these marks
abbrev pub HaveMarks : SlowMarks → SensorLists → Type 0
HaveMarks m f = EachSlow (λ s. mark_of (items_of s f) ≡ slow_at s m)

-- of each slow sensor the core was given what the asker read of its mark; the ask of the core is that of the asker; and what was
-- granted is no further ahead of the closed tick than a gap may be
pub record AskerAgrees (a : Asker) (h : History) : Type 0 where
  pub marks_are : HaveMarks (marks_read a) h.past.given
  pub zero_is : open_zero a ≡ zero_of h
  pub last_to : last_zero a ≤ (merge_progress h).closed
  pub granted_near : grant_posted a ≤ h.past.closed + LONGEST_GAP
  pub granted_to : grant_posted a ≤ LATEST_MOMENT

-- ---- the desk

-- the core of cycle n was told this, up to the horizon at most: each part is one of those taken; what is out is what it issued; and
-- where what was taken of the fast sensors are feeds, it was given just that
pub record CoreWasTold (n horizon : ℕ) (c : SplitContents) (a : Asker) (items : FastItems) (parts : SlowParts) (out : List Issue) (h : History) : Type 0 where
  pub core_is : SplitCoreStandsFor c h
  pub cycle_is : h.cycle ≡ n
  pub agrees : AskerAgrees a h
  pub within : h.past.closed ≤ horizon
  pub parts_are : All (IsTakenPart parts) h.parts
  pub issues_are : (slots : PartSlots) → AreSlotsOf h.parts slots → out ≡ issues_with slots h.past.given n h.past.closed
  pub taken_are : AreFastFeeds items → HaveFast items h.past.given

-- a desk's core was told this: items and parts came out of its rings, and out is what was sent, and then what is held
abbrev pub DeskWasTold : ℕ → ℕ → Desk → History → Type 0
DeskWasTold n horizon d h = CoreWasTold n horizon d.core d.asker (fast_taken d.fast) (slow_taken d.parts) (issues_out d.outbox d.held) h

-- the desk of cycle n stands for something, and knows the last moments of what was taken, what it granted, and whether it asks
pub record DeskStands (n horizon : ℕ) (d : Desk) : Type 0 where
  pub history : History
  pub told : DeskWasTold n horizon d history
  pub last_is : d.last ≡ fast_marks_of (fast_taken d.fast)
  pub granted_is : d.granted ≡ grant_posted d.asker
  pub asking_is : d.asking ≡ history.asking

-- a core of cycle n that was told nothing, and an asker, rings and an outbox that are fresh
pub record IsFreshDesk (n : ℕ) (c : SplitContents) (a : Asker) (fast : FastInlets) (parts : PartInlets) (o : Outbox) : Type 0 where
  pub core_is : SplitCoreStandsFor c (start_of n)
  pub asker_is : IsFreshAsker (freeze_of_asker a) a
  pub fast_is : fast_taken fast ≡ no_fast_items
  pub parts_are : slow_taken parts ≡ no_slow_parts
  pub sent_is : items_sent o ≡ []

-- it does so of some cycle
abbrev pub IsRecording : Desk → Type 0
IsRecording d = (n : ℕ) × (horizon : ℕ) × DeskStands n horizon d

-- ---- the desk later, and what it has posted

-- the desk at the same rings, the same freeze and the same board
pub record SameDesk (a b : Desk) : Type 0 where
  pub fast : SameFastInlets a.fast b.fast
  pub parts : SamePartInlets a.parts b.parts
  pub outbox : SameSender a.outbox b.outbox
  pub freeze : freeze_of_asker b.asker ≡ freeze_of_asker a.asker
  pub recorder : board_of_recorder b.seat ≡ board_of_recorder a.seat
  pub watch : board_of_watch b.watch ≡ board_of_watch a.watch

-- the desk knows which tick its seat has posted as closed, and the gate is not past go
abbrev pub HasPosted : Desk → Type 0
HasPosted d = (closed_posted d.seat ≡ d.posted) × (gate_posted d.seat ≤ 1)

-- a desk later: at the same rings, freeze and board, and standing for what was told if it did so before, under each horizon that
-- isn't below this tick
pub record LaterUpTo (tick : ℕ) (a b : Desk) : Type 0 where
  pub same : SameDesk a b
  pub stands : (n horizon : ℕ) → tick ≤ horizon → DeskStands n horizon a → DeskStands n horizon b

-- the same where no tick is closed
abbrev pub Later : Desk → Desk → Type 0
Later a b = LaterUpTo 0 a b

-- nothing is posted on the board
abbrev pub SeatStays : Desk → Desk → Type 0
SeatStays a b = (b.seat ≡ a.seat) × (b.posted ≡ a.posted)

-- the desk of a recording goes on: it records later, up to this tick at most, and has posted nothing on the board
pub record RecordsOn (tick : ℕ) (a b : Desk) : Type 0 where
  pub later : LaterUpTo tick a b
  pub stands : IsRecording b
  pub seat : SeatStays a b

-- the same where what it holds is left alone
abbrev pub RecordsOnHolding : ℕ → Desk → Desk → Type 0
RecordsOnHolding tick a b = RecordsOn tick a b × (b.held ≡ a.held)

-- ---- the end of the loop

-- the recorder's work is done: each item of the fast sensors is taken, the horizon is posted as closed, and what the slow sensors may
-- still keep past it is granted
pub record IsDone (horizon : ℕ) (ends : PerFastSensor ℕ) (d : Desk) : Type 0 where
  pub taken : fast_marks_of (fast_taken d.fast) ≡ ends
  pub closed : horizon ≤ closed_posted d.seat
  pub granted : min (horizon + LONGEST_GAP) LATEST_MOMENT ≤ grant_posted d.asker

-- the recorder's loop has ended: the committer has stopped, or the work is done
abbrev pub HasEnded : ℕ → PerFastSensor ℕ → Desk → Type 0
HasEnded horizon ends d = ((status_seen d.watch).stopped ≡ true) ⊎ IsDone horizon ends d
