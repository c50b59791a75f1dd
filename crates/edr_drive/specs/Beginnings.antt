-- What a cycle by threads begins with.
use Rattle.std.specs.Prelude.{◌≡◌, ℕ, []}
use Rattle.edr_items.specs.SensorLists.{SensorLists}
use Rattle.edr_core.specs.Captures.{no_captures}
use Rattle.edr_core.specs.SplitHistory.{start_of}
use Rattle.edr_core.specs.SplitStandsFor.{SplitCoreStandsFor}
use Rattle.edr_seats.specs.Rings.{AreOfOneRing, IsFreshRing, items_taken}
use Rattle.edr_loops.specs.Orders.{Inbox}
use Rattle.edr_board.specs.FreezeSeats.{IsFreshAsker, freeze_of_asker}
use Rattle.edr_board.specs.Seats.{closed_posted, gate_posted}
use Rattle.edr_loops.specs.declared.per_fast_sensor.PerFastSensor.{PerFastSensor}
use Rattle.edr_loops.specs.FastInlets.{fast_marks_of}
use Rattle.edr_loops.specs.Lanes.{AreFastLanes, ArePartLanes, FastItems, fast_taken, no_fast_items, no_slow_parts, slow_taken}
use Rattle.edr_loops.specs.Recorders.{HasPosted, DeskStands}
use Rattle.edr_drive.specs.declared.beginning.WorkersAndRecorder.{WorkersAndRecorder}
use Rattle.edr_drive.specs.declared.beginning.SensorRings.{SensorRings}
use Rattle.edr_drive.specs.declared.beginning.CoreAndCaptures.{CoreAndCaptures}
use Rattle.edr_drive.specs.declared.beginning.SharedEnds.{SharedEnds}
use Rattle.edr_drive.specs.declared.beginning.Seats.{Seats}
use Rattle.edr_loops.specs.Senders.{HaveBegun}

-- the lists of the fast sensors
abbrev pub fast_items_of : SensorLists → FastItems
fast_items_of f = record { along = f.along; across = f.across; restraint = f.restraint }

-- their last moments
abbrev pub fast_ends_of : SensorLists → PerFastSensor ℕ
fast_ends_of f = fast_marks_of (fast_items_of f)

-- the senders at one end of each ring and the inlets at the other, through which nothing went, and an asker that asked for nothing
pub record AreFreshRings (r : SensorRings) : Type 0 where
  pub lanes : AreFastLanes r.senders.fast r.fast
  pub part_lanes : ArePartLanes r.senders.slow r.parts
  pub begun : (f : SensorLists) → HaveBegun f r.senders
  pub fast_taken_is : fast_taken r.fast ≡ no_fast_items
  pub parts_taken_are : slow_taken r.parts ≡ no_slow_parts
  pub asker_is : IsFreshAsker (freeze_of_asker r.asker) r.asker

-- the recorder's seat has posted neither a gate nor a tick
pub record HaveNotPosted (s : Seats) : Type 0 where
  pub gate : gate_posted s.recorder ≡ 0
  pub closed : closed_posted s.recorder ≡ 0

-- a core of cycle n that was told nothing, and captures that keep nothing
pub record AreFreshCoreAndCaptures (n : ℕ) (c : CoreAndCaptures) : Type 0 where
  pub core : SplitCoreStandsFor c.core (start_of n)
  pub captures_are : c.captures ≡ no_captures

-- rings, orders and seats that are fresh
pub record AreFreshEnds (c : SharedEnds) : Type 0 where
  pub rings : AreFreshRings c.rings
  pub orders_are : IsFreshRing c.orders.outbox c.orders.inbox
  pub seats : HaveNotPosted c.seats

-- a desk at one end of each ring, and the senders, as these lists left them, and the inbox at the other; and captures that keep nothing
pub record AreTied (f : SensorLists) (r : WorkersAndRecorder) (inbox : Inbox) : Type 0 where
  pub lanes : AreFastLanes r.senders.fast r.desk.fast
  pub part_lanes : ArePartLanes r.senders.slow r.desk.parts
  pub begun : HaveBegun f r.senders
  pub pair : AreOfOneRing r.desk.outbox inbox
  pub captures : r.captures ≡ no_captures

-- nothing was given to the desk of cycle n, and nothing went through the rings
pub record IsBeginning (n : ℕ) (r : WorkersAndRecorder) (inbox : Inbox) : Type 0 where
  pub stands : (horizon : ℕ) → DeskStands n horizon r.desk
  pub posted : HasPosted r.desk
  pub tied : (f : SensorLists) → AreTied f r inbox
  pub fresh : items_taken inbox ≡ []
