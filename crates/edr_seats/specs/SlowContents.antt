-- What contracts see of a slow sensor's seat.
use Rattle.std.specs.Prelude.{◌≡◌, ◌≤◌, ℕ, List, All}
use Rattle.edr_items.specs.declared.Sensor.{Sensor}
use Rattle.edr_items.specs.declared.Item.{Item}
use Rattle.edr_items.specs.Item.{mark_of}
use Rattle.edr_board.specs.declared.freeze_seats.Keeper.{Keeper}
use Rattle.edr_board.specs.FreezeSeats.{mark_posted}
use Rattle.edr_items.specs.Sensor.{IsSlow}
use Rattle.edr_capture.specs.SensorPart.{IsOfSensor, SensorPart}
use Rattle.edr_seats.specs.Slots.{part_room}
use Rattle.edr_seats.specs.declared.rings.Receiver.{Receiver}
use Rattle.edr_seats.specs.declared.rings.Sender.{Sender}
use Rattle.edr_seats.specs.declared.slow_seat.SlowSeat.TheInside.{Inside}

-- its end of the ring of parts, the samples that it keeps, its seat of the freeze, and the last moment and the last zero
pub record SlowContents : Type 0 where
  pub sender : Sender SensorPart part_room
  pub kept : List Item
  pub keeper : Keeper
  pub sensor : Sensor
  pub last : ℕ
  pub served : ℕ

-- the recorder's end of a ring of parts
abbrev pub PartInlet : Type 0
PartInlet = Receiver SensorPart part_room

abbrev pub slow_contents : Inside → SlowContents
slow_contents s = record { sender = s.sender; kept = s.capture; keeper = s.keeper; sensor = s.sensor; last = s.last; served = s.served }

-- the sensor is a slow one, its samples are in its range and up to its last moment, and that is its mark
pub record IsSlowSeat (s : Inside) : Type 0 where
  pub slow : IsSlow s.sensor
  pub range : All (IsOfSensor s.sensor) s.capture
  pub near : mark_of s.capture ≤ s.last
  pub mark : mark_posted s.keeper ≡ s.last
