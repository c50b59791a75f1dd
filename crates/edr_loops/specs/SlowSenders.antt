-- What a slow sensor's sender at a worker has kept and sent.
use Rattle.std.specs.Prelude.{◌≡◌, ◌⊎◌, ◌+◌, ◌<◌, ◌≤◌, ℕ, List, [], ◌∷◌, ◌++◌, length, take, All}
use Rattle.edr_items.specs.declared.Sensor.{Sensor}
use Rattle.edr_items.specs.declared.Item.{Item}
use Rattle.edr_items.specs.Item.{IsFeed, mark_of}
use Rattle.edr_capture.specs.SensorPart.{SensorPart, part}
use Rattle.edr_seats.specs.Rings.{KnowsNoRoom, items_sent}
use Rattle.edr_seats.specs.Slow.{SameSlowSeat, SlowSeatIsFor, asked_known, grant_known, sensor_of_slow, zero_served}
use Rattle.edr_seats.specs.SlowContents.{SlowContents}
use Rattle.edr_loops.specs.declared.fast_sender.Offered.{Offered}
use Rattle.edr_loops.specs.declared.fast_sender.Offered.TheVariants.{Sent, Full, Over}
use Rattle.edr_loops.specs.declared.slow_sender.SlowSender.{SlowSender}

-- the part is that of a beginning of the sensor's list, whose mark has reached the part's time zero
pub record IsPartOfBeginning (s : Sensor) (xs : List Item) (p : SensorPart) : Type 0 where
  pub many : ℕ
  pub is : p ≡ part s (take many xs) p.zero
  pub reached : p.zero ≤ mark_of (take many xs)

abbrev pub AreParts : Sensor → List Item → List SensorPart → Type 0
AreParts s xs ps = All (IsPartOfBeginning s xs) ps

-- the sender of this sensor has kept the first items of its list, as many as it says, and has sent parts of beginnings of it
pub record IsKeeping (s : Sensor) (xs : List Item) (p : SlowSender) : Type 0 where
  pub sensor : sensor_of_slow p.seat ≡ s
  pub stands : SlowSeatIsFor p.seat (take p.next xs) (items_sent p.seat.sender)
  pub parts : AreParts s xs (items_sent p.seat.sender)

-- the same sender later
abbrev pub KeepsOn : Sensor → List Item → SlowSender → SlowSender → Type 0
KeepsOn s xs a b = SameSlowSeat a.seat b.seat × IsKeeping s xs b

-- it has sent no part since, and kept what it had
abbrev pub KeepsMore : SlowSender → SlowSender → Type 0
KeepsMore a b = (a.next ≤ b.next) × (items_sent b.seat.sender ≡ items_sent a.seat.sender)

-- the next item of the list is past what the seat loaded of granted
abbrev pub IsUngranted : List Item → SlowSender → Type 0
IsUngranted xs p = (x : Item) × (take (p.next + 1) xs ≡ take p.next xs ++ x ∷ []) × (grant_known p.seat < x.moment)

-- what came of offers: items were kept; none was, since the next one isn't granted; or none, since all are kept, if they are a feed
abbrev pub CameOfKept : Sensor → List Item → SlowSender → SlowSender → Offered → Type 0
CameOfKept s xs a b Sent = a.next < b.next
CameOfKept s xs a b Full = (b.next ≡ a.next) × IsUngranted xs b
CameOfKept s xs a b Over = (b.next ≡ a.next) × (IsFeed s xs → length xs ≤ b.next)

-- no part is asked for that wasn't sent, by what the seat loaded
abbrev pub HasNoneToSend : SlowContents → Type 0
HasNoneToSend s = (asked_known s ≡ 0) ⊎ (asked_known s ≡ zero_served s)

-- what came of a look at what is asked: a part was sent; none was, since no slot is known to be free; or none is to be sent
abbrev pub CameOfPart : SlowSender → SlowSender → Offered → Type 0
CameOfPart a b Sent = length (items_sent a.seat.sender) < length (items_sent b.seat.sender)
CameOfPart a b Full = (items_sent b.seat.sender ≡ items_sent a.seat.sender) × KnowsNoRoom b.seat.sender
CameOfPart a b Over = (items_sent b.seat.sender ≡ items_sent a.seat.sender) × HasNoneToSend b.seat

-- what came of both: an item was kept or a part was sent; neither was, and something is left; or nothing is left of either
abbrev pub CameOfSlow : Sensor → List Item → SlowSender → SlowSender → Offered → Type 0
CameOfSlow s xs a b Sent = (a.next < b.next) ⊎ (length (items_sent a.seat.sender) < length (items_sent b.seat.sender))
CameOfSlow s xs a b Full = (b.next ≡ a.next) × (items_sent b.seat.sender ≡ items_sent a.seat.sender) × (IsUngranted xs b ⊎ KnowsNoRoom b.seat.sender)
CameOfSlow s xs a b Over = (b.next ≡ a.next) × (items_sent b.seat.sender ≡ items_sent a.seat.sender) × (IsFeed s xs → length xs ≤ b.next) × HasNoneToSend b.seat
