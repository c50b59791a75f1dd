-- What a fast sensor's sender at a worker has sent.
use Rattle.std.specs.Prelude.{◌≡◌, ◌<◌, ◌≤◌, List, length, take}
use Rattle.edr_items.specs.declared.Item.{Item}
use Rattle.edr_items.specs.declared.Sensor.{Sensor}
use Rattle.edr_items.specs.Item.{IsFeed}
use Rattle.edr_seats.specs.Rings.{KnowsNoRoom, items_sent}
use Rattle.edr_seats.specs.Seat.{SameSeat, sensor_of}
use Rattle.edr_loops.specs.declared.fast_sender.Offered.{Offered}
use Rattle.edr_loops.specs.declared.fast_sender.Offered.TheVariants.{Sent, Full, Over}
use Rattle.edr_loops.specs.declared.fast_sender.FastSender.{FastSender}

-- a sender has sent the first items of this list, as many as it says
abbrev pub HasSent : List Item → FastSender → Type 0
HasSent xs p = items_sent p.seat.sender ≡ take p.next xs

-- the same sender later: it has sent first items of the list
abbrev pub SendsOn : List Item → FastSender → FastSender → Type 0
SendsOn xs a b = SameSeat a.seat b.seat × HasSent xs b

-- all of the list is sent, if it is a feed of the sensor whose seat this is
abbrev pub HasSentAll : Sensor → List Item → FastSender → Type 0
HasSentAll s xs p = IsFeed s xs → sensor_of p.seat ≡ s → length xs ≤ p.next

-- what came of offers: items were sent; none was, since no slot is known to be free; or none, since all are sent
abbrev pub CameOfItems : Sensor → List Item → FastSender → FastSender → Offered → Type 0
CameOfItems s xs a b Sent = a.next < b.next
CameOfItems s xs a b Full = (b.next ≡ a.next) × KnowsNoRoom b.seat.sender
CameOfItems s xs a b Over = (b.next ≡ a.next) × HasSentAll s xs b

-- what came of offers here and there
abbrev pub came_of_both : Offered → Offered → Offered
came_of_both Sent there = Sent
came_of_both Full Sent = Sent
came_of_both Full Full = Full
came_of_both Full Over = Full
came_of_both Over there = there
