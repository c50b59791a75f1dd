-- What a slow sensor's seat keeps and sends.
use Rattle.std.specs.Prelude.{◌≡◌, ◌≢◌, ◌⊎◌, ◌+◌, ◌<◌, ◌≤◌, ℕ, Option, Some, None, List, [], ◌∷◌, ◌++◌}
use Rattle.edr_items.specs.declared.TheConstants.{LONGEST_GAP}
use Rattle.edr_items.specs.declared.Sensor.{Sensor}
use Rattle.edr_items.specs.declared.Item.{Item}
use Rattle.edr_items.specs.declared.ItemRefused.{ItemRefused}
use Rattle.edr_items.specs.Item.{mark_of, refusal_of}
use Rattle.edr_board.specs.declared.freeze_seats.Keeper.{Keeper}
use Rattle.edr_board.specs.FreezeSeats.{freeze_of_keeper, grant_read, asked_read}
use Rattle.edr_capture.specs.Capture.{CaptureStandsFor}
use Rattle.edr_capture.specs.SensorPart.{SensorPart, part}
use Rattle.edr_seats.specs.Rings.{KnowsNoRoom, SameSender, items_sent}
use Rattle.edr_seats.specs.declared.slow_seat.SlowRefused.{SlowRefused}
use Rattle.edr_seats.specs.declared.slow_seat.SlowRefused.TheVariants as slow_refused
use Rattle.edr_seats.specs.declared.slow_seat.Served.{Served}
use Rattle.edr_seats.specs.declared.slow_seat.Served.TheVariants.{Nothing, Sent, Full}
use Rattle.edr_seats.specs.SlowContents.{SlowContents}

-- ---- what is seen of the seat

-- the sensor, and the mark of what was kept
abbrev pub sensor_of_slow : SlowContents → Sensor
sensor_of_slow s = s.sensor

abbrev pub mark_kept : SlowContents → ℕ
mark_kept s = s.last

-- what the seat loaded last of granted and of asked, and the zero of the last part that it sent, 0 before the first
abbrev pub grant_known : SlowContents → ℕ
grant_known s = grant_read s.keeper

abbrev pub asked_known : SlowContents → ℕ
asked_known s = asked_read s.keeper

abbrev pub zero_served : SlowContents → ℕ
zero_served s = s.served

-- what speaks against an item as the next one
abbrev pub refusal_by_slow : SlowContents → Item → Option ItemRefused
refusal_by_slow s x = refusal_of (sensor_of_slow s) (mark_kept s) x

-- ---- the same seat later

-- the same sensor's end of the same ring, at the same freeze
pub record SameSlowSeat (a b : SlowContents) : Type 0 where
  pub ring : SameSender a.sender b.sender
  pub sensor : b.sensor ≡ a.sensor
  pub freeze : freeze_of_keeper b.keeper ≡ freeze_of_keeper a.keeper

-- all but its end of the ring is the same
pub record SameButSender (a b : SlowContents) : Type 0 where
  pub kept : b.kept ≡ a.kept
  pub keeper : b.keeper ≡ a.keeper
  pub sensor : b.sensor ≡ a.sensor
  pub last : b.last ≡ a.last
  pub served : b.served ≡ a.served

-- ---- what it was given and has sent

-- the seat was given these items, and has sent these parts
pub record SlowSeatIsFor (s : SlowContents) (kept : List Item) (parts : List SensorPart) : Type 0 where
  pub keeps : CaptureStandsFor s.kept kept
  pub mark : mark_of kept ≡ s.last
  pub parts_are : items_sent s.sender ≡ parts

-- whatever items and parts it was so for, it is now so for these
abbrev pub NowIsFor : (List Item → List Item) → (List Item → List SensorPart → List SensorPart) → SlowContents → SlowContents → Type 0
NowIsFor kept_then sent_then old new = (kept : List Item) (parts : List SensorPart) → SlowSeatIsFor old kept parts → SlowSeatIsFor new (kept_then kept) (sent_then kept parts)

-- the seat of this sensor, at the freeze of this keeper, that has kept no item and sent no part
pub record IsFreshSeat (sensor : Sensor) (keeper : Keeper) (s : SlowContents) : Type 0 where
  pub stands : SlowSeatIsFor s [] []
  pub of_sensor : sensor_of_slow s ≡ sensor
  pub keeper_is : s.keeper ≡ keeper
  pub served : zero_served s ≡ 0

-- ---- its answers

-- by what speaks against the item, and else because its moment is past what the seat, as it is after the offer, loaded of granted
abbrev pub ExplainsSlow : Option ItemRefused → Item → SlowContents → SlowRefused → Type 0
ExplainsSlow (Some refused) x s answer = answer ≡ slow_refused.Item refused
ExplainsSlow None x s answer = (answer ≡ slow_refused.Ungranted (grant_known s)) × (grant_known s < x.moment)

-- nothing is sent exactly where the word that was loaded is 0 or the zero of the last part; else the part of that zero is sent,
-- or there are as many parts as slots that the seat doesn't know taken
abbrev pub HasServed : SlowContents → SlowContents → Served → Type 0
HasServed a b Nothing = ((asked_known b ≡ 0) ⊎ (asked_known b ≡ zero_served a)) × (zero_served b ≡ zero_served a)
HasServed a b (Sent z) = (asked_known b ≡ z) × (z ≢ 0) × (z ≢ zero_served a) × (zero_served b ≡ z) × (z ≤ mark_kept a) × (mark_kept a ≤ z + LONGEST_GAP)
HasServed a b (Full z) =
    (asked_known b ≡ z) × (z ≢ 0) × (z ≢ zero_served a) × (zero_served b ≡ zero_served a) × KnowsNoRoom b.sender

-- the parts that were sent, past an answer
abbrev pub parts_after : Sensor → List Item → List SensorPart → Served → List SensorPart
parts_after s kept parts Nothing = parts
parts_after s kept parts (Sent z) = parts ++ part s kept z ∷ []
parts_after s kept parts (Full z) = parts
