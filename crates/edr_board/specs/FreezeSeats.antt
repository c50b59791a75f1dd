-- What a contract sees of a freeze and its seats.
use Rattle.std.specs.Prelude.{◌≡◌, ◌≤◌, ◌+◌, ℕ, Option, Some, None, List, if◌then◌else◌, nat_eq, slice_index, unwrap_or}
use Rattle.std.specs.Arc.{arc_value}
use Rattle.atomic_table.specs.Seated.{TableId}
use Rattle.edr_items.specs.declared.TheConstants.{LONGEST_GAP}
use Rattle.edr_items.specs.declared.Sensor.{Sensor}
use Rattle.edr_items.specs.declared.Sensor.TheVariants.{Speed, Throttle, Brake, Belt, Lamp}
use Rattle.edr_items.specs.declared.per_slow_sensor.PerSlowSensor.{PerSlowSensor}
use Rattle.edr_items.specs.PerSlowSensor.{EachSlow, slow_at, slow_value_of, with_slow_value, each_slow_value, slow_values_by}
use Rattle.edr_board.specs.FreezeViews.{place_of}
use Rattle.edr_board.specs.declared.freeze_seats.Freeze.{Freeze}
use Rattle.edr_board.specs.declared.freeze_seats.Asker.{Asker}
use Rattle.edr_board.specs.declared.freeze_seats.Keeper.{Keeper}

-- which freeze it is, and whose freeze a seat is of
abbrev pub freeze_id : Freeze → TableId
freeze_id f = (arc_value f.table).shared.table_id

abbrev pub freeze_of_asker : Asker → TableId
freeze_of_asker a = a.seat.table_id

abbrev pub freeze_of_keeper : Keeper → TableId
freeze_of_keeper k = k.seat.table_id

-- ---- what the asker has granted and asked for

-- the last grant, 1000 before the first
abbrev pub grant_posted : Asker → ℕ
grant_posted a = a.seat.me.0.granted

-- the zero of the open ask, 0 where none is open
abbrev pub open_zero : Asker → ℕ
open_zero a = a.seat.me.0.asked

-- the last zero that was asked for, 0 before the first
abbrev pub last_zero : Asker → ℕ
last_zero a = a.seat.me.0.last

-- ---- marks

-- the marks of the slow sensors
abbrev pub SlowMarks : Type 0
SlowMarks = PerSlowSensor ℕ

-- none was posted
abbrev pub no_marks : SlowMarks
no_marks = each_slow_value 0

-- the mark of that sensor; the other three have none here
abbrev pub mark_in : Sensor → SlowMarks → ℕ
mark_in s m = unwrap_or (slow_value_of s m) 0

-- the marks with another one of that sensor
abbrev pub with_mark_of : Sensor → ℕ → SlowMarks → SlowMarks
with_mark_of s n m = with_slow_value s n m

-- the marks as the words have them
abbrev pub marks_from : List ℕ → SlowMarks
marks_from words = slow_values_by (λ s. slice_index words (place_of s))

-- what the asker has read of the marks, 0 before its first load of one
abbrev pub marks_read : Asker → SlowMarks
marks_read a = marks_from a.seat.me.0.read

-- ---- what a keeper has read and posted

-- of which sensor a keeper is
abbrev pub IsKeeperOf : Sensor → Keeper → Type 0
IsKeeperOf s k = k.place ≡ place_of s

-- what a keeper has read of granted
abbrev pub grant_read : Keeper → ℕ
grant_read k = k.seat.me.0.granted

-- the last mark that a keeper posted, 0 before the first
abbrev pub mark_posted : Keeper → ℕ
mark_posted k = k.seat.me.0.mark

-- what a keeper loaded last of the word asked, 0 before its first load
abbrev pub asked_read : Keeper → ℕ
asked_read k = k.seat.me.0.asked

-- the zero that a word asked names: 0 names none
abbrev pub zero_in : ℕ → Option ℕ
zero_in n = if nat_eq n 0 then None else Some n

-- ---- what a call needs and leaves

-- the rest of an asker, and of a keeper, is as before
pub record SameAsker (a b : Asker) : Type 0 where
  pub freeze : freeze_of_asker b ≡ freeze_of_asker a
  pub granted : grant_posted b ≡ grant_posted a
  pub asks : open_zero b ≡ open_zero a
  pub last : last_zero b ≡ last_zero a

-- the asker asks what it did before
abbrev pub SameAsks : Asker → Asker → Type 0
SameAsks a b = (open_zero b ≡ open_zero a) × (last_zero b ≡ last_zero a)

pub record SameKeeper (a b : Keeper) : Type 0 where
  pub freeze : freeze_of_keeper b ≡ freeze_of_keeper a
  pub place : b.place ≡ a.place

-- the mark that a keeper posted has reached the zero, and is at most the longest gap past it
abbrev pub HasNearMark : Keeper → ℕ → Type 0
HasNearMark k z = (z ≤ mark_posted k) × (mark_posted k ≤ z + LONGEST_GAP)

-- each of these marks has reached the zero
abbrev pub AllReach : ℕ → SlowMarks → Type 0
AllReach z m = EachSlow (λ s. z ≤ slow_at s m)

-- ---- fresh seats

-- an asker of this freeze that has granted what is granted at first, asked for nothing and read no mark
pub record IsFreshAsker (id : TableId) (a : Asker) : Type 0 where
  pub freeze : freeze_of_asker a ≡ id
  pub granted : grant_posted a ≡ 1000
  pub asks : open_zero a ≡ 0
  pub last : last_zero a ≡ 0
  pub marks : marks_read a ≡ no_marks

-- a keeper of this freeze, of this sensor, that has posted no mark
pub record IsFreshKeeper (id : TableId) (s : Sensor) (k : Keeper) : Type 0 where
  pub freeze : freeze_of_keeper k ≡ id
  pub sensor : IsKeeperOf s k
  pub mark : mark_posted k ≡ 0
  pub granted : grant_read k ≡ 1000
  pub asked : asked_read k ≡ 0

-- the keepers of this freeze, none of which has posted a mark
pub record AreFresh (id : TableId) (k : PerSlowSensor Keeper) : Type 0 where
  pub speed : IsFreshKeeper id Speed k.speed
  pub throttle : IsFreshKeeper id Throttle k.throttle
  pub brake : IsFreshKeeper id Brake k.brake
  pub belt : IsFreshKeeper id Belt k.belt
  pub lamp : IsFreshKeeper id Lamp k.lamp
