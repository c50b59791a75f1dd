-- A pre part that is frozen from rings is the one of all items.
use Rattle.std.proofs.Common.{arith, refl, ◌≡◌, ℕ, ◌+◌, ◌-◌, ◌*◌, ◌<◌, ◌≤◌, List}
use Rattle.std.specs.Prelude.{is_some}
use Rattle.edr_definitions.specs.declared.limits.TheConstants.{LONGEST_AGE}
use Rattle.edr_record.specs.declared.TheConstants.{LONG_SLOTS, SINGLE_REACH, SLOT_REACH, SLOT_STEP}
use Rattle.edr_items.specs.declared.TheConstants.{LONGEST_GAP}
use Rattle.edr_items.specs.declared.Sensor.{Sensor}
use Rattle.edr_items.specs.declared.Sensor.TheVariants.{Speed, Throttle, Brake, Belt, Lamp}
use Rattle.edr_items.specs.declared.Item.{Item}
use Rattle.edr_items.specs.Item.{IsFeed, mark_of}
use Rattle.edr_items.specs.SensorLists.{SensorLists, items_of, AreFeeds}
use Rattle.edr_record.specs.declared.Place.{Place}
use Rattle.edr_definitions.specs.Parts.{slot, slots_before, pre_part}
use Rattle.edr_definitions.specs.Rings.{samples, newest}
use Rattle.edr_definitions.specs.Core.{ring_lists}
use Rattle.edr_definitions.proofs.AgreeLaws.{map_agree}
use Rattle.edr_definitions.proofs.RingLaws.{IsFeedAfter-rises_from, filter-rises, mark-filter, slot-captured}

-- a slot of the 20 s before time zero, where the mark is no further past it than a gap may be
slot-frozen : (s : Sensor) (n z t : ℕ) (xs : List Item) → SLOT_REACH + LONGEST_GAP + LONGEST_AGE < n → IsFeed s xs → mark_of xs ≤ z + LONGEST_GAP → z ≤ t + SLOT_REACH → slot (newest n (samples xs)) t ≡ slot xs t
slot-frozen s n z t xs room feed near before =
    let rises = IsFeedAfter-rises_from s 0 xs feed in
    let lower = mark-filter (λ x. is_some x.value) 0 xs rises in
    slot-captured n t xs (filter-rises (λ x. is_some x.value) 0 xs rises) (omega (arith, room, lower, near, before))

slots_before-frozen : (s : Sensor) (n z : ℕ) (xs : List Item) → SLOT_REACH + LONGEST_GAP + LONGEST_AGE < n → IsFeed s xs → mark_of xs ≤ z + LONGEST_GAP → slots_before (newest n (samples xs)) z ≡ slots_before xs z
unfolding slots_before
slots_before-frozen s n z xs room feed near =
    map_agree (λ k. slot (newest n (samples xs)) (z + SLOT_STEP * k - SLOT_REACH)) (λ k. slot xs (z + SLOT_STEP * k - SLOT_REACH)) LONG_SLOTS 0
    (λ k lo hi. slot-frozen s n z (z + SLOT_STEP * k - SLOT_REACH) xs room feed near (omega arith))

-- rings that reach back past the first slot from the newest sample that may stand in them give the pre part
pub pre_part-frozen : (room : ℕ) (f : SensorLists) (n z : ℕ) (place : Place) → SLOT_REACH + LONGEST_GAP + LONGEST_AGE < room → AreFeeds f → ((s : Sensor) → mark_of (items_of s f) ≤ z + LONGEST_GAP) → pre_part (ring_lists room f) n place z ≡ pre_part f n place z
unfolding pre_part
pre_part-frozen room f n z place enough feeds near =
    let speed = slots_before-frozen Speed room z f.speed enough (feeds Speed) (near Speed) in
    let throttle = slots_before-frozen Throttle room z f.throttle enough (feeds Throttle) (near Throttle) in
    let brake = slots_before-frozen Brake room z f.brake enough (feeds Brake) (near Brake) in
    let belt = slot-frozen Belt room z (z - SINGLE_REACH) f.belt enough (feeds Belt) (near Belt) (omega arith) in
    let lamp = slot-frozen Lamp room z (z - SINGLE_REACH) f.lamp enough (feeds Lamp) (near Lamp) (omega arith) in
    rw (speed, throttle, brake, belt, lamp) refl
