-- The part of a sensor: its bounds, and what doesn't change it.
use Rattle.std.proofs.Common.{arith, refl, ap, ◌≡◌, ◌∙◌, ℕ, ◌+◌, ◌-◌, ◌*◌, ◌<◌, ◌≤◌, true, false, nat_le, ◌&&◌, ℤ, pos, Some, None, Option, IfSome, List, [], ◌∷◌, ◌++◌, length, filter, replicate}
use Rattle.std.specs.Prelude.{All}
use Rattle.std.specs.Option.{option_or, option_map_or}
use Rattle.std.specs.List.{range_with_len}
use Rattle.std.proofs.lemmas.Int.{ints}
use Rattle.std.proofs.lemmas.List.{append-nil}
use Rattle.std.proofs.lemmas.List.Elements.{filter-append, All-head, All-tail, All-filter, All-map, All-cons, All-replicate, All-from_get_or}
use Rattle.edr_definitions.specs.declared.limits.TheConstants.{LONGEST_AGE}
use Rattle.edr_items.specs.declared.TheConstants.{LONGEST_GAP}
use Rattle.edr_record.specs.declared.TheConstants.{LONG_SLOTS, SINGLE_REACH, SLOT_REACH, SLOT_STEP}
use Rattle.edr_items.specs.declared.Sensor.{Sensor}
use Rattle.edr_items.specs.declared.Sensor.TheVariants.{Belt, Lamp}
use Rattle.edr_items.specs.declared.Item.{Item}
use Rattle.edr_items.specs.Item.{mark_of}
use Rattle.edr_items.specs.Sensor.{is_in_range, IsSlow}
use Rattle.edr_definitions.specs.Parts.{latest_value, slot, slots_before}
use Rattle.edr_definitions.proofs.AgreeLaws.{map_agree}
use Rattle.edr_capture.specs.Capture.{CaptureStandsFor}
use Rattle.edr_capture.specs.SensorPart.{IsOfSensor, part_slots, part, IsPart}
use Rattle.edr_capture.proofs.CaptureLemmas.{slot_at-given}

-- ---- later items
-- no item that is later than a tick counts at it
none-count : (t z : ℕ) (later : List Item) → t ≤ z → All (λ x. z < x.moment) later → filter (λ x. nat_le t (x.moment + LONGEST_AGE) && nat_le x.moment t) later ≡ []
none-count t z [] le all = refl
none-count t z (x ∷ xs) le all =
    let late = All-head (λ y. z < y.moment) x xs all in
    let b : (nat_le t (x.moment + LONGEST_AGE) && nat_le x.moment t) ≡ false = too_late x.moment t (omega arith) in
    rw b (none-count t z xs le (All-tail (λ y. z < y.moment) x xs all)) where
      too_late : (k t : ℕ) → t < k → (nat_le t (k + LONGEST_AGE) && nat_le k t) ≡ false
      too_late k t h = grind arith

slot-later : (t z : ℕ) (xs later : List Item) → t ≤ z → All (λ x. z < x.moment) later → slot (xs ++ later) t ≡ slot xs t
unfolding slot
slot-later t z xs later le all =
    ap latest_value (filter-append (λ x. nat_le t (x.moment + LONGEST_AGE) && nat_le x.moment t) xs later
    ∙ ap (λ ys. filter (λ x. nat_le t (x.moment + LONGEST_AGE) && nat_le x.moment t) xs ++ ys) (none-count t z later le all)
    ∙ append-nil (filter (λ x. nat_le t (x.moment + LONGEST_AGE) && nat_le x.moment t) xs))

slots-later : (z : ℕ) (xs later : List Item) → All (λ x. z < x.moment) later → slots_before (xs ++ later) z ≡ slots_before xs z
unfolding slots_before
slots-later z xs later all =
    map_agree (λ k. slot (xs ++ later) (z + SLOT_STEP * k - SLOT_REACH)) (λ k. slot xs (z + SLOT_STEP * k - SLOT_REACH)) LONG_SLOTS 0 (λ k lo hi. slot-later (z + SLOT_STEP * k - SLOT_REACH) z xs later (omega arith) all)

part_slots-later : (s : Sensor) (xs later : List Item) (z : ℕ) → All (λ x. z < x.moment) later → part_slots s (xs ++ later) z ≡ part_slots s xs z
part_slots-later Belt xs later z all = ap (λ o. o ∷ replicate (LONG_SLOTS - 1) None) (slot-later (z - SINGLE_REACH) z xs later (omega arith) all)
part_slots-later Lamp xs later z all = ap (λ o. o ∷ replicate (LONG_SLOTS - 1) None) (slot-later (z - SINGLE_REACH) z xs later (omega arith) all)
part_slots-later s xs later z all = slots-later z xs later all

pub part-later : (s : Sensor) (xs later : List Item) (z : ℕ) → All (λ x. z < x.moment) later → part s (xs ++ later) z ≡ part s xs z
part-later s xs later z all = ap (λ slots. record { sensor = s; zero = z; slots = slots }) (part_slots-later s xs later z all)

-- ---- all items that were given
slot-given : (kept given : List Item) (z t : ℕ) → mark_of kept ≤ z + LONGEST_GAP → z ≤ t + SLOT_REACH → CaptureStandsFor kept given → slot kept t ≡ slot given t
slot-given kept given z t near before is = slot_at-given kept given (pos t) (omega (arith, ints, near, before)) is

slots-given : (kept given : List Item) (z : ℕ) → mark_of kept ≤ z + LONGEST_GAP → CaptureStandsFor kept given → slots_before kept z ≡ slots_before given z
unfolding slots_before
slots-given kept given z near is =
    map_agree (λ k. slot kept (z + SLOT_STEP * k - SLOT_REACH)) (λ k. slot given (z + SLOT_STEP * k - SLOT_REACH)) LONG_SLOTS 0 (λ k lo hi. slot-given kept given z (z + SLOT_STEP * k - SLOT_REACH) near (omega arith) is)

part_slots-given : (s : Sensor) (kept given : List Item) (z : ℕ) → mark_of kept ≤ z + LONGEST_GAP → CaptureStandsFor kept given → part_slots s kept z ≡ part_slots s given z
part_slots-given Belt kept given z near is = ap (λ o. o ∷ replicate (LONG_SLOTS - 1) None) (slot-given kept given z (z - SINGLE_REACH) near (omega arith) is)
part_slots-given Lamp kept given z near is = ap (λ o. o ∷ replicate (LONG_SLOTS - 1) None) (slot-given kept given z (z - SINGLE_REACH) near (omega arith) is)
part_slots-given s kept given z near is = slots-given kept given z near is

pub part-given : (s : Sensor) (kept given : List Item) (z : ℕ) → mark_of kept ≤ z + LONGEST_GAP → CaptureStandsFor kept given → part s kept z ≡ part s given z
part-given s kept given z near is = ap (λ slots. record { sensor = s; zero = z; slots = slots }) (part_slots-given s kept given z near is)

-- ---- bounds
abbrev IsSlotOf : Sensor → Option ℤ → Type 0
IsSlotOf s o = IfSome o (λ v. is_in_range s v ≡ true)

or_is : (s : Sensor) (a b : Option ℤ) → IsSlotOf s a → IsSlotOf s b → IsSlotOf s (option_or a b)
or_is s (Some v) b p q = p
or_is s None b p q = q

value_is : (s : Sensor) (o : Option ℤ) → option_map_or (is_in_range s) o true ≡ true → IsSlotOf s o
value_is s None e = tt
value_is s (Some v) e = e

latest_is : (s : Sensor) (xs : List Item) → All (IsOfSensor s) xs → IsSlotOf s (latest_value xs)
latest_is s [] all = tt
latest_is s (x ∷ xs) all = or_is s (latest_value xs) x.value (latest_is s xs (All-tail (IsOfSensor s) x xs all)) (value_is s x.value (All-head (IsOfSensor s) x xs all))

slot_is : (s : Sensor) (xs : List Item) (t : ℕ) → All (IsOfSensor s) xs → IsSlotOf s (slot xs t)
unfolding slot
slot_is s xs t all = latest_is s (filter (λ x. nat_le t (x.moment + LONGEST_AGE) && nat_le x.moment t) xs) (All-filter (λ x. nat_le t (x.moment + LONGEST_AGE) && nat_le x.moment t) (IsOfSensor s) xs all)

slots_are : (s : Sensor) (xs : List Item) (z : ℕ) → All (IsOfSensor s) xs → All (IsSlotOf s) (slots_before xs z) × (length (slots_before xs z) ≡ LONG_SLOTS)
unfolding slots_before
slots_are s xs z all =
    (All-map (IsSlotOf s) (λ k. slot xs (z + SLOT_STEP * k - SLOT_REACH)) (range_with_len 0 LONG_SLOTS) (All-from_get_or (λ k. IsSlotOf s (slot xs (z + SLOT_STEP * k - SLOT_REACH))) (range_with_len 0 LONG_SLOTS) 0 (λ i lt. slot_is s xs _ all)), refl)

one_slot : (s : Sensor) (o : Option ℤ) → IsSlotOf s o → All (IsSlotOf s) (o ∷ replicate (LONG_SLOTS - 1) None)
one_slot s o is = All-cons (IsSlotOf s) o (replicate (LONG_SLOTS - 1) None) is (All-replicate (IsSlotOf s) (LONG_SLOTS - 1) None tt)

pub part-is : (s : Sensor) (xs : List Item) (z : ℕ) → IsSlow s → All (IsOfSensor s) xs → IsPart (part s xs z)
part-is Belt xs z slow all = record { slow = slow; long = refl; range = one_slot Belt (slot xs (z - SINGLE_REACH)) (slot_is Belt xs (z - SINGLE_REACH) all); its = refl }
part-is Lamp xs z slow all = record { slow = slow; long = refl; range = one_slot Lamp (slot xs (z - SINGLE_REACH)) (slot_is Lamp xs (z - SINGLE_REACH) all); its = refl }
part-is s xs z slow all = let r = slots_are s xs z all in record { slow = slow; long = r.1; range = r.0; its = tt }
