-- The parts that were taken, and the pre part of a time zero that they make.
use Rattle.std.proofs.Common.{arith, refl, ap, sym, subst, ◌≡◌, ◌∙◌, ℕ, ◌+◌, ◌<◌, ◌≤◌, Bool, true, false, cond, ◌&&◌, nat_eq, Some, None, Option, List, [], ◌∷◌}
use Rattle.std.specs.Prelude.{find, is_none, option_and_then, IfSome, All}
use Rattle.std.proofs.lemmas.Bool.{eqb-true}
use Rattle.std.proofs.lemmas.List.Elements.{All-head, All-tail, All-weaker}
use Rattle.edr_items.specs.declared.Sensor.{Sensor}
use Rattle.edr_items.specs.Sensor.{number_of, IsSlow}
use Rattle.edr_items.specs.PerSensor.{each_value}
use Rattle.edr_items.specs.PerSlowSensor.{EachSlow, slow_at, first_without}
use Rattle.edr_items.specs.SensorLists.{SensorLists}
use Rattle.edr_items.proofs.PerSensorLemmas.{with_value-others}
use Rattle.edr_items.proofs.PerSlowSensorLemmas.{speed-slow, throttle-slow, brake-slow, belt-slow, lamp-slow, slow-first, slow_value_of-slow, slow_at-each, slow_at-map, with_slow_value-others}
use Rattle.edr_record.specs.declared.Key.{Key}
use Rattle.edr_record.specs.declared.Place.TheVariants.{First}
use Rattle.edr_definitions.specs.Parts.{pre_part}
use Rattle.edr_capture.specs.SensorPart.{SensorPart}
use Rattle.edr_core.specs.Parts.{PartSlots, AreSlotsOf, is_part_of, part_in}
use Rattle.edr_core.specs.Ask.{TakenParts, AllParts, no_parts, part_at, with_part, in_places, AreOfTheirSensors, pre_of}
use Rattle.edr_core.specs.SplitHistory.{History, is_missing, missing_part}
use Rattle.edr_core.specs.SplitStandsFor.{IsMadeOf, PartsAre}

-- ---- one part
both-true : (a b : Bool) → (a && b) ≡ true → (a ≡ true) × (b ≡ true)
both-true true true e = (refl, refl)
both-true true false e = cc
both-true false b e = cc

same_number : (s r : Sensor) → number_of s ≡ number_of r → s ≡ r
same_number s r e =
    with_value-others (λ q (_ : ℕ). number_of s ≡ number_of q → s ≡ q) s 0 (each_value 0) (λ _. refl) (λ q apart same. absurd (differ (number_of s) (number_of q) apart same)) r e where
      differ : (m n : ℕ) → nat_eq m n ≡ false → m ≡ n → ⊥
      differ m n apart same = grind arith

-- the part that is found is that of the sensor and the time zero
pub part_in-is : (parts : List SensorPart) (s : Sensor) (z : ℕ) (q : SensorPart) → part_in parts s z ≡ Some q → (q.sensor ≡ s) × (q.zero ≡ z)
unfolding part_in
part_in-is [] s z q e = cc
part_in-is (x ∷ xs) s z q e = by (is_part_of s z x) refl (part_in-is xs s z q) e where
  by : (b : Bool) → is_part_of s z x ≡ b → (find (is_part_of s z) xs ≡ Some q → (q.sensor ≡ s) × (q.zero ≡ z)) → cond {A = Option SensorPart} b (Some x) (find (is_part_of s z) xs) ≡ Some q → (q.sensor ≡ s) × (q.zero ≡ z)
  by true is rest e =
      let one : x ≡ q = cc in
      let both = both-true (nat_eq (number_of x.sensor) (number_of s)) (nat_eq x.zero z) is in
      subst (λ (y : SensorPart). (y.sensor ≡ s) × (y.zero ≡ z)) one (same_number x.sensor s (eqb-true (number_of x.sensor) (number_of s) both.0), eqb-true x.zero z both.1)
  by false is rest e = rest e

-- slots of all parts are those of the one that is found
pub part_in-slots : (parts : List SensorPart) (slots : PartSlots) (s : Sensor) (z : ℕ) (q : SensorPart) → AreSlotsOf parts slots → part_in parts s z ≡ Some q → slots s z ≡ q.slots
unfolding part_in
part_in-slots [] slots s z q are e = cc
part_in-slots (x ∷ xs) slots s z q are e = by (is_part_of s z x) refl (part_in-slots xs slots s z q (All-tail (λ y. slots y.sensor y.zero ≡ y.slots) x xs are)) e where
  by : (b : Bool) → is_part_of s z x ≡ b → (find (is_part_of s z) xs ≡ Some q → slots s z ≡ q.slots) → cond {A = Option SensorPart} b (Some x) (find (is_part_of s z) xs) ≡ Some q → slots s z ≡ q.slots
  by true is rest e =
      let one : x ≡ q = cc in
      let both = both-true (nat_eq (number_of x.sensor) (number_of s)) (nat_eq x.zero z) is in
      let sensor = same_number x.sensor s (eqb-true (number_of x.sensor) (number_of s) both.0) in
      let zero = eqb-true x.zero z both.1 in
      ap (λ (r : Sensor). slots r z) (sym sensor) ∙ ap (λ u. slots x.sensor u) (sym zero) ∙ All-head (λ y. slots y.sensor y.zero ≡ y.slots) x xs are ∙ ap (λ (y : SensorPart). y.slots) one
  by false is rest e = rest e

-- no part is found of a time zero that is past those of all
pub part_in-early : (parts : List SensorPart) (s : Sensor) (z t : ℕ) → t < z → All (λ q. q.zero ≤ t) parts → part_in parts s z ≡ None
unfolding part_in
part_in-early [] s z t late early = refl
part_in-early (x ∷ xs) s z t late early = by (is_part_of s z x) refl (part_in-early xs s z t late (All-tail (λ q. q.zero ≤ t) x xs early)) where
  by : (b : Bool) → is_part_of s z x ≡ b → find (is_part_of s z) xs ≡ None → cond {A = Option SensorPart} b (Some x) (find (is_part_of s z) xs) ≡ None
  by true is rest =
      let both = both-true (nat_eq (number_of x.sensor) (number_of s)) (nat_eq x.zero z) is in
      let zero = eqb-true x.zero z both.1 in
      let low = All-head (λ q. q.zero ≤ t) x xs early in
      absurd (omega (arith, zero, low, late))
  by false is rest = rest

-- what is early for a tick is so for a later one
pub early-later : (parts : List SensorPart) (a b : ℕ) → a ≤ b → All (λ q. q.zero ≤ a) parts → All (λ q. q.zero ≤ b) parts
early-later parts a b up early = All-weaker (λ q. q.zero ≤ a) (λ q. q.zero ≤ b) (λ q low. omega (arith, low, up)) parts early

-- ---- the parts of an ask
-- none was taken of a tick past those of all
pub none-taken : (parts : List SensorPart) (z t : ℕ) → t < z → All (λ q. q.zero ≤ t) parts → PartsAre no_parts parts z
none-taken parts z t late early = record { each = λ s slow. slow_at-each {A = Option SensorPart} None s ∙ sym (part_in-early parts s z t late early) }

found : (q : SensorPart) (parts : List SensorPart) (s : Sensor) (z : ℕ) (b : Bool) → is_part_of s z q ≡ b → part_in (q ∷ parts) s z ≡ cond {A = Option SensorPart} b (Some q) (part_in parts s z)
unfolding part_in
found q parts s z b is = ap (λ (v : Bool). cond {A = Option SensorPart} v (Some q) (find (is_part_of s z) parts)) is

pub eqb_same : (n : ℕ) → nat_eq n n ≡ true
eqb_same n = search arith

is_of : (q : SensorPart) (r s : Sensor) (z : ℕ) → q.sensor ≡ r → q.zero ≡ z → is_part_of s z q ≡ (nat_eq (number_of r) (number_of s) && true)
is_of q r s z sensor zero =
    ap (λ (x : Sensor). nat_eq (number_of x) (number_of s) && nat_eq q.zero z) sensor
    ∙ ap (λ u. nat_eq (number_of r) (number_of s) && nat_eq u z) zero
    ∙ ap (λ (v : Bool). nat_eq (number_of r) (number_of s) && v) (eqb_same z)

and_true : (b : Bool) → (b && true) ≡ b
and_true b = elim b as (λ v. (v && true) ≡ v) [ true ↦ refl | false ↦ refl ]

-- what is found once a part was taken
pub taken : (q : SensorPart) (parts : List SensorPart) (z : ℕ) → q.zero ≡ z → (s : Sensor) (b : Bool) → nat_eq (number_of q.sensor) (number_of s) ≡ b → part_in (q ∷ parts) s z ≡ cond {A = Option SensorPart} b (Some q) (part_in parts s z)
taken q parts z zero s b same = found q parts s z b (is_of q q.sensor s z refl zero ∙ ap (λ v. v && true) same ∙ and_true b)

-- one more part stands in its sensor's place
pub one-taken : (ps : TakenParts) (parts : List SensorPart) (q : SensorPart) (z : ℕ) → q.zero ≡ z → PartsAre ps parts z → PartsAre (with_part q ps) (q ∷ parts) z
one-taken ps parts q z zero h = record {
  each = with_slow_value-others (λ s o. o ≡ part_in (q ∷ parts) s z) q.sensor (Some q) ps
      (sym (taken q parts z zero q.sensor true (eqb_same (number_of q.sensor))))
      (λ s slow apart. h.each s slow ∙ sym (taken q parts z zero s false apart));
}

-- each stands in the place of its sensor
pub of-sensors : (ps : TakenParts) (parts : List SensorPart) (z : ℕ) → PartsAre ps parts z → AreOfTheirSensors ps
of-sensors ps parts z h = record { each = λ s slow. by_part s (slow_at s ps) (h.each s slow) } where
  by_part : (s : Sensor) (o : Option SensorPart) → o ≡ part_in parts s z → IfSome o (λ q. q.sensor ≡ s)
  by_part s None is = tt
  by_part s (Some q) is = (part_in-is parts s z q (sym is)).0

-- ---- all parts
module _ (ps : TakenParts) (parts : List SensorPart) (z : ℕ) (a : AllParts) (h : PartsAre ps parts z) (all : ps ≡ in_places a) where
  in-parts : EachSlow (λ s. part_in parts s z ≡ Some (slow_at s a))
  in-parts s slow = sym (h.each s slow) ∙ ap (λ (x : TakenParts). slow_at s x) all ∙ slow_at-map Some s a

  slots-in : (slots : PartSlots) → AreSlotsOf parts slots → EachSlow (λ s. slots s z ≡ (slow_at s a).slots)
  slots-in slots are s slow = part_in-slots parts slots s z (slow_at s a) are (in-parts s slow)

  -- they make the pre part
  pub pre-made : (f : SensorLists) (n : ℕ) (key : Key) → key ≡ record { cycle = n; zero = z } → IsMadeOf parts (pre_part f n First z) (pre_of a key)
  unfolding pre_part
  pre-made f n key is = record {
    key_is = is;
    place_is = refl;
    made = λ slots are.
        let is_in = slots-in slots are in
        let b = speed-slow (λ s. slots s z ≡ (slow_at s a).slots) is_in in
        let d = throttle-slow (λ s. slots s z ≡ (slow_at s a).slots) is_in in
        let e = brake-slow (λ s. slots s z ≡ (slow_at s a).slots) is_in in
        let g = belt-slow (λ s. slots s z ≡ (slow_at s a).slots) is_in in
        let k = lamp-slow (λ s. slots s z ≡ (slow_at s a).slots) is_in in
        rw (is, b, d, e, g, k) refl;
  }

-- ---- what is missing
pub missing-is : (h : History) (ps : TakenParts) → PartsAre ps h.parts (h.past.closed + 1) → first_without ps ≡ missing_part h
unfolding first_without missing_part
missing-is h ps are = slow-first (λ s. is_none (slow_at s ps)) (is_missing h) (λ s slow. ap (λ (o : Option SensorPart). is_none o) (are.each s slow))

pub none-missing : (a : AllParts) → first_without (in_places a) ≡ None
unfolding first_without
none-missing a = refl

-- a place is filled where the part was taken
pub at-taken : (ps : TakenParts) (parts : List SensorPart) (z : ℕ) (s : Sensor) → IsSlow s → PartsAre ps parts z → part_at s ps ≡ part_in parts s z
at-taken ps parts z s slow h = ap (option_and_then (λ (o : Option SensorPart). o)) (slow_value_of-slow ps s slow) ∙ h.each s slow
