-- Laws of values of the slow sensors.
use Rattle.std.proofs.Common.{arith, refl, ◌≡◌, ◌∙◌, ◌⊎◌, inl, inr, Bool, true, false, not, ◌&&◌, nat_eq, Some, None, List, [], ◌∷◌}
use Rattle.std.specs.Prelude.{find, All}
use Rattle.std.proofs.lemmas.List.Elements.{All-nil, All-cons}
use Rattle.edr_items.specs.declared.Sensor.{Sensor}
use Rattle.edr_items.specs.declared.Sensor.TheVariants.{Along, Across, Speed, Throttle, Brake, Belt, Lamp, Restraint}
use Rattle.edr_items.specs.declared.per_sensor.PerSensor.{PerSensor}
use Rattle.edr_items.specs.declared.per_slow_sensor.PerSlowSensor.{PerSlowSensor}
use Rattle.edr_items.specs.Sensor.{number_of, slow_sensors, IsSlow}
use Rattle.edr_items.specs.PerSensor.{value_of, with_value}
use Rattle.edr_items.specs.PerSlowSensor.{slow_value_of, with_slow_value, each_slow_value, map_slow_values, EachSlow, slow_at, slow_values_by, slow_values, with_slow_values}

-- ---- what holds of each slow sensor
-- a sensor is slow, or it is not
pub slow-or-not : (s : Sensor) → IsSlow s ⊎ (¬ IsSlow s)
slow-or-not Along = inr (λ slow. cc)
slow-or-not Across = inr (λ slow. cc)
slow-or-not Speed = inl refl
slow-or-not Throttle = inl refl
slow-or-not Brake = inl refl
slow-or-not Belt = inl refl
slow-or-not Lamp = inl refl
slow-or-not Restraint = inr (λ slow. cc)

-- what holds of these holds of each
pub each-slow : (P : Sensor → Type 0) → P Speed → P Throttle → P Brake → P Belt → P Lamp → EachSlow P
each-slow P a b c d e Along slow = absurd cc
each-slow P a b c d e Across slow = absurd cc
each-slow P a b c d e Speed slow = a
each-slow P a b c d e Throttle slow = b
each-slow P a b c d e Brake slow = c
each-slow P a b c d e Belt slow = d
each-slow P a b c d e Lamp slow = e
each-slow P a b c d e Restraint slow = absurd cc

-- and back
pub speed-slow : (P : Sensor → Type 0) → EachSlow P → P Speed
speed-slow P h = h Speed refl

pub throttle-slow : (P : Sensor → Type 0) → EachSlow P → P Throttle
throttle-slow P h = h Throttle refl

pub brake-slow : (P : Sensor → Type 0) → EachSlow P → P Brake
brake-slow P h = h Brake refl

pub belt-slow : (P : Sensor → Type 0) → EachSlow P → P Belt
belt-slow P h = h Belt refl

pub lamp-slow : (P : Sensor → Type 0) → EachSlow P → P Lamp
lamp-slow P h = h Lamp refl

-- what holds of each holds of all in the list, and back; no two of these are the same
pub slow-listed : (P : Sensor → Type 0) → EachSlow P → All P slow_sensors
slow-listed P h =
    All-cons P Speed (Throttle ∷ Brake ∷ Belt ∷ Lamp ∷ []) (speed-slow P h)
    (All-cons P Throttle (Brake ∷ Belt ∷ Lamp ∷ []) (throttle-slow P h)
    (All-cons P Brake (Belt ∷ Lamp ∷ []) (brake-slow P h)
    (All-cons P Belt (Lamp ∷ []) (belt-slow P h)
    (All-cons P Lamp [] (lamp-slow P h) (All-nil P)))))

pub listed-slow : (P : Sensor → Type 0) → All P slow_sensors → EachSlow P
listed-slow P h = each-slow P (h 0 Speed (omega arith)) (h 1 Speed (omega arith)) (h 2 Speed (omega arith)) (h 3 Speed (omega arith)) (h 4 Speed (omega arith))

abbrev pub AreApart : List Sensor → Type 0
AreApart [] = Unit {0}
AreApart (s ∷ ss) = All (λ r. nat_eq (number_of s) (number_of r) ≡ false) ss × AreApart ss

abbrev is_apart : Sensor → List Sensor → Bool
is_apart s [] = true
is_apart s (r ∷ rs) = not (nat_eq (number_of s) (number_of r)) && is_apart s rs

apart-all : (s : Sensor) (ss : List Sensor) → is_apart s ss ≡ true → All (λ r. nat_eq (number_of s) (number_of r) ≡ false) ss
apart-all s [] h = All-nil (λ r. nat_eq (number_of s) (number_of r) ≡ false)
apart-all s (r ∷ rs) h = by (nat_eq (number_of s) (number_of r)) refl (apart-all s rs) h where
  by : (b : Bool) → nat_eq (number_of s) (number_of r) ≡ b → (is_apart s rs ≡ true → All (λ q. nat_eq (number_of s) (number_of q) ≡ false) rs) → (not b && is_apart s rs) ≡ true → All (λ q. nat_eq (number_of s) (number_of q) ≡ false) (r ∷ rs)
  by true is rest e = cc
  by false is rest e = All-cons (λ q. nat_eq (number_of s) (number_of q) ≡ false) r rs is (rest e)

abbrev all_apart : List Sensor → Bool
all_apart [] = true
all_apart (s ∷ ss) = is_apart s ss && all_apart ss

are-apart : (ss : List Sensor) → all_apart ss ≡ true → AreApart ss
are-apart [] h = tt
are-apart (s ∷ ss) h = by (is_apart s ss) refl (are-apart ss) h where
  by : (b : Bool) → is_apart s ss ≡ b → (all_apart ss ≡ true → AreApart ss) → (b && all_apart ss) ≡ true → AreApart (s ∷ ss)
  by true is rest e = (apart-all s ss is, rest e)
  by false is rest e = cc

pub slow-apart : AreApart slow_sensors
slow-apart = are-apart slow_sensors refl

-- the first of which something holds
pub slow-first : (f g : Sensor → Bool) → EachSlow (λ s. f s ≡ g s) → find f slow_sensors ≡ find g slow_sensors
slow-first f g h =
    let a = speed-slow (λ s. f s ≡ g s) h in
    let b = throttle-slow (λ s. f s ≡ g s) h in
    let c = brake-slow (λ s. f s ≡ g s) h in
    let d = belt-slow (λ s. f s ≡ g s) h in
    let e = lamp-slow (λ s. f s ≡ g s) h in
    rw (a, b, c, d, e) refl

-- ---- the value of a slow sensor
-- it has one
pub slow_value_of-slow : {A : Type 0} (p : PerSlowSensor A) → EachSlow (λ s. slow_value_of s p ≡ Some (slow_at s p))
slow_value_of-slow p = each-slow (λ s. slow_value_of s p ≡ Some (slow_at s p)) refl refl refl refl refl

-- what has one is slow
pub slow_value_of-some : {A : Type 0} (s : Sensor) (p : PerSlowSensor A) (x : A) → slow_value_of s p ≡ Some x → IsSlow s × (slow_at s p ≡ x)
slow_value_of-some Along p x h = cc
slow_value_of-some Across p x h = cc
slow_value_of-some Speed p x h = (refl, cc)
slow_value_of-some Throttle p x h = (refl, cc)
slow_value_of-some Brake p x h = (refl, cc)
slow_value_of-some Belt p x h = (refl, cc)
slow_value_of-some Lamp p x h = (refl, cc)
slow_value_of-some Restraint p x h = cc

-- what has none is not
pub slow_value_of-none : {A : Type 0} (s : Sensor) (p : PerSlowSensor A) → slow_value_of s p ≡ None → ¬ IsSlow s
slow_value_of-none s p none slow = let one = slow_value_of-slow p s slow in cc

-- values that are the same for each slow sensor are the same
pub slow_values-same : {A : Type 0} (p q : PerSlowSensor A) → EachSlow (λ s. slow_at s p ≡ slow_at s q) → p ≡ q
slow_values-same p q h =
    let a = speed-slow (λ s. slow_at s p ≡ slow_at s q) h in
    let b = throttle-slow (λ s. slow_at s p ≡ slow_at s q) h in
    let c = brake-slow (λ s. slow_at s p ≡ slow_at s q) h in
    let d = belt-slow (λ s. slow_at s p ≡ slow_at s q) h in
    let e = lamp-slow (λ s. slow_at s p ≡ slow_at s q) h in
    rw (a, b, c, d, e) refl

-- the value that all have, that a function gives for the old one, and that it gives for the sensor
pub slow_at-each : {A : Type 0} (x : A) (s : Sensor) → slow_at s (each_slow_value x) ≡ x
slow_at-each x s = elim s as (λ t. slow_at t (each_slow_value x) ≡ x) [ Along ↦ refl | Across ↦ refl | Speed ↦ refl | Throttle ↦ refl | Brake ↦ refl | Belt ↦ refl | Lamp ↦ refl | Restraint ↦ refl ]

pub slow_at-map : {A B : Type 0} (h : A → B) (s : Sensor) (p : PerSlowSensor A) → slow_at s (map_slow_values h p) ≡ h (slow_at s p)
slow_at-map h s p = elim s as (λ t. slow_at t (map_slow_values h p) ≡ h (slow_at t p)) [ Along ↦ refl | Across ↦ refl | Speed ↦ refl | Throttle ↦ refl | Brake ↦ refl | Belt ↦ refl | Lamp ↦ refl | Restraint ↦ refl ]

pub slow_at-by : {A : Type 0} (h : Sensor → A) → EachSlow (λ s. slow_at s (slow_values_by h) ≡ h s)
slow_at-by h = each-slow (λ s. slow_at s (slow_values_by h) ≡ h s) refl refl refl refl refl

-- the value among those of all sensors
pub slow_at-values : {A : Type 0} (p : PerSensor A) → EachSlow (λ s. slow_at s (slow_values p) ≡ value_of s p)
slow_at-values p = each-slow (λ s. slow_at s (slow_values p) ≡ value_of s p) refl refl refl refl refl

pub value_of-slow : {A : Type 0} (x : A) (p : PerSlowSensor A) → EachSlow (λ s. value_of s (with_slow_values x p) ≡ slow_at s p)
value_of-slow x p = each-slow (λ s. value_of s (with_slow_values x p) ≡ slow_at s p) refl refl refl refl refl

pub value_of-fast : {A : Type 0} (s : Sensor) (x : A) (p : PerSlowSensor A) → (¬ IsSlow s) → value_of s (with_slow_values x p) ≡ x
value_of-fast Along x p fast = refl
value_of-fast Across x p fast = refl
value_of-fast Speed x p fast = absurd (fast refl)
value_of-fast Throttle x p fast = absurd (fast refl)
value_of-fast Brake x p fast = absurd (fast refl)
value_of-fast Belt x p fast = absurd (fast refl)
value_of-fast Lamp x p fast = absurd (fast refl)
value_of-fast Restraint x p fast = refl

-- what the value of a sensor is among those of all sensors
pub value_of-some : {A : Type 0} (s : Sensor) (e : A) (p : PerSlowSensor A) (x : A) → slow_value_of s p ≡ Some x → value_of s (with_slow_values e p) ≡ x
value_of-some s e p x h = let is = slow_value_of-some s p x h in value_of-slow e p s is.0 ∙ is.1

-- ---- another value of a slow sensor
-- the sensor has it
pub with_slow_value-own : {A : Type 0} (x : A) (p : PerSlowSensor A) → EachSlow (λ s. slow_at s (with_slow_value s x p) ≡ x)
with_slow_value-own x p = each-slow (λ s. slow_at s (with_slow_value s x p) ≡ x) refl refl refl refl refl

-- what holds of the two new values and of each two old ones holds of each two values after that
pub with_slow_value-both : {A B : Type 0} (P : Sensor → A → B → Type 0) (s : Sensor) (x : A) (y : B) (p : PerSlowSensor A) (q : PerSlowSensor B) → P s x y → EachSlow (λ r. P r (slow_at r p) (slow_at r q)) → EachSlow (λ r. P r (slow_at r (with_slow_value s x p)) (slow_at r (with_slow_value s y q)))
with_slow_value-both P s x y p q here rest r slow = both s r here (rest r slow) slow where
  both : (t u : Sensor) → P t x y → P u (slow_at u p) (slow_at u q) → IsSlow u → P u (slow_at u (with_slow_value t x p)) (slow_at u (with_slow_value t y q))
  both Speed Speed own old slow = own
  both Throttle Throttle own old slow = own
  both Brake Brake own old slow = own
  both Belt Belt own old slow = own
  both Lamp Lamp own old slow = own
  both t Along own old slow = absurd cc
  both t Across own old slow = absurd cc
  both t Restraint own old slow = absurd cc
  both t u own old slow = old

-- the same of one new value and of each old one
pub with_slow_value-each : {A : Type 0} (P : Sensor → A → Type 0) (s : Sensor) (x : A) (p : PerSlowSensor A) → P s x → EachSlow (λ r. P r (slow_at r p)) → EachSlow (λ r. P r (slow_at r (with_slow_value s x p)))
with_slow_value-each P s x p here rest = with_slow_value-both (λ r x _. P r x) s x x p p here rest

-- what holds of a sensor's new value and of the old ones of the others holds of each value after that
pub with_slow_value-others : {A : Type 0} (P : Sensor → A → Type 0) (s : Sensor) (x : A) (p : PerSlowSensor A) → P s x → ((r : Sensor) → IsSlow r → nat_eq (number_of s) (number_of r) ≡ false → P r (slow_at r p)) → EachSlow (λ r. P r (slow_at r (with_slow_value s x p)))
with_slow_value-others P s x p here rest r slow = others s r here (rest r slow) slow where
  others : (t u : Sensor) → P t x → (nat_eq (number_of t) (number_of u) ≡ false → P u (slow_at u p)) → IsSlow u → P u (slow_at u (with_slow_value t x p))
  others Speed Speed own old slow = own
  others Throttle Throttle own old slow = own
  others Brake Brake own old slow = own
  others Belt Belt own old slow = own
  others Lamp Lamp own old slow = own
  others t Along own old slow = absurd cc
  others t Across own old slow = absurd cc
  others t Restraint own old slow = absurd cc
  others t u own old slow = old refl

-- what holds of each slow sensor's value and of its value among those of all sensors still does with two new ones
pub with_slow_value-beside : {A B : Type 0} (P : Sensor → A → B → Type 0) (s : Sensor) (x : A) (y : B) (p : PerSlowSensor A) (q : PerSensor B) → (IsSlow s → P s x y) → EachSlow (λ r. P r (slow_at r p) (value_of r q)) → EachSlow (λ r. P r (slow_at r (with_slow_value s x p)) (value_of r (with_value s y q)))
with_slow_value-beside P s x y p q here rest r slow = beside s r here (rest r slow) slow where
  beside : (t u : Sensor) → (IsSlow t → P t x y) → P u (slow_at u p) (value_of u q) → IsSlow u → P u (slow_at u (with_slow_value t x p)) (value_of u (with_value t y q))
  beside Speed Speed own old slow = own slow
  beside Throttle Throttle own old slow = own slow
  beside Brake Brake own old slow = own slow
  beside Belt Belt own old slow = own slow
  beside Lamp Lamp own old slow = own slow
  beside t Along own old slow = absurd cc
  beside t Across own old slow = absurd cc
  beside t Restraint own old slow = absurd cc
  beside t u own old slow = old

-- what was replaced leaves no trace
pub with_slow_value-again : {A : Type 0} (s : Sensor) (x y : A) (p : PerSlowSensor A) → with_slow_value s x (with_slow_value s y p) ≡ with_slow_value s x p
with_slow_value-again s x y p = elim s as (λ t. with_slow_value t x (with_slow_value t y p) ≡ with_slow_value t x p) [ Along ↦ refl | Across ↦ refl | Speed ↦ refl | Throttle ↦ refl | Brake ↦ refl | Belt ↦ refl | Lamp ↦ refl | Restraint ↦ refl ]

-- among those of all sensors it is another value of the same sensor, or nothing
pub with_slow_values-with : {A : Type 0} (s : Sensor) (e x : A) (p : PerSlowSensor A) → with_slow_values e (with_slow_value s x p) ≡ with_value s (value_of s (with_slow_values e (with_slow_value s x p))) (with_slow_values e p)
with_slow_values-with s e x p = elim s as (λ t. with_slow_values e (with_slow_value t x p) ≡ with_value t (value_of t (with_slow_values e (with_slow_value t x p))) (with_slow_values e p)) [ Along ↦ refl | Across ↦ refl | Speed ↦ refl | Throttle ↦ refl | Brake ↦ refl | Belt ↦ refl | Lamp ↦ refl | Restraint ↦ refl ]

-- a value that is replaced by itself
pub with_slow_value-same : {A : Type 0} (s : Sensor) (p : PerSlowSensor A) → with_slow_value s (slow_at s p) p ≡ p
with_slow_value-same s p = elim s as (λ t. with_slow_value t (slow_at t p) p ≡ p) [ Along ↦ refl | Across ↦ refl | Speed ↦ refl | Throttle ↦ refl | Brake ↦ refl | Belt ↦ refl | Lamp ↦ refl | Restraint ↦ refl ]

-- what is replaced for a sensor that is not slow is nothing
pub with_slow_value-none : {A : Type 0} (s : Sensor) (x : A) (p : PerSlowSensor A) → (¬ IsSlow s) → with_slow_value s x p ≡ p
with_slow_value-none Along x p fast = refl
with_slow_value-none Across x p fast = refl
with_slow_value-none Speed x p fast = absurd (fast refl)
with_slow_value-none Throttle x p fast = absurd (fast refl)
with_slow_value-none Brake x p fast = absurd (fast refl)
with_slow_value-none Belt x p fast = absurd (fast refl)
with_slow_value-none Lamp x p fast = absurd (fast refl)
with_slow_value-none Restraint x p fast = refl

-- another value among those of all sensors
pub slow_values-with : {A : Type 0} (s : Sensor) (x : A) (p : PerSensor A) → slow_values (with_value s x p) ≡ with_slow_value s x (slow_values p)
slow_values-with s x p = elim s as (λ t. slow_values (with_value t x p) ≡ with_slow_value t x (slow_values p)) [ Along ↦ refl | Across ↦ refl | Speed ↦ refl | Throttle ↦ refl | Brake ↦ refl | Belt ↦ refl | Lamp ↦ refl | Restraint ↦ refl ]
