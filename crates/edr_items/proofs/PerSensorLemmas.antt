-- Laws of values of the sensors.
use Rattle.std.proofs.Common.{arith, ◌≡◌, ◌∙◌, ℕ, ◌+◌, ◌≤◌, min, max, refl, ◌⊎◌, inl, inr, false, nat_eq}
use Rattle.edr_items.specs.declared.Sensor.{Sensor}
use Rattle.edr_items.specs.declared.Sensor.TheVariants.{Along, Across, Speed, Throttle, Brake, Belt, Lamp, Restraint}
use Rattle.edr_items.specs.declared.per_sensor.PerSensor.{PerSensor}
use Rattle.edr_items.specs.Sensor.{number_of}
use Rattle.edr_items.specs.PerSensor.{value_of, with_value, each_value, map_values, values_by, total_of}

-- values that are the same for each sensor are the same
pub values-same : {A : Type 0} (p q : PerSensor A) → ((s : Sensor) → value_of s p ≡ value_of s q) → p ≡ q
values-same p q h = rw (h Along, h Across, h Speed, h Throttle, h Brake, h Belt, h Lamp, h Restraint) refl

-- the value that a function gives for that of a sensor
pub value_of-map : {A B : Type 0} (h : A → B) (s : Sensor) (p : PerSensor A) → value_of s (map_values h p) ≡ h (value_of s p)
value_of-map h s p = elim s as (λ t. value_of t (map_values h p) ≡ h (value_of t p)) [ Along ↦ refl | Across ↦ refl | Speed ↦ refl | Throttle ↦ refl | Brake ↦ refl | Belt ↦ refl | Lamp ↦ refl | Restraint ↦ refl ]

-- what holds of a sensor's two new values and of each two old ones holds of each two values after that
pub with_value-both : {A B : Type 0} (P : Sensor → A → B → Type 0) (s : Sensor) (x : A) (y : B) (p : PerSensor A) (q : PerSensor B) → P s x y → ((r : Sensor) → P r (value_of r p) (value_of r q)) → (r : Sensor) → P r (value_of r (with_value s x p)) (value_of r (with_value s y q))
with_value-both P Along x y p q here rest Along = here
with_value-both P Across x y p q here rest Across = here
with_value-both P Speed x y p q here rest Speed = here
with_value-both P Throttle x y p q here rest Throttle = here
with_value-both P Brake x y p q here rest Brake = here
with_value-both P Belt x y p q here rest Belt = here
with_value-both P Lamp x y p q here rest Lamp = here
with_value-both P Restraint x y p q here rest Restraint = here
with_value-both P s x y p q here rest r = rest r

-- the same of three values
pub with_value-three : {A B C : Type 0} (P : Sensor → A → B → C → Type 0) (s : Sensor) (x : A) (y : B) (z : C) (p : PerSensor A) (q : PerSensor B) (k : PerSensor C) → P s x y z → ((r : Sensor) → P r (value_of r p) (value_of r q) (value_of r k)) → (r : Sensor) → P r (value_of r (with_value s x p)) (value_of r (with_value s y q)) (value_of r (with_value s z k))
with_value-three P Along x y z p q k here rest Along = here
with_value-three P Across x y z p q k here rest Across = here
with_value-three P Speed x y z p q k here rest Speed = here
with_value-three P Throttle x y z p q k here rest Throttle = here
with_value-three P Brake x y z p q k here rest Brake = here
with_value-three P Belt x y z p q k here rest Belt = here
with_value-three P Lamp x y z p q k here rest Lamp = here
with_value-three P Restraint x y z p q k here rest Restraint = here
with_value-three P s x y z p q k here rest r = rest r

-- the same of one new value and of each old one
pub with_value-each : {A : Type 0} (P : Sensor → A → Type 0) (s : Sensor) (x : A) (p : PerSensor A) → P s x → ((r : Sensor) → P r (value_of r p)) → (r : Sensor) → P r (value_of r (with_value s x p))
with_value-each P s x p here rest = with_value-both (λ r x _. P r x) s x x p p here rest

-- each sensor has the value that a function gives for it
pub value_of-by : {A : Type 0} (h : Sensor → A) (s : Sensor) → value_of s (values_by h) ≡ h s
value_of-by h s = elim s as (λ t. value_of t (values_by h) ≡ h t) [ Along ↦ refl | Across ↦ refl | Speed ↦ refl | Throttle ↦ refl | Brake ↦ refl | Belt ↦ refl | Lamp ↦ refl | Restraint ↦ refl ]

-- each sensor has the value that all have
pub value_of-each : {A : Type 0} (x : A) (s : Sensor) → value_of s (each_value x) ≡ x
value_of-each x s = elim s as (λ t. value_of t (each_value x) ≡ x) [ Along ↦ refl | Across ↦ refl | Speed ↦ refl | Throttle ↦ refl | Brake ↦ refl | Belt ↦ refl | Lamp ↦ refl | Restraint ↦ refl ]

-- what holds of a sensor's new value and of the old ones of the others holds of each value after that
pub with_value-others : {A : Type 0} (P : Sensor → A → Type 0) (s : Sensor) (x : A) (p : PerSensor A) → P s x → ((r : Sensor) → nat_eq (number_of s) (number_of r) ≡ false → P r (value_of r p)) → (r : Sensor) → P r (value_of r (with_value s x p))
with_value-others P Along x p here rest Along = here
with_value-others P Across x p here rest Across = here
with_value-others P Speed x p here rest Speed = here
with_value-others P Throttle x p here rest Throttle = here
with_value-others P Brake x p here rest Brake = here
with_value-others P Belt x p here rest Belt = here
with_value-others P Lamp x p here rest Lamp = here
with_value-others P Restraint x p here rest Restraint = here
with_value-others P s x p here rest r = rest r refl

-- each sensor has the one, or some sensor has the other
pub each_or_some : (P Q : Sensor → Type 0) → ((s : Sensor) → P s ⊎ Q s) → ((s : Sensor) → P s) ⊎ ((s : Sensor) × Q s)
each_or_some P Q h = all_of (h Along) (h Across) (h Speed) (h Throttle) (h Brake) (h Belt) (h Lamp) (h Restraint) where
  all_of : P Along ⊎ Q Along → P Across ⊎ Q Across → P Speed ⊎ Q Speed → P Throttle ⊎ Q Throttle → P Brake ⊎ Q Brake → P Belt ⊎ Q Belt → P Lamp ⊎ Q Lamp → P Restraint ⊎ Q Restraint → ((s : Sensor) → P s) ⊎ ((s : Sensor) × Q s)
  all_of (inr q) _ _ _ _ _ _ _ = inr (Along, q)
  all_of (inl a) (inr q) _ _ _ _ _ _ = inr (Across, q)
  all_of (inl a) (inl b) (inr q) _ _ _ _ _ = inr (Speed, q)
  all_of (inl a) (inl b) (inl c) (inr q) _ _ _ _ = inr (Throttle, q)
  all_of (inl a) (inl b) (inl c) (inl d) (inr q) _ _ _ = inr (Brake, q)
  all_of (inl a) (inl b) (inl c) (inl d) (inl e) (inr q) _ _ = inr (Belt, q)
  all_of (inl a) (inl b) (inl c) (inl d) (inl e) (inl g) (inr q) _ = inr (Lamp, q)
  all_of (inl a) (inl b) (inl c) (inl d) (inl e) (inl g) (inl i) (inr q) = inr (Restraint, q)
  all_of (inl a) (inl b) (inl c) (inl d) (inl e) (inl g) (inl i) (inl j) =
      inl (λ s. elim s as P [ Along ↦ a | Across ↦ b | Speed ↦ c | Throttle ↦ d | Brake ↦ e | Belt ↦ g | Lamp ↦ i | Restraint ↦ j ])

-- the sensor has the new value, whatever it had before, and the one that it had is no new one
pub with_value-own : {A : Type 0} (s : Sensor) (x : A) (p : PerSensor A) → value_of s (with_value s x p) ≡ x
with_value-own s x p = elim s as (λ t. value_of t (with_value t x p) ≡ x) [ Along ↦ refl | Across ↦ refl | Speed ↦ refl | Throttle ↦ refl | Brake ↦ refl | Belt ↦ refl | Lamp ↦ refl | Restraint ↦ refl ]

pub with_value-again : {A : Type 0} (s : Sensor) (x y : A) (p : PerSensor A) → with_value s x (with_value s y p) ≡ with_value s x p
with_value-again s x y p = elim s as (λ t. with_value t x (with_value t y p) ≡ with_value t x p) [ Along ↦ refl | Across ↦ refl | Speed ↦ refl | Throttle ↦ refl | Brake ↦ refl | Belt ↦ refl | Lamp ↦ refl | Restraint ↦ refl ]

pub with_value-same : {A : Type 0} (s : Sensor) (p : PerSensor A) → with_value s (value_of s p) p ≡ p
with_value-same s p = elim s as (λ t. with_value t (value_of t p) p ≡ p) [ Along ↦ refl | Across ↦ refl | Speed ↦ refl | Throttle ↦ refl | Brake ↦ refl | Belt ↦ refl | Lamp ↦ refl | Restraint ↦ refl ]

-- what stays the same as the values of p are replaced by those of q, one sensor after the other, is the same of both
pub one-by-one : {A B : Type 0} (g : PerSensor A → B) (p q : PerSensor A) → ((s : Sensor) (r : PerSensor A) → value_of s r ≡ value_of s p → g r ≡ g (with_value s (value_of s q) r)) → g p ≡ g q
one-by-one g p q h =
    let one = with_value Along q.along p in
    let two = with_value Across q.across one in
    let three = with_value Speed q.speed two in
    let four = with_value Throttle q.throttle three in
    let five = with_value Brake q.brake four in
    let six = with_value Belt q.belt five in
    let seven = with_value Lamp q.lamp six in
    h Along p refl ∙ h Across one refl ∙ h Speed two refl ∙ h Throttle three refl ∙ h Brake four refl ∙ h Belt five refl ∙ h Lamp six refl ∙ h Restraint seven refl

-- a sum with another value
pub total-with : {A : Type 0} (h : A → ℕ) (s : Sensor) (x : A) (p : PerSensor A) → total_of h (with_value s x p) + h (value_of s p) ≡ total_of h p + h x
total-with h Along x p = omega arith
total-with h Across x p = omega arith
total-with h Speed x p = omega arith
total-with h Throttle x p = omega arith
total-with h Brake x p = omega arith
total-with h Belt x p = omega arith
total-with h Lamp x p = omega arith
total-with h Restraint x p = omega arith

-- what no value is below, the least isn't below, and what none is above, the greatest isn't
pub least-above : (p : PerSensor ℕ) (n : ℕ) → ((s : Sensor) → n ≤ value_of s p)
    → n ≤ min (min (min p.along p.across) (min p.speed p.throttle)) (min (min p.brake p.belt) (min p.lamp p.restraint))
least-above p n h =
    let a = h Along in
    let b = h Across in
    let c = h Speed in
    let d = h Throttle in
    let e = h Brake in
    let g = h Belt in
    let i = h Lamp in
    let j = h Restraint in
    omega arith

pub most-below : (p : PerSensor ℕ) (n : ℕ) → ((s : Sensor) → value_of s p ≤ n)
    → max (max (max p.along p.across) (max p.speed p.throttle)) (max (max p.brake p.belt) (max p.lamp p.restraint)) ≤ n
most-below p n h =
    let a = h Along in
    let b = h Across in
    let c = h Speed in
    let d = h Throttle in
    let e = h Brake in
    let g = h Belt in
    let i = h Lamp in
    let j = h Restraint in
    omega arith
