-- One more item of a fast sensor, one more mark of a slow one, and one more part.
use Rattle.std.proofs.Common.{arith, ◌≡◌, ◌∙◌, ◌≤◌, ◌⊎◌, ℕ, List, [], ◌∷◌, ◌++◌, inl, inr, refl, sym, ap, subst, None}
use Rattle.std.specs.Prelude.{All, unwrap_or}
use Rattle.std.specs.List.{Contains}
use Rattle.std.proofs.lemmas.List.Elements.{All-weaker, Contains-append_left, Contains-append_right}
use Rattle.edr_items.specs.declared.Sensor.{Sensor}
use Rattle.edr_items.specs.declared.Sensor.TheVariants as sensor
use Rattle.edr_items.specs.declared.Item.{Item}
use Rattle.edr_items.specs.Item.{IsFeedAfter, mark_of, refusal_of}
use Rattle.edr_items.specs.Sensor.{IsSlow}
use Rattle.edr_items.specs.PerSensor.{with_value}
use Rattle.edr_items.specs.PerSlowSensor.{EachSlow, slow_at, slow_values, with_slow_value}
use Rattle.edr_items.specs.SensorLists.{SensorLists, items_of}
use Rattle.edr_items.proofs.PerSensorLemmas.{with_value-each}
use Rattle.edr_items.proofs.PerSlowSensorLemmas.{slow-or-not, slow_at-values, slow_value_of-slow, slow_values-with, with_slow_value-both, with_slow_value-each, with_slow_value-own, with_slow_value-same}
use Rattle.edr_definitions.specs.Schedule.{with_item}
use Rattle.edr_definitions.proofs.MarkLaws.{feed-next, mark-push}
use Rattle.edr_board.specs.FreezeSeats.{AllReach, SlowMarks, mark_in, with_mark_of}
use Rattle.edr_capture.specs.SensorPart.{SensorPart}
use Rattle.edr_loops.specs.declared.per_fast_sensor.FastSensor.{FastSensor}
use Rattle.edr_loops.specs.declared.per_fast_sensor.FastSensor.TheVariants.{Along, Across, Restraint}
use Rattle.edr_loops.specs.FastInlets.{AreFastFeeds, HaveFast, fast_marks_of, with_fast}
use Rattle.edr_loops.specs.PerFastSensor.{fast_at, sensor_of, with_fast_value}
use Rattle.edr_loops.specs.Lanes.{FastItems, SlowParts}
use Rattle.edr_loops.specs.PartInlets.{IsTakenPart, parts_of, with_part}
use Rattle.edr_loops.specs.Recorders.{HaveMarks}

-- ---- the front of a feed is one
pub feed-front : (s : Sensor) (last : ℕ) (xs ys : List Item) → IsFeedAfter s last (xs ++ ys) → IsFeedAfter s last xs
feed-front s last [] ys h = tt
feed-front s last (x ∷ xs) ys h = (h.0, h.1, feed-front s x.moment xs ys h.2)

-- ---- one more item of a fast sensor
pub fast-marks-with : (k : FastSensor) (x : Item) (l : FastItems) → fast_marks_of (with_fast k x l) ≡ with_fast_value k x.moment (fast_marks_of l)
fast-marks-with Along x l = ap (λ m. record (fast_marks_of l) { along = m }) (mark-push 0 l.along x)
fast-marks-with Across x l = ap (λ m. record (fast_marks_of l) { across = m }) (mark-push 0 l.across x)
fast-marks-with Restraint x l = ap (λ m. record (fast_marks_of l) { restraint = m }) (mark-push 0 l.restraint x)

pub fast-front : (k : FastSensor) (x : Item) (l : FastItems) → AreFastFeeds (with_fast k x l) → AreFastFeeds l
fast-front Along x l h = record { along = feed-front sensor.Along 0 l.along (x ∷ []) h.along; across = h.across; restraint = h.restraint }
fast-front Across x l h = record { along = h.along; across = feed-front sensor.Across 0 l.across (x ∷ []) h.across; restraint = h.restraint }
fast-front Restraint x l h = record { along = h.along; across = h.across; restraint = feed-front sensor.Restraint 0 l.restraint (x ∷ []) h.restraint }

pub fast-next : (k : FastSensor) (x : Item) (l : FastItems) → AreFastFeeds (with_fast k x l) → refusal_of (sensor_of k) (mark_of (fast_at k l)) x ≡ None
fast-next Along x l h = (feed-next sensor.Along 0 l.along x [] h.along).0
fast-next Across x l h = (feed-next sensor.Across 0 l.across x [] h.across).0
fast-next Restraint x l h = (feed-next sensor.Restraint 0 l.restraint x [] h.restraint).0

pub have-with : (k : FastSensor) (x : Item) (l : FastItems) (f : SensorLists) → HaveFast l f → HaveFast (with_fast k x l) (with_item (sensor_of k) x f)
have-with Along x l f h = record { along = ap (λ xs. xs ++ x ∷ []) h.along; across = h.across; restraint = h.restraint }
have-with Across x l f h = record { along = h.along; across = ap (λ xs. xs ++ x ∷ []) h.across; restraint = h.restraint }
have-with Restraint x l f h = record { along = h.along; across = h.across; restraint = ap (λ xs. xs ++ x ∷ []) h.restraint }

-- a fast sensor is none of the slow ones
fast-not-slow : (k : FastSensor) → ¬ IsSlow (sensor_of k)
fast-not-slow Along slow = cc
fast-not-slow Across slow = cc
fast-not-slow Restraint slow = cc

-- the marks of the slow sensors stay
pub marks-beside : (k : FastSensor) (x : Item) (f : SensorLists) (m : SlowMarks) → HaveMarks m f → HaveMarks m (with_item (sensor_of k) x f)
marks-beside k x f m h = with_value-each (λ r xs. IsSlow r → mark_of xs ≡ slow_at r m) (sensor_of k) (items_of (sensor_of k) f ++ x ∷ []) f (λ slow. absurd (fast-not-slow k slow)) h

-- ---- one more mark of a slow sensor
mark_in-slow : (s : Sensor) (m : SlowMarks) → IsSlow s → mark_in s m ≡ slow_at s m
mark_in-slow s m slow = ap (λ o. unwrap_or o 0) (slow_value_of-slow m s slow)

pub mark-is : (s : Sensor) (f : SensorLists) (m : SlowMarks) → IsSlow s → HaveMarks m f → mark_of (items_of s f) ≡ mark_in s m
mark-is s f m slow h = h s slow ∙ sym (mark_in-slow s m slow)

pub marks-with_item : (s : Sensor) (x : Item) (f : SensorLists) (m : SlowMarks) → HaveMarks m f → HaveMarks (with_mark_of s x.moment m) (with_item s x f)
marks-with_item s x f m h = λ r slow.
    let xs = items_of s f ++ x ∷ [] in
    let both = with_slow_value-both (λ q ys n. mark_of ys ≡ n) s xs x.moment (slow_values f) m (mark-push 0 (items_of s f) x) (λ q here. ap mark_of (slow_at-values f q here) ∙ h q here) r slow in
    ap mark_of (sym (slow_at-values (with_value s xs f) r slow)) ∙ ap (λ p. mark_of (slow_at r p)) (slow_values-with s xs f) ∙ both

-- one that hasn't risen leaves them
pub marks-same : (s : Sensor) (n : ℕ) (m : SlowMarks) → IsSlow s → mark_in s m ≡ n → with_mark_of s n m ≡ m
marks-same s n m slow is = ap (λ k. with_slow_value s k m) (sym is ∙ mark_in-slow s m slow) ∙ with_slow_value-same s m

-- the fast sensors keep what they have
pub fast-beside : (s : Sensor) (x : Item) (f : SensorLists) (l : FastItems) → IsSlow s → HaveFast l f → HaveFast l (with_item s x f)
fast-beside s x f l slow h =
    let xs = items_of s f ++ x ∷ [] in
    let other : (k : FastSensor) → items_of (sensor_of k) (with_item s x f) ≡ items_of (sensor_of k) f =
    λ k. with_value-each (λ r ys. (¬ IsSlow r) → ys ≡ items_of r f) s xs f (λ fast. absurd (fast slow)) (λ r fast. refl) (sensor_of k) (fast-not-slow k) in
    record { along = other Along ∙ h.along; across = other Across ∙ h.across; restraint = other Restraint ∙ h.restraint }

-- marks past a tick have reached the next one
pub all-reached : (t : ℕ) (f : SensorLists) (m : SlowMarks) → HaveMarks m f → ((s : Sensor) → t ≤ mark_of (items_of s f)) → AllReach t m
all-reached t f m h past = λ s slow. subst (λ n. t ≤ n) (h s slow) (past s)

-- ---- one more part
pub parts_of-slow : (s : Sensor) (l : SlowParts) → IsSlow s → parts_of s l ≡ slow_at s l
parts_of-slow s l slow = ap (λ o. unwrap_or o []) (slow_value_of-slow l s slow)

pub parts_of-fast : (s : Sensor) (l : SlowParts) → (¬ IsSlow s) → parts_of s l ≡ []
parts_of-fast sensor.Along l fast = refl
parts_of-fast sensor.Across l fast = refl
parts_of-fast sensor.Restraint l fast = refl
parts_of-fast s l fast = absurd (fast refl)

-- a slow sensor has the parts that it had
grown-slow : (s : Sensor) (q : SensorPart) (l : SlowParts) → EachSlow (λ r. (p : SensorPart) → Contains (parts_of r l) p → Contains (slow_at r (with_part s q l)) p)
grown-slow s q l =
    with_slow_value-each (λ r ps. (p : SensorPart) → Contains (parts_of r l) p → Contains ps p) s (parts_of s l ++ q ∷ []) l
    (λ p h. Contains-append_left (parts_of s l) (q ∷ []) p h) (λ r slow p h. subst (λ ps. Contains ps p) (parts_of-slow r l slow) h)

-- no part is in no parts
pub none-in : (q : SensorPart) → Contains [] q → ⊥
none-in q inside = let low = inside.1 in omega (arith, low)

grown : (s : Sensor) (q : SensorPart) (l : SlowParts) (r : Sensor) (p : SensorPart) → IsSlow r ⊎ (¬ IsSlow r) → Contains (parts_of r l) p → Contains (parts_of r (with_part s q l)) p
grown s q l r p (inl slow) h = subst (λ ps. Contains ps p) (sym (parts_of-slow r (with_part s q l) slow)) (grown-slow s q l r slow p h)
grown s q l r p (inr fast) h = absurd (none-in p (subst (λ ps. Contains ps p) (parts_of-fast r l fast) h))

pub all-taken : (s : Sensor) (q : SensorPart) (l : SlowParts) (ps : List SensorPart) → All (IsTakenPart l) ps → All (IsTakenPart (with_part s q l)) ps
all-taken s q l ps h = All-weaker (IsTakenPart l) (IsTakenPart (with_part s q l)) (λ p has. grown s q l p.sensor p (slow-or-not p.sensor) has) ps h

own : (q : SensorPart) → Contains (q ∷ []) q
own q = (0, omega arith, refl)

-- the new one is its sensor's
own-part : (s : Sensor) (q : SensorPart) (l : SlowParts) → IsSlow s → Contains (parts_of s (with_part s q l)) q
own-part s q l slow =
    let ps = parts_of s l ++ q ∷ [] in
    subst (λ qs. Contains qs q) (sym (parts_of-slow s (with_part s q l) slow ∙ with_slow_value-own ps l s slow)) (Contains-append_right (parts_of s l) (q ∷ []) q (own q))

pub is-taken : (s : Sensor) (q : SensorPart) (l : SlowParts) → IsSlow q.sensor → q.sensor ≡ s → IsTakenPart (with_part s q l) q
is-taken s q l slow is = subst (λ (r : Sensor). Contains (parts_of q.sensor (with_part r q l)) q) is (own-part q.sensor q l slow)
