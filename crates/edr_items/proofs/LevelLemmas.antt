-- Marks and the horizon; feeds are level exactly where no sensor lags.
use Rattle.std.proofs.Common.{arith, ap, subst, sym, ◌≡◌, ◌∙◌, refl, ℕ, zero, suc, ◌+◌, ◌-◌, ◌<◌, ◌≤◌, Bool, true, false, cond, nat_lt, Some, None, List, [], ◌∷◌, length, drop, slice_index_or, drop-cons, add-one}
use Rattle.std.proofs.lemmas.Bool.Decides.{nat_tests}
use Rattle.std.specs.List.{find}
use Rattle.edr_items.specs.declared.Sensor.{Sensor}
use Rattle.edr_items.specs.declared.Sensor.TheVariants.{Along}
use Rattle.edr_items.specs.Sensor.{number_of}
use Rattle.edr_items.specs.PerSensor.{map_values}
use Rattle.edr_items.specs.Item.{mark_of}
use Rattle.edr_items.specs.SensorLists.{SensorLists, items_of, horizon_of, greatest_mark, sensors, is_behind, lagging_of, IsLevel}
use Rattle.edr_items.proofs.PerSensorLemmas.{value_of-map, least-above, most-below}

-- each mark is at most the greatest
pub mark-le_greatest : (f : SensorLists) (r : Sensor) → mark_of (items_of r f) ≤ greatest_mark f
mark-le_greatest f Along = omega arith
mark-le_greatest f r = omega arith

-- what all marks are below, the greatest is
greatest-below : (f : SensorLists) (n : ℕ) → ((r : Sensor) → mark_of (items_of r f) ≤ n) → greatest_mark f ≤ n
greatest-below f n h = most-below (map_values mark_of f) n (λ s. subst (λ m. m ≤ n) (sym (value_of-map mark_of s f)) (h s))

-- no mark is below the horizon
pub horizon-least : (f : SensorLists) (s : Sensor) → horizon_of f ≤ mark_of (items_of s f)
horizon-least f Along = omega arith
horizon-least f s = omega arith

-- what no mark is below, the horizon isn't below
pub horizon-above : (f : SensorLists) (n : ℕ) → ((s : Sensor) → n ≤ mark_of (items_of s f)) → n ≤ horizon_of f
horizon-above f n h = least-above (map_values mark_of f) n (λ s. subst (λ m. n ≤ m) (sym (value_of-map mark_of s f)) (h s))

find-fails : (p : Sensor → Bool) (xs : List Sensor) → find p xs ≡ None → (k : ℕ) (d : Sensor) → k < length xs → p (slice_index_or xs k d) ≡ false
find-fails p [] h k d lt = absurd (omega arith)
find-fails p (x ∷ xs) h k d lt = by (p x) refl h (λ none j in_list. find-fails p xs none j d in_list) k lt
  where
    by : (b : Bool) → p x ≡ b → cond b (Some x) (find p xs) ≡ None → (find p xs ≡ None → (j : ℕ) → j < length xs → p (slice_index_or xs j d) ≡ false)
        → (j : ℕ) → j < length (x ∷ xs) → p (slice_index_or (x ∷ xs) j d) ≡ false
    by true e none rest j in_list = cc
    by false e none rest zero in_list = e
    by false e none rest (suc j) in_list = rest none j (omega arith)

pub find-none : (p : Sensor → Bool) (xs : List Sensor) → ((x : Sensor) → p x ≡ false) → find p xs ≡ None
find-none p [] h = refl
find-none p (x ∷ xs) h = rw (h x) (find-none p xs h)

-- a test that finds none of the sensors fails at each
pub none-found : (p : Sensor → Bool) → find p sensors ≡ None → (s : Sensor) → p s ≡ false
none-found p h s = subst (λ r. p r ≡ false) (listed s).1 (find-fails p sensors h (number_of s - 1) Along (listed s).0)
  where
    listed : (r : Sensor) → (number_of r - 1 < length sensors) × (slice_index_or sensors (number_of r - 1) Along ≡ r)
    listed Along = (omega arith, refl)
    listed r = (omega arith, refl)

lt-false : (m n : ℕ) → nat_lt m n ≡ false → n ≤ m
lt-false m n h = grind (arith, nat_tests)

false-lt : (m n : ℕ) → n ≤ m → nat_lt m n ≡ false
false-lt m n h = grind (arith, nat_tests)

pub IsLevel-from_lagging : (f : SensorLists) → lagging_of f ≡ None → IsLevel f
unfolding lagging_of
IsLevel-from_lagging f h s r =
    let near = lt-false _ _ (none-found (is_behind f) h r) in
    let top = mark-le_greatest f s in
    omega (arith, near, top)

pub lagging-from_IsLevel : (f : SensorLists) → IsLevel f → lagging_of f ≡ None
unfolding lagging_of
lagging-from_IsLevel f level = find-none (is_behind f) sensors (λ s. false-lt _ _ (greatest-below f _ (λ r. level r s)))

-- a search goes on past a sensor that fails the test
pub find-drop : (p : Sensor → Bool) (xs : List Sensor) (i : ℕ) (d : Sensor) → i < length xs → p (slice_index_or xs i d) ≡ false → find p (drop (i + 1) xs) ≡ find p (drop i xs)
find-drop p xs i d in_list fails =
    sym (ap (find p) (drop-cons xs i d in_list) ∙ ap (λ (b : Bool). cond b (Some (slice_index_or xs i d)) (find p (drop (suc i) xs))) fails ∙ ap (λ (k : ℕ). find p (drop k xs)) (sym (add-one i)))
