-- Slots of a sensor, one after the other.
use Rattle.std.proofs.Common.{arith, sym, subst, ◌≡◌, ◌∙◌, ℕ, ◌<◌, ◌≤◌, ℤ, pos, negsuc, ◌&&◌, true, Option, Some, None, List, length, get_or, map, unsigned_abs}
use Rattle.std.specs.Prelude.{All, IfSome, option_map, int_le}
use Rattle.std.proofs.lemmas.List.{same_lists, length-map, get_or-map, get_or_default}
use Rattle.std.proofs.lemmas.List.Elements.{All-get_or, All-map, All-weaker}
use Rattle.edr_items.specs.declared.Sensor.{Sensor}
use Rattle.edr_items.specs.declared.Sensor.TheVariants.{Speed, Throttle}
use Rattle.edr_items.specs.Sensor.{is_in_range}
use Rattle.edr_record.specs.Bounds.{IsUpTo}
use Rattle.edr_definitions.specs.Parts.{numbers}
use Rattle.edr_capture.specs.SensorPart.{SensorPart, IsPart}

-- a list that has f of each element of another one in its place
pub filled-map : {X Y : Type 0} → (f : X → Y) (xs : List X) (ys : List Y) (d : X) (e : Y) → length ys ≡ length xs → ((k : ℕ) → k < length xs → get_or ys k e ≡ f (get_or xs k d)) → ys ≡ map f xs
filled-map f xs ys d e long each =
    same_lists ys (map f xs) (long ∙ sym (length-map xs f)) (λ k g lt. let within : k < length xs = omega arith in get_or_default ys k g e lt ∙ each k within ∙ sym (get_or-map f xs k d g within))

-- the numbers of slots have the bound of all
pub number-at : (highest : ℕ) (slots : List (Option ℤ)) (k : ℕ) → All (IsUpTo highest) (numbers slots) → k < length slots → IsUpTo highest (option_map unsigned_abs (get_or slots k None))
number-at highest slots k all within =
    let long = length-map slots (λ s. option_map unsigned_abs s) in
    subst (IsUpTo highest) (get_or-map (λ s. option_map unsigned_abs s) slots k None None within) (All-get_or (IsUpTo highest) (numbers slots) k None (omega (arith, long)) all)

-- the slots of a part have the bound of its sensor
number_up_to : (highest : ℕ) (v : ℤ) → int_le (pos 0) v && int_le v (pos highest) ≡ true → unsigned_abs v ≤ highest
number_up_to highest (pos n) h = grind (arith, h)
number_up_to highest (negsuc n) h = cc

slot_up_to : (highest : ℕ) (o : Option ℤ) → IfSome o (λ v. int_le (pos 0) v && int_le v (pos highest) ≡ true) → IsUpTo highest (option_map unsigned_abs o)
slot_up_to highest None h = tt
slot_up_to highest (Some v) h = number_up_to highest v h

up_to : (highest : ℕ) (slots : List (Option ℤ)) → All (λ o. IfSome o (λ v. int_le (pos 0) v && int_le v (pos highest) ≡ true)) slots → All (IsUpTo highest) (numbers slots)
up_to highest slots h =
    All-map (IsUpTo highest) (λ s. option_map unsigned_abs s) slots
    (All-weaker (λ o. IfSome o (λ v. int_le (pos 0) v && int_le v (pos highest) ≡ true)) (λ o. IsUpTo highest (option_map unsigned_abs o)) (slot_up_to highest) slots h)

pub speeds-up-to : (q : SensorPart) → IsPart q → q.sensor ≡ Speed → All (IsUpTo 300) (numbers q.slots)
speeds-up-to q h is = up_to 300 q.slots (subst (λ (s : Sensor). All (λ o. IfSome o (λ v. is_in_range s v ≡ true)) q.slots) is h.range)

pub per_cents-up-to : (q : SensorPart) → IsPart q → q.sensor ≡ Throttle → All (IsUpTo 100) (numbers q.slots)
per_cents-up-to q h is = up_to 100 q.slots (subst (λ (s : Sensor). All (λ o. IfSome o (λ v. is_in_range s v ≡ true)) q.slots) is h.range)
