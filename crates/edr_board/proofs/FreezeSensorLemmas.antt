-- The places of the slow sensors.
use Rattle.std.proofs.Common.{arith, ap, refl, subst, sym, ◌≡◌, ◌∙◌, ◌+◌, ◌-◌, ℕ, ◌≤◌, ◌<◌, List, length, map, slice_index, slice_index_or}
use Rattle.std.specs.List.{range_with_len}
use Rattle.std.proofs.lemmas.List.{get_or-map}
use Rattle.std.proofs.lemmas.List.FromFn.{get_or-range_with_len}
use Rattle.edr_items.specs.declared.Sensor.TheVariants.{Along}
use Rattle.edr_items.specs.Sensor.{slow_sensors}
use Rattle.edr_items.specs.PerSlowSensor.{EachSlow}
use Rattle.edr_items.proofs.PerSlowSensorLemmas.{slow-listed, slow_at-by}
use Rattle.edr_board.specs.declared.freeze_view.TheConstants.{FREEZE_WORDS}
use Rattle.edr_board.specs.FreezeSeats.{marks_from, AllReach}
use Rattle.edr_board.specs.FreezeViews.{place_of}

-- they are those past the words granted and asked, one after the other
places : map place_of slow_sensors ≡ range_with_len 2 (length slow_sensors)
places = refl

-- what each mark has reached, by the places of their words
pub each_place : (n : ℕ) (words : List ℕ) → AllReach n (marks_from words) → (p : ℕ) → 2 ≤ p → p < FREEZE_WORDS → n ≤ slice_index words p
each_place n words h p from to =
    let reached : EachSlow (λ s. n ≤ slice_index words (place_of s)) = λ s slow. subst (λ m. n ≤ m) (slow_at-by (λ r. slice_index words (place_of r)) s slow) (h s slow) in
    let lt : p - 2 < length slow_sensors = omega arith in
    let at : place_of (slice_index_or slow_sensors (p - 2) Along) ≡ p =
    sym (get_or-map place_of slow_sensors (p - 2) Along 0 lt) ∙ ap (λ ps. slice_index ps (p - 2)) places ∙ get_or-range_with_len 2 (length slow_sensors) (p - 2) 0 lt ∙ past p from in
    subst (λ q. n ≤ slice_index words q) at (slow-listed (λ s. n ≤ slice_index words (place_of s)) reached (p - 2) Along lt) where
      past : (q : ℕ) → 2 ≤ q → 2 + (q - 2) ≡ q
      past q low = omega arith
