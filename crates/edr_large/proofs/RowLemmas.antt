-- A generated cycle has a row for each item of its feeds, and two more.
use Rattle.std.proofs.Common.{arith, ◌≡◌, ◌∙◌, ap, refl, sym, ℕ, zero, suc, ◌+◌, ◌*◌, ◌<◌, ◌≤◌, ◌%◌, ◌==◌, ℤ, Bool, true, false, List, [], ◌∷◌, ◌++◌, map, length, drop, slice_index_or, length-append, drop-cons, add-one}
use Rattle.std.proofs.lemmas.List.{drop_all, length-map}
use Rattle.edr_items.specs.declared.Sensor.{Sensor}
use Rattle.edr_items.specs.declared.Item.{Item}
use Rattle.edr_items.specs.PerSensor.{total_of}
use Rattle.edr_items.specs.Sensor.{slow_sensors}
use Rattle.edr_items.specs.SensorLists.{SensorLists, items_of, sensors}
use Rattle.edr_items.proofs.PerSensorLemmas.{total-with}
use Rattle.edr_spell.specs.declared.Row.TheVariants as row
use Rattle.edr_spell.specs.Samples.{Sample, feeds_given, row_for}
use Rattle.edr_spell.proofs.FeedsLemmas.{feeds_given-next}
use Rattle.edr_gen.specs.declared.plan.TheConstants.{TICKS}
use Rattle.edr_gen.specs.Cycles.{acting_at, along_of, across_of, crash_samples, has_firing, restraint_samples, samples_after, samples_at, slow_sample, slow_samples}
use Rattle.edr_gen.specs.Draws.{Planned}
use Rattle.edr_gen.specs.Traces.{rows_of, samples_of}
use Rattle.edr_large.specs.Rows.{items_in, most_items}

-- one more sample is one more item
one_more : (s : Sensor) (i : Item) (xs : List Sample) → items_in (feeds_given (record { sensor = s; item = i } ∷ xs)) ≡ suc (items_in (feeds_given xs))
one_more s i xs =
    let f = feeds_given xs in
    let next = ap (total_of length) (feeds_given-next s i xs) in
    let all = total-with length s (i ∷ items_of s f) f in
    omega (arith, next, all)

-- the samples are the items
given_all : (xs : List Sample) → items_in (feeds_given xs) ≡ length xs
unfolding feeds_given
given_all [] = refl
given_all (x ∷ xs) = one_more x.sensor x.item xs ∙ ap suc (given_all xs)

-- ---- no tick has more than one of each sensor

few_slow : (b : Bool) (t : ℕ) → length (slow_samples b t) ≤ length slow_sensors
few_slow true t = let all = length-map slow_sensors (slow_sample t) in omega (arith, all)
few_slow false t = omega arith

few_restraint : (f q : Bool) (t : ℕ) → length (restraint_samples f q t) ≤ 1
few_restraint true q t = omega arith
few_restraint false true t = omega arith
few_restraint false false t = omega arith

few_by : (a c : ℤ) (t : ℕ) (b f q : Bool) → length (crash_samples a c t ++ slow_samples b t ++ restraint_samples f q t) ≤ length sensors
few_by a c t b f q =
    let slow = few_slow b t in
    let restraint = few_restraint f q t in
    let both = length-append (slow_samples b t) (restraint_samples f q t) in
    omega (arith, slow, restraint, both)

few_at : (p : Planned) (t : ℕ) → length (samples_at p.impulses t) ≤ length sensors
unfolding samples_at
few_at p t = few_by (along_of (acting_at p.impulses t)) (across_of (acting_at p.impulses t)) t (t % 100 == 0) (has_firing p.impulses t) (t % 1000 == 0)

few_after : (p : Planned) (n t : ℕ) → length (samples_after p.impulses t n) ≤ length sensors * n
unfolding samples_after
few_after p zero t = omega arith
few_after p (suc n) t =
    let here = few_at p (t + 1) in
    let later = few_after p n (t + 1) in
    let both = length-append (samples_at p.impulses (t + 1)) (samples_after p.impulses (t + 1) n) in
    omega (arith, here, later, both)

-- ---- the rows of a cycle

pub items_few : (p : Planned) → items_in (feeds_given (samples_of p)) ≤ most_items
items_few p =
    let all = given_all (samples_of p) in
    let few = few_after p TICKS 0 in
    omega (arith, all, few)

pub rows_many : (p : Planned) → length (rows_of p) ≡ items_in (feeds_given (samples_of p)) + 2
rows_many p =
    let all = given_all (samples_of p) in
    let mapped = length-map (samples_of p) row_for in
    let last = length-append (map row_for (samples_of p)) (row.Cut p.stop ∷ []) in
    omega (arith, all, mapped, last)

-- ---- the items, sensor by sensor

-- those of some sensors
abbrev pub items_among : SensorLists → List Sensor → ℕ
items_among f [] = 0
items_among f (s ∷ ss) = length (items_of s f) + items_among f ss

pub items_all : (f : SensorLists) → items_among f sensors ≡ items_in f
items_all f = omega arith

pub items_first : (f : SensorLists) (k : ℕ) (d : Sensor) → k < length sensors → items_among f (drop k sensors) ≡ length (items_of (slice_index_or sensors k d) f) + items_among f (drop (k + 1) sensors)
items_first f k d lt = ap (items_among f) (drop-cons sensors k d lt) ∙ ap (λ (n : ℕ). length (items_of (slice_index_or sensors k d) f) + items_among f (drop n sensors)) (sym (add-one k))

pub items_none : (f : SensorLists) (k : ℕ) → length sensors ≤ k → items_among f (drop k sensors) ≡ 0
items_none f k past = ap (items_among f) (drop_all k sensors past)
