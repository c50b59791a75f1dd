-- The sensor that lags, found by its mark.
use Rattle.std.proofs.Common.{arith, refl, ◌≡◌, ◌≢◌, ℕ, ◌+◌, ◌<◌, ◌≤◌, Some, None, nat_eq, true, false}
use Rattle.edr_items.specs.declared.Sensor.{Sensor}
use Rattle.edr_items.specs.declared.Sensor.TheVariants.{Along, Across}
use Rattle.edr_items.specs.Sensor.{number_of}
use Rattle.edr_items.specs.SensorLists.{sensors}
use Rattle.edr_items.proofs.LevelLemmas.{find-none}
use Rattle.edr_items.proofs.PerSensorLemmas.{with_value-each}
use Rattle.edr_merge.specs.Marks.{Marks, mark_in, with_mark, is_marked_at, first_at}
use Rattle.edr_merge.specs.Lag.{IsBelowSlow}

pub lag_along : (m : Marks) (t : ℕ) → m.along ≡ t → first_at m t ≡ Some Along
unfolding first_at
lag_along m t here = let e : nat_eq m.along t ≡ true = grind arith in rw e refl

pub lag_across : (m : Marks) (t : ℕ) → m.along ≢ t → m.across ≡ t → first_at m t ≡ Some Across
unfolding first_at
lag_across m t other here =
    let a : nat_eq m.along t ≡ false = grind arith in
    let b : nat_eq m.across t ≡ true = grind arith in
    rw (a, b) refl

-- no mark is that tick, where those of the axes are not and those of the others are past it
unmarked : (m : Marks) (t : ℕ) → m.along ≢ t → m.across ≢ t → IsBelowSlow (t + 1) m → (s : Sensor) → is_marked_at m t s ≡ false
unmarked m t along across low Along = grind arith
unmarked m t along across low Across = grind arith
unmarked m t along across low s = let l = low s (omega arith) in grind arith

pub lag_none : (m : Marks) (t : ℕ) → m.along ≢ t → m.across ≢ t → IsBelowSlow (t + 1) m → first_at m t ≡ None
unfolding first_at
lag_none m t along across low = find-none (is_marked_at m t) sensors (unmarked m t along across low)

-- marks only rise
pub below-risen : (slow t : ℕ) (s : Sensor) (m : Marks) → mark_in s m < t → IsBelowSlow slow m → IsBelowSlow slow (with_mark s t m)
below-risen slow t s m rises h = with_value-each (λ r (n : ℕ). 3 ≤ number_of r → slow ≤ n) s t m (λ beside. let l = h s beside in omega (arith, l, rises)) h
