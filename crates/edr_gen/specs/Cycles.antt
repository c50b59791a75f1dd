-- What the sensors give in a planned cycle.
use Rattle.std.specs.Prelude.{◌≡◌, ◌+◌, ◌%◌, ◌==◌, ◌&&◌, nat_lt, nat_le, ℕ, zero, suc, ℤ, pos, Bool, true, false, Option, Some, None, find, List, [], ◌∷◌, ◌++◌, map}
use Rattle.std.specs.List.{list_any}
use Rattle.edr_items.specs.declared.Sensor.{Sensor}
use Rattle.edr_items.specs.declared.Sensor.TheVariants.{Along, Across, Restraint}
use Rattle.edr_items.specs.Sensor.{slow_sensors}
use Rattle.edr_items.specs.PerSlowSensor.{slow_value_of}
use Rattle.edr_items.specs.SensorLists.{SensorLists}
use Rattle.edr_spell.specs.Samples.{Sample, feeds_given}
use Rattle.edr_gen.specs.declared.plan.TheConstants.{SLOW_SAID}
use Rattle.edr_gen.specs.declared.plan.Impulse.{Impulse}

-- ---- impulses

-- the impulse acts at the tick
abbrev pub acts_at : ℕ → Impulse → Bool
acts_at t i = nat_lt i.start t && nat_le t (i.start + i.len)

-- an air bag fires for it at the tick
abbrev pub fires_at : ℕ → Impulse → Bool
fires_at t i = i.fires && (t == i.start + 30)

-- the impulse that acts at the tick, if one does
unfoldable pub acting_at : List Impulse → ℕ → Option Impulse
acting_at impulses t = find (acts_at t) impulses

-- the samples of the acceleration sensors there
abbrev pub along_of : Option Impulse → ℤ
along_of None = pos 0
along_of (Some i) = i.along

abbrev pub across_of : Option Impulse → ℤ
across_of None = pos 0
across_of (Some i) = i.across

-- an air bag fires at the tick
unfoldable pub has_firing : List Impulse → ℕ → Bool
has_firing impulses t = list_any (fires_at t) impulses

-- ---- the samples of one tick

abbrev pub sample : Sensor → ℕ → Option ℤ → Sample
sample s t value = record { sensor = s; item = record { moment = t; value = value } }

-- the two acceleration sensors sample at each tick
abbrev pub crash_samples : ℤ → ℤ → ℕ → List Sample
crash_samples along across t = sample Along t (Some along) ∷ sample Across t (Some across) ∷ []

-- those by the impulse that acts
abbrev pub crash_of : List Impulse → ℕ → List Sample
crash_of impulses t = crash_samples (along_of (acting_at impulses t)) (across_of (acting_at impulses t)) t

-- the slow sensors sample together, or don't
abbrev pub slow_sample : ℕ → Sensor → Sample
slow_sample t s = sample s t (slow_value_of s SLOW_SAID)

abbrev pub slow_samples : Bool → ℕ → List Sample
slow_samples true t = map (slow_sample t) slow_sensors
slow_samples false t = []

-- the driver's frontal air bag fires, or the restraints say that they were silent, or nothing
abbrev pub restraint_samples : Bool → Bool → ℕ → List Sample
restraint_samples true silent t = sample Restraint t (Some (pos 1)) ∷ []
restraint_samples false true t = sample Restraint t None ∷ []
restraint_samples false false t = []

-- what the sensors give at one tick, in the order of their numbers
unfoldable pub samples_at : List Impulse → ℕ → List Sample
samples_at impulses t =
    crash_of impulses t
    ++ slow_samples (t % 100 == 0) t
    ++ restraint_samples (has_firing impulses t) (t % 1000 == 0) t

-- ---- ticks one after the other

-- what they give in the n ticks after tick t
unfoldable pub samples_after : List Impulse → ℕ → ℕ → List Sample
samples_after impulses t zero = []
samples_after impulses t (suc n) = samples_at impulses (t + 1) ++ samples_after impulses (t + 1) n

-- feeds that samples gave have these more
abbrev pub GivesSamples : List Sample → SensorLists → SensorLists → Type 0
GivesSamples more old new = (xs : List Sample) → old ≡ feeds_given xs → new ≡ feeds_given (xs ++ more)
