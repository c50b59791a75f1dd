-- A sender that is at this worker or at another.
use Rattle.std.specs.Prelude.{◌≡◌, ◌⊎◌, Bool, Option, Some, None, if◌then◌else◌}
use Rattle.edr_loops.specs.declared.fast_sender.Offered.{Offered}
use Rattle.edr_loops.specs.declared.fast_sender.Offered.TheVariants.{Over}

module _ {A : Type 0} where
  -- it is here neither before nor after, or both times, and then went on in this way
  abbrev pub GoesHere : (A → A → Type 0) → Option A → Option A → Type 0
  GoesHere R None None = Unit {0}
  GoesHere R (Some a) (Some b) = R a b
  GoesHere R None (Some b) = ⊥
  GoesHere R (Some a) None = ⊥

  -- what came of its offers, if it is here
  abbrev pub CameHere : (A → A → Offered → Type 0) → Option A → Option A → Offered → Type 0
  CameHere R None None offered = offered ≡ Over
  CameHere R (Some a) (Some b) offered = R a b offered
  CameHere R None (Some b) offered = ⊥
  CameHere R (Some a) None offered = ⊥

  -- of two hands one has it
  abbrev pub IsDealt : Option A → Option A → Option A → Type 0
  IsDealt old mine rest = ((mine ≡ old) × (rest ≡ None)) ⊎ ((mine ≡ None) × (rest ≡ old))

  -- it is left here, if the sensor is served here
  abbrev pub if_served : Bool → Option A → Option A
  if_served served sender = if served then sender else None

  -- that of one hand, and where it has none that of the other
  abbrev pub either : Option A → Option A → Option A
  either None b = b
  either (Some a) b = Some a
