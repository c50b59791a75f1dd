-- Worked examples of a schedule.
use Rattle.std.proofs.Common.{arith, refl, ◌≡◌, ℕ, pos, Some, [], ◌∷◌}
use Rattle.edr_items.specs.declared.Sensor.TheVariants.{Along, Restraint}
use Rattle.edr_items.specs.declared.Item.{Item}
use Rattle.edr_items.specs.Item.{refusal_of}
use Rattle.edr_items.specs.SensorLists.{no_items}
use Rattle.edr_definitions.specs.Schedule.{Progress, Give, Close, IsAllowed, after_step, items_given}

sample : ℕ → Item
sample t = record { moment = t; value = Some (pos 1) }

abbrev start : Progress
start = record { given = no_items; closed = 0 }

-- at the start an item of moment 1,000 may be given, and none of 1,001
lead-1000 : IsAllowed (Give Along (sample 1_000)) start
unfolding sample refusal_of
lead-1000 = (refl, omega arith)

lead-1001 : IsAllowed (Give Along (sample 1_001)) start → ⊥
unfolding sample
lead-1001 h = let near = h.1 in absurd (omega (arith, near))

-- no tick is closed before each sensor has given an item
closes-nothing : IsAllowed Close (after_step start (Give Along (sample 7))) → ⊥
unfolding sample
closes-nothing h = absurd (omega (arith, h))

-- the items of a sensor stand in their order, whatever comes between
in_order : items_given Along (Give Along (sample 1) ∷ Give Restraint (sample 1) ∷ Close ∷ Give Along (sample 2) ∷ []) ≡ sample 1 ∷ sample 2 ∷ []
in_order = refl
