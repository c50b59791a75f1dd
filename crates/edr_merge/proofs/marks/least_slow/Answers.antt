use Rattle.std.proofs.Common.{arith, ◌≡◌, ◌≤◌, ℕ, min}
use Rattle.edr_items.specs.declared.Sensor.TheVariants.{Along, Across, Speed, Throttle, Brake, Belt, Lamp, Restraint}
use Rattle.edr_merge.specs.Marks.{Marks}
use Rattle.edr_merge.specs.Lag.{IsBelowSlow}
use Rattle.edr_merge.proofs.marks.least_slow.Goals as goal

within-min : (t r a b : ℕ) → r ≡ min a b → t ≤ r → (t ≤ a) × (t ≤ b)
within-min t r a b is within = grind arith

min-above : (t r a b : ℕ) → r ≡ min a b → t ≤ a → t ≤ b → t ≤ r
min-above t r a b is first second = grind arith

all-above : (t : ℕ) (m : Marks) → t ≤ m.speed → t ≤ m.throttle → t ≤ m.brake → t ≤ m.belt → t ≤ m.lamp → t ≤ m.restraint → IsBelowSlow t m
all-above t m speed throttle brake belt lamp restraint Along beside = absurd (omega (arith, beside))
all-above t m speed throttle brake belt lamp restraint Across beside = absurd (omega (arith, beside))
all-above t m speed throttle brake belt lamp restraint Speed beside = speed
all-above t m speed throttle brake belt lamp restraint Throttle beside = throttle
all-above t m speed throttle brake belt lamp restraint Brake beside = brake
all-above t m speed throttle brake belt lamp restraint Belt beside = belt
all-above t m speed throttle brake belt lamp restraint Lamp beside = lamp
all-above t m speed throttle brake belt lamp restraint Restraint beside = restraint

pub returns : goal.returns
returns c = λ t. (
  λ within.
      let rest = within-min t _ _ _ c.min-3.ensures within in
      let all = within-min t _ _ _ c.min-2.ensures rest.0 in
      let speed = within-min t _ _ _ c.min.ensures all.0 in
      let pedals = within-min t _ _ _ c.min-pedals.ensures speed.1 in
      let lights = within-min t _ _ _ c.min-lights.ensures all.1 in
      all-above t c.args.marks.now speed.0 pedals.0 pedals.1 lights.0 lights.1 rest.1,
  λ low.
      let pedals = min-above t _ _ _ c.min-pedals.ensures (low Throttle (omega arith)) (low Brake (omega arith)) in
      let lights = min-above t _ _ _ c.min-lights.ensures (low Belt (omega arith)) (low Lamp (omega arith)) in
      let all = min-above t _ _ _ c.min-2.ensures (min-above t _ _ _ c.min.ensures (low Speed (omega arith)) pedals) lights in
      min-above t _ _ _ c.min-3.ensures all (low Restraint (omega arith)),
)
