use Rattle.std.proofs.Common.{◌≡◌, ◌≤◌, drop}
use Rattle.edr_drawing.specs.Scales.{least_step}
use Rattle.edr_drawing.proofs.scales.least_step.Given as goal

-- none of the steps that were passed is small enough
abbrev pub invariant-loop-step : goal.invariant-loop-step
invariant-loop-step l = (least_step l.last (drop l.step-index l.steps) l.most l.up l.down ≡ least_step 1 l.steps l.most l.up l.down) × ((1 ≤ l.last) × (l.last ≤ 1_000))
