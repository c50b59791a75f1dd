use Rattle.std.proofs.Common.{◌≡◌, drop, find}
use Rattle.edr_gen.specs.Cycles.{acts_at}
use Rattle.edr_gen.proofs.plan.Plan.acting_at.Given as goal

-- no impulse so far acts
abbrev pub invariant-loop-impulse : goal.invariant-loop-impulse
invariant-loop-impulse l = find (acts_at l.tick) (drop l.impulse-index l.self.impulses) ≡ find (acts_at l.tick) l.self.impulses
