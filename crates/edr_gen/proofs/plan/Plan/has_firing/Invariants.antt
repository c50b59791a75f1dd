use Rattle.std.proofs.Common.{◌≡◌, drop}
use Rattle.std.specs.List.{list_any}
use Rattle.edr_gen.specs.Cycles.{fires_at}
use Rattle.edr_gen.proofs.plan.Plan.has_firing.Given as goal

-- none fires for an impulse so far
abbrev pub invariant-loop-impulse : goal.invariant-loop-impulse
invariant-loop-impulse l = list_any (fires_at l.tick) (drop l.impulse-index l.self.impulses) ≡ list_any (fires_at l.tick) l.self.impulses
