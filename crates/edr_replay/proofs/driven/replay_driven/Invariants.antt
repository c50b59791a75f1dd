use Rattle.std.proofs.Common.{length, vec_capacity}
use Rattle.edr_replay.proofs.RunningLemmas.{Running}
use Rattle.edr_replay.proofs.driven.replay_driven.Given as goal

abbrev pub invariant-loop-cycle : goal.invariant-loop-cycle
invariant-loop-cycle g l = Running g.N.Nvm l.fn.cycles.items (length l.yielded) (vec_capacity l.reports) l.reports.items l.fn.nvm l.nvm
