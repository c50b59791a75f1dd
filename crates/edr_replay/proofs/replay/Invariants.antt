use Rattle.std.proofs.Common.{vec_capacity}
use Rattle.edr_replay.proofs.RunningLemmas.{Running}
use Rattle.edr_replay.proofs.replay.Given as goal

abbrev pub invariant-loop-cycle : goal.invariant-loop-cycle
invariant-loop-cycle g l = Running g.N.Nvm l.cycles l.cycle-index (vec_capacity l.reports) l.reports.items l.fn.nvm l.nvm
