use Rattle.std.proofs.Common.{length, vec_capacity}
use Rattle.edr_replay.proofs.LiveRunLemmas.{RunningLive}
use Rattle.edr_replay.proofs.live.replay_live.Given as goal

abbrev pub invariant-loop-cycle : goal.invariant-loop-cycle
invariant-loop-cycle g l = RunningLive g.N.Nvm l.fn.cycles.items (length l.yielded) (vec_capacity l.reports) (vec_capacity l.lines) l.reports.items l.lines.items l.fn.nvm l.nvm
