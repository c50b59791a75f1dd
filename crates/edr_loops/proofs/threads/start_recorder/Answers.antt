use Rattle.std.proofs.Common.{subst, sym}
use Rattle.edr_loops.specs.Recorders.{LaterUpTo}
use Rattle.edr_loops.proofs.threads.start_recorder.Goals as goal

pub spawn_with-requires-clause-keeps : goal.spawn_with-requires-clause-keeps
spawn_with-requires-clause-keeps g c κs within = λ r kept. (subst (λ d. LaterUpTo c.args.horizon d r) (sym c.of.ensures) kept.0, kept.1)
