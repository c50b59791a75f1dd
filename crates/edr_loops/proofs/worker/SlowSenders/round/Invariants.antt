use Rattle.edr_loops.specs.Workers.{AreSlowSenders, SlowKeepOn}
use Rattle.edr_loops.proofs.worker.SlowSenders.round.Given as goal

abbrev pub invariant-loop-sensor : goal.invariant-loop-sensor
invariant-loop-sensor g l = AreSlowSenders l.feeds l.self × SlowKeepOn l.feeds l.fn.self l.self
