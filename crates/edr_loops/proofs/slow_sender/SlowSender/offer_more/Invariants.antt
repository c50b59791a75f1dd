use Rattle.edr_loops.specs.SlowSenders.{KeepsMore, KeepsOn}
use Rattle.edr_loops.proofs.slow_sender.SlowSender.offer_more.Given as goal

abbrev pub invariant-loop : goal.invariant-loop
invariant-loop g l = KeepsOn l.sensor l.items l.fn.self l.self × KeepsMore l.fn.self l.self
