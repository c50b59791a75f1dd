use Rattle.edr_crashpart.proofs.FiringLemmas.{AreNoted}
use Rattle.edr_crashpart.proofs.noted_firings.Given as goal

abbrev pub invariant-loop-bit : goal.invariant-loop-bit
invariant-loop-bit l = AreNoted l.fn.firsts l.fn.fired.0 l.fn.at l.bit l.noted
