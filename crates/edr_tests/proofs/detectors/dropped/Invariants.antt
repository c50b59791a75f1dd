use Rattle.std.proofs.Common.{◌≡◌}
use Rattle.edr_tests.proofs.detectors.dropped.Given as goal

abbrev pub invariant-loop-before : goal.invariant-loop-before
invariant-loop-before l = l.detect.tick ≡ l.before
