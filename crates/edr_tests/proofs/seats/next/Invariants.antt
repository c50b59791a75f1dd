use Rattle.std.proofs.Common.{◌≡◌}
use Rattle.edr_seats.specs.Rings.{SameReceiver, items_taken}
use Rattle.edr_tests.proofs.seats.next.Given as goal

abbrev pub invariant-loop : goal.invariant-loop
invariant-loop g l = SameReceiver l.fn.inlet l.inlet × (items_taken l.inlet ≡ items_taken l.fn.inlet)
