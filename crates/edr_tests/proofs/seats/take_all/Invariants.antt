use Rattle.std.proofs.Common.{◌≡◌, ◌+◌, ◌≤◌, length}
use Rattle.edr_seats.specs.Rings.{SameReceiver, items_taken}
use Rattle.edr_tests.proofs.seats.take_all.Given as goal

abbrev pub invariant-loop-i : goal.invariant-loop-i
invariant-loop-i g l =
    SameReceiver l.fn.inlet l.inlet × (length (items_taken l.inlet) ≡ length (items_taken l.fn.inlet) + l.i)
    × (l.same ≤ l.i)
