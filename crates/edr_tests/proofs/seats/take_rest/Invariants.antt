use Rattle.std.proofs.Common.{◌≡◌, ◌+◌, ◌++◌, length}
use mathlib.Core.List.{IsPrefix}
use Rattle.edr_seats.specs.Rings.{items_known, items_sent, items_taken}
use Rattle.edr_tests.proofs.seats.take_rest.Given as goal

-- all that was sent is taken or known, and each turn takes one item of it
abbrev pub invariant-loop : goal.invariant-loop
invariant-loop l = record {
  held : IsPrefix (items_sent l.seat.sender) (items_taken l.inlet ++ items_known l.inlet);
  count : length (items_taken l.inlet) + l.left ≡ length (items_sent l.seat.sender) + l.counter;
}
