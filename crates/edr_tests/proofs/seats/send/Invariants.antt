use Rattle.std.proofs.Common.{◌≡◌}
use Rattle.edr_seats.specs.Rings.{items_sent}
use Rattle.edr_seats.specs.Seat.{SameSeat}
use Rattle.edr_tests.proofs.seats.send.Given as goal

abbrev pub invariant-loop : goal.invariant-loop
invariant-loop g l = SameSeat l.fn.seat l.seat × (items_sent l.seat.sender ≡ items_sent l.fn.seat.sender)
