use Rattle.std.proofs.Common.{◌≡◌, take}
use Rattle.edr_seats.specs.Rings.{items_sent}
use Rattle.edr_seats.specs.Seat.{SameSeat}
use Rattle.edr_tests.proofs.seats.send_all.Given as goal

abbrev pub invariant-loop-i : goal.invariant-loop-i
invariant-loop-i g l = SameSeat l.initial.seat l.seat × (items_sent l.seat.sender ≡ take l.i l.items)
