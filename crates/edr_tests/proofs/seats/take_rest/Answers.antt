use Rattle.std.proofs.Common.{arith}
use Rattle.edr_seats.proofs.TakeLemmas.{take_all, take_gives}
use Rattle.edr_seats.specs.Rings.{items_sent, items_taken}
use Rattle.edr_tests.proofs.seats.take_rest.Goals as goal

pub loop-preserved : goal.loop-preserved
loop-preserved c =
    let inv = c.loop.invariant in
    let took = c.take.ensures in
    let turn = take_gives c.take.result (items_sent c.beside-left.new.seat.sender) (items_taken c.loop.inlet) _ (items_taken c.take.new.self) _
    took.some took.known (λ none. (took.none none).1) inv.held (omega (arith, inv.count, c.loop-test.true)) in
    record { held = turn.0; count = omega (arith, turn.1, inv.count) }

pub returns-clause-all : goal.returns-clause-all
returns-clause-all c =
    let inv = c.loop.invariant in
    take_all _ _ _ inv.held (omega (arith, inv.count, c.loop-test.false, c.loop.auto.counter-end))
