use Rattle.edr_reading.proofs.SlotLemmas.{points-are}
use Rattle.edr_reading.proofs.event.points.Goals as goal

pub returns-then-points-eq0 : goal.returns-then-points-eq0
returns-then-points-eq0 c = points-are c.args.bytes.now c.args.end c.point_count.result c.read_slots.new.slots c.point_count.ensures c.in_ok-read_slots.ensures c.if-points-eq0.true
