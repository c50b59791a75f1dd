use Rattle.std.proofs.Common.{◌≡◌, take}
use Rattle.edr_items.specs.Item.{mark_from}
use Rattle.edr_seats.specs.Accepted.{AreAccepted}
use Rattle.edr_seats.proofs.accepted.count_accepted.Given as goal

-- those so far may be given, and that is the moment of the last of them
abbrev pub invariant-loop-k : goal.invariant-loop-k
invariant-loop-k l = AreAccepted l.sensor l.fn.before (take l.k l.items) × (l.last ≡ mark_from l.fn.before (take l.k l.items))
