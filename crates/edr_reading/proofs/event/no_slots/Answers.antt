use Rattle.std.proofs.{Common.{None, refl}, lemmas.List.Elements.All-replicate}
use Rattle.edr_record.specs.Bounds.{IsUpTo}
use Rattle.edr_reading.proofs.event.no_slots.Goals as goal

pub returns-in-Long : goal.returns-in-Long
returns-in-Long c = rw c.in-Long.is (record { profile = refl; speeds = refl; speed = All-replicate (IsUpTo 300) 201 None tt; throttles = refl; throttle = All-replicate (IsUpTo 100) 201 None tt; brakes = refl })
