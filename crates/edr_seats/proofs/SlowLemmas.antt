-- What a slow sensor's seat keeps.
use Rattle.std.proofs.Common.{refl, ◌≡◌, ℕ, Bool, true, false, cond, nat_le, Some, None}
use Rattle.edr_items.specs.declared.Sensor.{Sensor}
use Rattle.edr_items.specs.declared.Item.{Item}
use Rattle.edr_items.specs.declared.ItemRefused.TheVariants.{Order, Moment, Range}
use Rattle.edr_items.specs.Sensor.{lowest_of, highest_of}
use Rattle.edr_items.specs.Item.{refusal_of, has_value_in_range}
use Rattle.edr_capture.specs.SensorPart.{IsOfSensor}

-- an item that isn't refused is the sensor's
pub accepted-is : (s : Sensor) (last : ℕ) (x : Item) → refusal_of s last x ≡ None → IsOfSensor s x
unfolding refusal_of
accepted-is s last x e = by (nat_le x.moment last) (nat_le 86_400_001 x.moment) (has_value_in_range s x) e where
  by : (a b c : Bool) → cond a (Some (Order last)) (cond b (Some (Moment 86_400_000)) (cond c None (Some (Range (lowest_of s) (highest_of s))))) ≡ None → c ≡ true
  by true b c e = absurd (cc e)
  by false true c e = absurd (cc e)
  by false false true e = refl
  by false false false e = absurd (cc e)
