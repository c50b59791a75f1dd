-- What a slow sensor's sender has kept and sent.
use Rattle.std.proofs.Common.{◌≡◌, ◌∙◌, ℕ, ◌≤◌, List, [], ◌∷◌, ◌++◌, ap, sym, subst, take}
use Rattle.std.specs.Prelude.{All}
use Rattle.std.proofs.lemmas.List.Elements.{All-cons, All-head, All-nil, All-push, All-tail}
use Rattle.edr_items.specs.declared.Sensor.{Sensor}
use Rattle.edr_items.specs.declared.Item.{Item}
use Rattle.edr_capture.specs.SensorPart.{SensorPart, part}
use Rattle.edr_seats.specs.Rings.{items_sent}
use Rattle.edr_seats.specs.Slow.{SameSlowSeat, SlowSeatIsFor, mark_kept, sensor_of_slow}
use Rattle.edr_loops.specs.declared.slow_sender.SlowSender.{SlowSender}
use Rattle.edr_loops.specs.SlowSenders.{AreParts, IsKeeping, IsPartOfBeginning}

-- the seat has kept one more item, the next of the list
pub keeping-item : (s : Sensor) (xs : List Item) (x : Item) (a b : SlowSender) → SameSlowSeat a.seat b.seat → take b.next xs ≡ take a.next xs ++ x ∷ []
    → ((kept : List Item) (parts : List SensorPart) → SlowSeatIsFor a.seat kept parts → SlowSeatIsFor b.seat (kept ++ x ∷ []) parts)
    → IsKeeping s xs a → IsKeeping s xs b
keeping-item s xs x a b same more keeps h =
    let k = keeps (take a.next xs) (items_sent a.seat.sender) h.stands in record {
      sensor = same.sensor ∙ h.sensor;
      stands = subst (λ ys. SlowSeatIsFor b.seat ys (items_sent b.seat.sender)) (sym more) (subst (λ ps. SlowSeatIsFor b.seat (take a.next xs ++ x ∷ []) ps) (sym k.parts_are) k);
      parts = subst (All (IsPartOfBeginning s xs)) (sym k.parts_are) h.parts;
    }

-- the seat has sent the part of a zero that its mark has reached
pub keeping-part : (s : Sensor) (xs : List Item) (z : ℕ) (a b : SlowSender) → SameSlowSeat a.seat b.seat → b.next ≡ a.next → z ≤ mark_kept a.seat
    → ((kept : List Item) (parts : List SensorPart) → SlowSeatIsFor a.seat kept parts → SlowSeatIsFor b.seat kept (parts ++ part (sensor_of_slow a.seat) kept z ∷ []))
    → IsKeeping s xs a → IsKeeping s xs b
keeping-part s xs z a b same next reached sends h =
    let k = sends (take a.next xs) (items_sent a.seat.sender) h.stands in
    let last : IsPartOfBeginning s xs (part (sensor_of_slow a.seat) (take a.next xs) z) = record {
      many = a.next;
      is = ap (λ r. part r (take a.next xs) z) h.sensor;
      reached = subst (λ n. z ≤ n) (sym h.stands.mark) reached;
    } in record {
      sensor = same.sensor ∙ h.sensor;
      stands = subst (λ n. SlowSeatIsFor b.seat (take n xs) (items_sent b.seat.sender)) (sym next) (subst (λ ps. SlowSeatIsFor b.seat (take a.next xs) ps) (sym k.parts_are) k);
      parts = subst (All (IsPartOfBeginning s xs)) (sym k.parts_are) (All-push (IsPartOfBeginning s xs) (items_sent a.seat.sender) (part (sensor_of_slow a.seat) (take a.next xs) z) h.parts last);
    }

-- ---- parts that were taken
pub front-parts : (s : Sensor) (xs : List Item) (taken known : List SensorPart) → AreParts s xs (taken ++ known) → AreParts s xs taken
front-parts s xs [] known all = All-nil (IsPartOfBeginning s xs)
front-parts s xs (p ∷ ps) known all = All-cons (IsPartOfBeginning s xs) p ps (All-head (IsPartOfBeginning s xs) p (ps ++ known) all) (front-parts s xs ps known (All-tail (IsPartOfBeginning s xs) p (ps ++ known) all))
