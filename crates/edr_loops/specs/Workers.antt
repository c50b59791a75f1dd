-- What the senders of a worker have sent and kept.
use Rattle.std.specs.Prelude.{◌≡◌, ◌⊎◌, ℕ, ◌-◌, ◌%◌, ◌≤◌, Bool, true, false, ◌&&◌, nat_eq, nat_lt, Option, Some, None, IfSome, find, is_none}
use Rattle.edr_items.specs.declared.Sensor.{Sensor}
use Rattle.edr_items.specs.Sensor.{number_of}
use Rattle.edr_items.specs.PerSlowSensor.{EachSlow, slow_at, slow_value_of, slow_values_by}
use Rattle.edr_items.specs.SensorLists.{SensorLists, horizon_of, items_of, sensors}
use Rattle.edr_board.specs.Seats.{status_seen}
use Rattle.edr_board.specs.Gates.{gate_number}
use Rattle.edr_board.specs.declared.status.GateWord.TheVariants.{End}
use Rattle.edr_loops.specs.declared.per_fast_sensor.PerFastSensor.{PerFastSensor}
use Rattle.edr_loops.specs.PerFastSensor.{EachFast, fast_at, fast_values_by, sensor_of}
use Rattle.edr_loops.specs.Lanes.{FastSenders}
use Rattle.edr_loops.specs.declared.worker.SlowSenders.{SlowSenders}
use Rattle.edr_loops.specs.declared.worker.Stand.{Stand}
use Rattle.edr_loops.specs.declared.slow_sender.SlowSender.{SlowSender}
use Rattle.edr_loops.specs.Hands.{GoesHere, IsDealt, either, if_served}
use Rattle.edr_loops.specs.FastSenders.{HasSent, HasSentAll, SendsOn}
use Rattle.edr_loops.specs.SlowSenders.{IsKeeping, KeepsOn}

-- each fast sensor's sender has sent first items of its list
abbrev pub AreFastBegun : SensorLists → FastSenders → Type 0
AreFastBegun f p = EachFast (λ k. IfSome (fast_at k p) (HasSent (items_of (sensor_of k) f)))

-- the same senders later
abbrev pub FastGoOn : SensorLists → FastSenders → FastSenders → Type 0
FastGoOn f a b = EachFast (λ k. GoesHere (SendsOn (items_of (sensor_of k) f)) (fast_at k a) (fast_at k b))

-- each slow sensor's sender has kept first items of its list, and sent parts of beginnings of it
abbrev pub AreSlowSenders : SensorLists → SlowSenders → Type 0
AreSlowSenders f p = EachSlow (λ s. IfSome (slow_at s p.each) (IsKeeping s (items_of s f)))

-- the same senders later
abbrev pub SlowKeepOn : SensorLists → SlowSenders → SlowSenders → Type 0
SlowKeepOn f a b = EachSlow (λ s. GoesHere (KeepsOn s (items_of s f)) (slow_at s a.each) (slow_at s b.each))

-- ---- when a loop has ended

-- the senders of the fast sensors that are at this worker have sent all of their feeds
abbrev pub HaveNoneLeft : SensorLists → FastSenders → Type 0
HaveNoneLeft f p = EachFast (λ k. IfSome (fast_at k p) (HasSentAll (sensor_of k) (items_of (sensor_of k) f)))

-- whether there is a sender for that sensor, where it is a slow one
abbrev pub is_a_sender : Option (Option SlowSender) → Bool
is_a_sender None = false
is_a_sender (Some None) = false
is_a_sender (Some (Some p)) = true

-- no slow sensor is at this worker
abbrev pub has_no_sender : SlowSenders → Bool
has_no_sender p = is_none (find (λ s. is_a_sender (slow_value_of s p.each)) sensors)

-- a worker's loop has ended: the board says that the work goes on without it, or its fast sensors have sent all, and no slow one is
-- at it or the horizon is closed
abbrev pub WorkerHasEnded : SensorLists → Stand → Type 0
WorkerHasEnded f s =
    ((status_seen s.watch).stopped ≡ true) ⊎ ((status_seen s.watch).gate ≡ gate_number End)
    ⊎ (HaveNoneLeft f s.senders.fast × ((has_no_sender s.senders.slow ≡ true) ⊎ (horizon_of f ≤ (status_seen s.watch).closed)))

-- ---- how senders are dealt

-- of two hands one has each sender
abbrev pub AreFastDealt : {A : Type 0} → PerFastSensor (Option A) → PerFastSensor (Option A) → PerFastSensor (Option A) → Type 0
AreFastDealt old mine rest = EachFast (λ k. IsDealt (fast_at k old) (fast_at k mine) (fast_at k rest))

-- the same of the slow sensors
abbrev pub AreSlowDealt : SlowSenders → SlowSenders → SlowSenders → Type 0
AreSlowDealt old mine rest = EachSlow (λ s. IsDealt (slow_at s old.each) (slow_at s mine.each) (slow_at s rest.each))

-- ---- the senders of one worker

-- worker w of so many serves the sensor: that of number i is at the worker (i - 1) mod workers
abbrev pub is_served_by : ℕ → ℕ → Sensor → Bool
is_served_by w workers s = nat_lt 0 workers && nat_eq ((number_of s - 1) % workers) w

-- the senders of that worker
abbrev pub fast_of_worker : {A : Type 0} → ℕ → ℕ → PerFastSensor (Option A) → PerFastSensor (Option A)
fast_of_worker w workers p = fast_values_by (λ k. if_served (is_served_by w workers (sensor_of k)) (fast_at k p))

abbrev pub slow_of_worker : ℕ → ℕ → SlowSenders → SlowSenders
slow_of_worker w workers p = record { each = slow_values_by (λ s. if_served (is_served_by w workers s) (slow_at s p.each)) }

-- ---- how they are put together again

abbrev pub either_fast : {A : Type 0} → PerFastSensor (Option A) → PerFastSensor (Option A) → PerFastSensor (Option A)
either_fast a b = fast_values_by (λ k. either (fast_at k a) (fast_at k b))

abbrev pub either_slow : SlowSenders → SlowSenders → SlowSenders
either_slow a b = record { each = slow_values_by (λ s. either (slow_at s a.each) (slow_at s b.each)) }
