-- The senders of all sensors that go on, and how they are dealt.
use Rattle.std.proofs.Common.{◌≡◌, subst, sym}
use Rattle.edr_items.specs.declared.Sensor.{Sensor}
use Rattle.edr_items.specs.PerSlowSensor.{slow_at}
use Rattle.edr_items.specs.SensorLists.{SensorLists, items_of}
use Rattle.edr_items.proofs.PerSlowSensorLemmas.{slow_at-by}
use Rattle.edr_loops.specs.declared.fast_sender.FastSender.{FastSender}
use Rattle.edr_loops.specs.declared.per_fast_sensor.FastSensor.{FastSensor}
use Rattle.edr_loops.specs.declared.per_fast_sensor.FastSensor.TheVariants.{Along, Across, Restraint}
use Rattle.edr_loops.specs.declared.slow_sender.SlowSender.{SlowSender}
use Rattle.edr_loops.specs.declared.worker.Senders.{Senders}
use Rattle.edr_loops.specs.declared.worker.Stand.{Stand}
use Rattle.edr_loops.specs.FastSenders.{HasSent, SendsOn}
use Rattle.edr_loops.specs.Hands.{GoesHere, either}
use Rattle.edr_loops.specs.PerFastSensor.{fast_at, sensor_of}
use Rattle.edr_loops.specs.SlowSenders.{IsKeeping, KeepsOn}
use Rattle.edr_loops.specs.Senders.{AreAllDealt, HaveBegun, HaveGoneOn, either_all}
use Rattle.edr_loops.proofs.HandLemmas.{dealt-goes, dealt-here, each-fast, here-begun, here-self, of-each}

-- what a sensor's sender has done of its list, and how it goes on
module _ (f : SensorLists) where
  abbrev Sent : FastSensor → FastSender → Type 0
  Sent k p = HasSent (items_of (sensor_of k) f) p

  abbrev Sends : FastSensor → FastSender → FastSender → Type 0
  Sends k a b = SendsOn (items_of (sensor_of k) f) a b

  abbrev Kept : Sensor → SlowSender → Type 0
  Kept s p = IsKeeping s (items_of s f) p

  abbrev Keeps : Sensor → SlowSender → SlowSender → Type 0
  Keeps s a b = KeepsOn s (items_of s f) a b

  pub all-begun : (a b : Senders) → HaveGoneOn f a b → HaveBegun f b
  all-begun a b h = record {
    fast = each-fast _ (λ k. here-begun (Sent k) (Sends k) (λ p q goes. goes.1) (fast_at k a.fast) (fast_at k b.fast) (of-each _ h.fast k));
    slow = λ s slow. here-begun (Kept s) (Keeps s) (λ p q goes. goes.1) (slow_at s a.slow.each) (slow_at s b.slow.each) (h.slow s slow);
  }

  pub all-self : (a : Senders) → HaveBegun f a → HaveGoneOn f a a
  all-self a h = record {
    fast = each-fast _ (λ k. here-self (Sent k) (Sends k) (λ p sent. (search, sent)) (fast_at k a.fast) (of-each _ h.fast k));
    slow = λ s slow. here-self (Kept s) (Keeps s) (λ p kept. (search, kept)) (slow_at s a.slow.each) (h.slow s slow);
  }

  pub dealt-mine : (a m r : Senders) → HaveBegun f a → AreAllDealt a m r → HaveBegun f m
  dealt-mine a m r h d = record {
    fast = each-fast _ (λ k. (dealt-here (Sent k) (fast_at k a.fast) (fast_at k m.fast) (fast_at k r.fast) (of-each _ h.fast k) (of-each _ d.fast k)).0);
    slow = λ s slow. (dealt-here (Kept s) (slow_at s a.slow.each) (slow_at s m.slow.each) (slow_at s r.slow.each) (h.slow s slow) (d.slow s slow)).0;
  }

  pub dealt-rest : (a m r : Senders) → HaveBegun f a → AreAllDealt a m r → HaveBegun f r
  dealt-rest a m r h d = record {
    fast = each-fast _ (λ k. (dealt-here (Sent k) (fast_at k a.fast) (fast_at k m.fast) (fast_at k r.fast) (of-each _ h.fast k) (of-each _ d.fast k)).1);
    slow = λ s slow. (dealt-here (Kept s) (slow_at s a.slow.each) (slow_at s m.slow.each) (slow_at s r.slow.each) (h.slow s slow) (d.slow s slow)).1;
  }

  pub dealt-on : (a m r m' r' : Senders) → AreAllDealt a m r → HaveGoneOn f m m' → HaveGoneOn f r r' → HaveGoneOn f a (either_all r' m')
  dealt-on a m r m' r' d h k = record {
    fast =
        let on = λ (q : FastSensor). dealt-goes (Sends q) (fast_at q a.fast) (fast_at q m.fast) (fast_at q r.fast) (fast_at q m'.fast) (fast_at q r'.fast) (of-each _ d.fast q) (of-each _ h.fast q) (of-each _ k.fast q) in
        record { along = on Along; across = on Across; restraint = on Restraint };
    slow = λ s slow. subst (GoesHere (Keeps s) (slow_at s a.slow.each)) (sym (slow_at-by (λ q. either (slow_at q r'.slow.each) (slow_at q m'.slow.each)) s slow))
        (dealt-goes (Keeps s) (slow_at s a.slow.each) (slow_at s m.slow.each) (slow_at s r.slow.each) (slow_at s m'.slow.each) (slow_at s r'.slow.each) (d.slow s slow) (h.slow s slow) (k.slow s slow));
  }

-- what a worker's handle promises, of the senders that went in
pub back-on : (f f' : SensorLists) (stand before back : Stand) → HaveGoneOn f' before.senders back.senders → before ≡ stand → f' ≡ f → HaveGoneOn f stand.senders back.senders
back-on f f' stand before back h was same =
    subst (λ (l : SensorLists). HaveGoneOn l stand.senders back.senders) same (subst (λ (s : Stand). HaveGoneOn f' s.senders back.senders) was h)
