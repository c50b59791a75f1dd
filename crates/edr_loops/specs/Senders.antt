-- What the senders of all sensors have sent and kept.
use Rattle.std.specs.Prelude.{ℕ}
use Rattle.edr_items.specs.SensorLists.{SensorLists}
use Rattle.edr_loops.specs.declared.worker.Senders.{Senders}
use Rattle.edr_loops.specs.Workers.{AreFastBegun, AreFastDealt, AreSlowSenders, AreSlowDealt, FastGoOn, SlowKeepOn, either_fast, either_slow, fast_of_worker, slow_of_worker}

-- each sender has sent or kept first items of its list, and sent parts of beginnings of it
pub record HaveBegun (f : SensorLists) (p : Senders) : Type 0 where
  pub fast : AreFastBegun f p.fast
  pub slow : AreSlowSenders f p.slow

-- the same senders later
pub record HaveGoneOn (f : SensorLists) (a b : Senders) : Type 0 where
  pub fast : FastGoOn f a.fast b.fast
  pub slow : SlowKeepOn f a.slow b.slow

-- of two hands one has each sender
pub record AreAllDealt (old mine rest : Senders) : Type 0 where
  pub fast : AreFastDealt old.fast mine.fast rest.fast
  pub slow : AreSlowDealt old.slow mine.slow rest.slow

-- the senders of worker w of so many
abbrev pub all_of_worker : ℕ → ℕ → Senders → Senders
all_of_worker w workers p = record {
  fast = fast_of_worker w workers p.fast;
  slow = slow_of_worker w workers p.slow;
}

abbrev pub either_all : Senders → Senders → Senders
either_all a b = record { fast = either_fast a.fast b.fast; slow = either_slow a.slow b.slow }
