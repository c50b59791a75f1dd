-- What is decided at a tick does not depend on later samples.
use Rattle.std.proofs.Common.{arith, refl, ap, sym, ◌≡◌, ◌∙◌, ℕ, zero, suc, ◌+◌, ◌-◌, ◌<◌, ◌≤◌, max, Bool, cond, ℤ, pos, unwrap_or, unsigned_abs, Some, None, Option, MatchOption, map, find, not, nat_eq, ◌%◌}
use Rattle.std.specs.List.{range_with_len}
use Rattle.edr_definitions.specs.Ticks.{ticks, first_tick, IsFirst, HoldsNowhere, greatest, greatest_of, int_sum}
use Rattle.edr_definitions.specs.Signals.{Signals}
use Rattle.edr_definitions.specs.Windows.{change_at, delta_v, size_of_change, largest_change, swing, filled_signals}
use Rattle.edr_definitions.specs.Selection.{Bounds, is_triggered, is_time_zero, is_end, Candidate}
use Rattle.edr_definitions.specs.Commands.{is_locking}
use Rattle.edr_definitions.specs.Facts.{IsCandidate, AgreeUpTo}

-- ---- lists over ticks
pub map_agree : {X : Type 0} (f g : ℕ → X) → (n a : ℕ) → ((u : ℕ) → a ≤ u → u < a + n → f u ≡ g u) → map f (range_with_len a n) ≡ map g (range_with_len a n)
map_agree f g zero a same = refl
map_agree f g (suc n) a same =
    let here : f a ≡ g a = same a (omega arith) (omega arith) in
    let rest = map_agree f g n (a + 1) (λ u lo hi. same u (omega arith) (omega arith)) in cc

pub map-ticks-agree : {X : Type 0} (f g : ℕ → X) → (a b : ℕ) → ((u : ℕ) → a ≤ u → u < b → f u ≡ g u) → map f (ticks a b) ≡ map g (ticks a b)
map-ticks-agree f g a b same = map_agree f g (b - a) a (λ u lo hi. same u lo (omega arith))

find_agree : (p q : ℕ → Bool) → (n a : ℕ) → ((u : ℕ) → a ≤ u → u < a + n → p u ≡ q u) → find p (range_with_len a n) ≡ find q (range_with_len a n)
find_agree p q zero a same = refl
find_agree p q (suc n) a same =
    let here : p a ≡ q a = same a (omega arith) (omega arith) in
    let rest : find p (range_with_len (a + 1) n) ≡ find q (range_with_len (a + 1) n) = find_agree p q n (a + 1) (λ u lo hi. same u (omega arith) (omega arith)) in
    ap (λ b. cond b (Some a) (find p (range_with_len (a + 1) n))) here ∙ ap (λ r. cond (q a) (Some a) r) rest

pub first_tick-agree : (p q : ℕ → Bool) (a b : ℕ) → ((u : ℕ) → a ≤ u → u < b → p u ≡ q u) → first_tick p a b ≡ first_tick q a b
unfolding first_tick
first_tick-agree p q a b same = find_agree p q (b - a) a (λ u lo hi. same u lo (omega arith))

pub IsFirst-agree : (p q : ℕ → Bool) (a t : ℕ) → ((u : ℕ) → a ≤ u → u ≤ t → p u ≡ q u) → IsFirst p a t → IsFirst q a t
IsFirst-agree p q a t same first = record {
  from = first.from;
  holds = sym (same t first.from (omega arith)) ∙ first.holds;
  none_before = λ u lo hi. sym (same u lo (omega arith)) ∙ first.none_before u lo hi;
}

pub HoldsNowhere-agree : (p q : ℕ → Bool) (a b : ℕ) → ((u : ℕ) → a ≤ u → u < b → p u ≡ q u) → HoldsNowhere p a b → HoldsNowhere q a b
HoldsNowhere-agree p q a b same nowhere = record { none = λ u lo hi. sym (same u lo hi) ∙ nowhere.none u lo hi }

-- ---- changes
pub delta_v-agree : (f g : ℕ → Option ℤ) (s t : ℕ) → ((u : ℕ) → u ≤ t → f u ≡ g u) → delta_v f s t ≡ delta_v g s t
unfolding delta_v
delta_v-agree f g s t same = ap int_sum (map-ticks-agree (change_at f) (change_at g) (s + 1) (t + 1) (λ u lo hi. ap (λ r. unwrap_or r (pos 0)) (same u (omega arith))))

pub swing-agree : (f g : ℕ → Option ℤ) (k from t : ℕ) → ((u : ℕ) → u ≤ t → f u ≡ g u) → swing f k from t ≡ swing g k from t
unfolding swing largest_change greatest
swing-agree f g k from t same = ap greatest_of (map-ticks-agree (λ s. size_of_change f s t) (λ s. size_of_change g s t) (max from (t - k)) t (λ s lo hi. ap unsigned_abs (delta_v-agree f g s t same)))

-- ---- tests
pub AgreeUpTo-before : (t u : ℕ) (m n : Signals) → u ≤ t → AgreeUpTo t m n → AgreeUpTo u m n
AgreeUpTo-before t u m n h same = record {
  along = λ v lo. same.along v (omega arith);
  across = λ v lo. same.across v (omega arith);
  fired = λ v lo. same.fired v (omega arith);
}

pub is_triggered-agree : (m n : Signals) (since t : ℕ) → AgreeUpTo t m n → is_triggered m since t ≡ is_triggered n since t
unfolding is_triggered
is_triggered-agree m n since t same =
    let fired : m.fired t ≡ n.fired t = same.fired t (omega arith) in
    let along : swing m.along 150 since t ≡ swing n.along 150 since t = swing-agree m.along n.along 150 since t same.along in
    let across : swing m.across 150 since t ≡ swing n.across 150 since t = swing-agree m.across n.across 150 since t same.across in rw (fired, along, across) refl

pub is_time_zero-agree : (m n : Signals) (from : Bounds) (t : ℕ) → AgreeUpTo t m n → is_time_zero m from t ≡ is_time_zero n from t
unfolding is_time_zero
is_time_zero-agree m n from t same =
    let trigger : is_triggered m from.since t ≡ is_triggered n from.since t = is_triggered-agree m n from.since t same in
    let along : swing m.along 20 from.after t ≡ swing n.along 20 from.after t = swing-agree m.along n.along 20 from.after t same.along in
    let across : swing m.across 5 from.after t ≡ swing n.across 5 from.after t = swing-agree m.across n.across 5 from.after t same.across in rw (trigger, along, across) refl

pub is_end-agree : (m n : Signals) (z t : ℕ) → AgreeUpTo t m n → is_end m z t ≡ is_end n z t
unfolding is_end
is_end-agree m n z t same =
    let along : delta_v m.along (t - 20) t ≡ delta_v n.along (t - 20) t = delta_v-agree m.along n.along (t - 20) t same.along in
    let across : delta_v m.across (t - 20) t ≡ delta_v n.across (t - 20) t = delta_v-agree m.across n.across (t - 20) t same.across in rw (along, across) refl

-- up to the tick t the four tests have the same answers
pub record SameTests (t : ℕ) (m n : Signals) : Type 0 where
  pub zero : (b : Bounds) (u : ℕ) → u ≤ t → is_time_zero m b u ≡ is_time_zero n b u
  pub trigger : (since u : ℕ) → u ≤ t → is_triggered m since u ≡ is_triggered n since u
  pub lock : (u : ℕ) → u ≤ t → is_locking m u ≡ is_locking n u
  pub end : (z u : ℕ) → u ≤ t → is_end m z u ≡ is_end n z u

pub SameTests-before : (t u : ℕ) (m n : Signals) → u ≤ t → SameTests t m n → SameTests u m n
SameTests-before t u m n near same = record {
  zero = λ b v h. same.zero b v (omega arith);
  trigger = λ since v h. same.trigger since v (omega arith);
  lock = λ v h. same.lock v (omega arith);
  end = λ z v h. same.end z v (omega arith);
}

pub SameTests-then : (t : ℕ) (m n o : Signals) → SameTests t m n → SameTests t n o → SameTests t m o
SameTests-then t m n o p q = record {
  zero = λ b u h. p.zero b u h ∙ q.zero b u h;
  trigger = λ since u h. p.trigger since u h ∙ q.trigger since u h;
  lock = λ u h. p.lock u h ∙ q.lock u h;
  end = λ z u h. p.end z u h ∙ q.end z u h;
}

pub SameTests-back : (t : ℕ) (m n : Signals) → SameTests t m n → SameTests t n m
SameTests-back t m n p = record {
  zero = λ b u h. sym (p.zero b u h);
  trigger = λ since u h. sym (p.trigger since u h);
  lock = λ u h. sym (p.lock u h);
  end = λ z u h. sym (p.end z u h);
}

-- signals that agree have the same tests
pub SameTests-agree : (t : ℕ) (m n : Signals) → AgreeUpTo t m n → SameTests t m n
SameTests-agree t m n same = record {
  zero = λ b u h. is_time_zero-agree m n b u (AgreeUpTo-before t u m n h same);
  trigger = λ since u h. is_triggered-agree m n since u (AgreeUpTo-before t u m n h same);
  lock = λ u h. ap (λ k. not (nat_eq (k % 64) 0)) (same.fired u h);
  end = λ z u h. is_end-agree m n z u (AgreeUpTo-before t u m n h same);
}

-- a sample of 0 is as good as none
pub SameTests-filled : (t : ℕ) (m : Signals) → SameTests t (filled_signals m) m
unfolding is_time_zero is_triggered is_end swing largest_change greatest delta_v
SameTests-filled t m = record { zero = λ b u h. refl; trigger = λ since u h. refl; lock = λ u h. refl; end = λ z u h. refl }

-- ---- candidates
confirmed_match : (t : ℕ) (m n : Signals) → SameTests t m n → (since z e : ℕ) (r : Option ℕ) → e ≤ t → MatchOption r (HoldsNowhere (is_triggered m since) z (e + 1)) (λ x. IsFirst (is_triggered m since) z x × (x ≤ e)) → MatchOption r (HoldsNowhere (is_triggered n since) z (e + 1)) (λ x. IsFirst (is_triggered n since) z x × (x ≤ e))
confirmed_match t m n same since z e None near nowhere = HoldsNowhere-agree (is_triggered m since) (is_triggered n since) z (e + 1) (λ u lo hi. same.trigger since u (omega arith)) nowhere
confirmed_match t m n same since z e (Some x) near found = (IsFirst-agree (is_triggered m since) (is_triggered n since) z x (λ u lo hi. same.trigger since u (omega (arith, found.1))) found.0, found.1)

-- a candidate that has ended stays one for signals with the same tests so far
pub IsCandidate-tests : (t : ℕ) (m n : Signals) → SameTests t m n → (from : Bounds) (c : Candidate) → c.end_tick ≤ t → IsCandidate m from c → IsCandidate n from c
IsCandidate-tests t m n same from c near is =
    let order = is.end_is.from in
    record {
      zero_is = IsFirst-agree (is_time_zero m from) (is_time_zero n from) 0 c.zero_tick (λ u lo hi. same.zero from u (omega arith)) is.zero_is;
      end_is = IsFirst-agree (is_end m c.zero_tick) (is_end n c.zero_tick) c.zero_tick c.end_tick (λ u lo hi. same.end c.zero_tick u (omega arith)) is.end_is;
      confirmed_is = confirmed_match t m n same from.since c.zero_tick c.end_tick c.confirmed near is.confirmed_is;
    }

-- so it stays one whatever comes later
pub IsCandidate-agree : (m n : Signals) (from : Bounds) (c : Candidate) → AgreeUpTo c.end_tick m n → IsCandidate m from c → IsCandidate n from c
IsCandidate-agree m n from c same is = IsCandidate-tests c.end_tick m n (SameTests-agree c.end_tick m n same) from c (omega arith) is

-- agreement goes both ways
pub AgreeUpTo-sym : (t : ℕ) (m n : Signals) → AgreeUpTo t m n → AgreeUpTo t n m
AgreeUpTo-sym t m n same = record {
  along = λ u h. sym (same.along u h);
  across = λ u h. sym (same.across u h);
  fired = λ u h. sym (same.fired u h);
}
