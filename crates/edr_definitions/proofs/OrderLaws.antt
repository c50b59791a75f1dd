-- Commands stand by tick, and at one tick as Take, Lock, Done.
use Rattle.std.proofs.Common.{arith, refl, ap, sym, ◌≡◌, ◌∙◌, ℕ, ◌+◌, ◌*◌, ◌<◌, ◌≤◌, ◌⊎◌, inl, inr, Bool, true, false, cond, nat_le, nat_eq, Some, None, Option, List, [], ◌∷◌, ◌++◌, map, filter}
use Rattle.std.specs.Prelude.{flat_map, zip}
use Rattle.std.proofs.lemmas.Bool.{cases_lt}
use Rattle.std.proofs.lemmas.List.{map-append, append_cancel_left}
use Rattle.edr_items.specs.SensorLists.{SensorLists}
use Rattle.edr_record.specs.declared.Place.{Place}
use Rattle.edr_record.specs.declared.Command.{Command}
use Rattle.edr_record.specs.declared.Command.TheVariants.{Take, Lock, Done}
use Rattle.edr_record.specs.Parts.{PrePart}
use Rattle.edr_definitions.specs.Signals.{signals_of}
use Rattle.edr_definitions.specs.Selection.{Event, events, close_of}
use Rattle.edr_definitions.specs.Parts.{pre_part, crash_part}
use Rattle.edr_definitions.specs.Commands.{Issue, issue_at, locks_at, lock_of, issues_of, places, zeros_by, all_issues, issues, commands, rank_of, order_of, InOrder}
use Rattle.edr_definitions.specs.Facts.{IsEventAfter, AreEventsAfter}
use Rattle.edr_definitions.proofs.FactLaws.{nat_le_not}
use Rattle.edr_definitions.proofs.EventLaws.{events-follow}
use Rattle.edr_definitions.proofs.WithinLaws.{issues-within}

rank_small : (c : Command) → rank_of c ≤ 2
rank_small (Take p) = omega arith
rank_small (Lock p) = omega arith
rank_small (Done p) = omega arith

-- ---- lists in order
pub InOrder-before : (a b : ℕ) (xs : List Issue) → a ≤ b → InOrder b xs → InOrder a xs
InOrder-before a b [] le h = tt
InOrder-before a b (x ∷ xs) le h = (omega (arith, h.0), h.1)

filter_in_order : (p : Issue → Bool) (a : ℕ) (xs : List Issue) → InOrder a xs → InOrder a (filter p xs)
filter_in_order p a [] h = tt
filter_in_order p a (x ∷ xs) h = by_test (filter_in_order p (order_of x + 1) xs h.1) (p x) where
  by_test : InOrder (order_of x + 1) (filter p xs) → (b : Bool) → InOrder a (cond b (x ∷ filter p xs) (filter p xs))
  by_test rest true = (h.0, rest)
  by_test rest false = let first = h.0 in InOrder-before a (order_of x + 1) (filter p xs) (omega arith) rest

-- ---- the issues of a cycle are in order
module _ (f : SensorLists) (n : ℕ) where
  event_in_order : (w after a : ℕ) (e : Event) (p : Place) (rest : List Issue) → a ≤ 3 * (after + 1) → IsEventAfter (signals_of f) w after e → InOrder (3 * (close_of e.zero_tick e.end_tick + 1)) rest → InOrder a (issues_of f n (e, p) ++ rest)
  unfolding issues_of
  event_in_order w after a e p rest near is h = by_lock (lock_of (signals_of f) e.zero_tick e.end_tick) refl where
    pre : PrePart
    pre = pre_part f n p e.zero_tick

    close : ℕ
    close = close_of e.zero_tick e.end_tick

    begins : a ≤ 3 * e.confirmed_tick
    begins = let past = is.zero_is_past in let from = is.confirmed_from_zero in omega (arith, near, past, from)

    ends : e.confirmed_tick ≤ close_of e.zero_tick e.end_tick
    ends = let by = is.confirmed_by_end in let past = is.closes_past_end in omega (arith, by, past)

    done_then : InOrder (3 * close_of e.zero_tick e.end_tick + 2 + 1) rest
    done_then = InOrder-before (3 * close_of e.zero_tick e.end_tick + 2 + 1) (3 * (close_of e.zero_tick e.end_tick + 1)) rest (omega arith) h

    by_lock : (r : Option ℕ) → lock_of (signals_of f) e.zero_tick e.end_tick ≡ r → InOrder a ((record { tick = e.confirmed_tick; command = Take (pre_part f n p e.zero_tick) } ∷ (locks_at (pre_part f n p e.zero_tick) r ++ record { tick = close_of e.zero_tick e.end_tick; command = Done (crash_part (signals_of f) e.zero_tick e.end_tick) } ∷ [])) ++ rest)
    by_lock None is_none = let b = begins in let c = ends in (omega (arith, b), (omega (arith, c), done_then))
    by_lock (Some l) is_some =
        let b = begins in let lock = is.lock_in_event l is_some in let late = lock.0 in let early = lock.1 in
        (omega (arith, b), (omega (arith, late), (omega (arith, early), done_then)))

  events_in_order : (w after a : ℕ) (es : List Event) (ps : List Place) → a ≤ 3 * (after + 1) → AreEventsAfter (signals_of f) w after es → InOrder a (flat_map (issues_of f n) (zip es ps))
  events_in_order w after a [] ps near h = tt
  events_in_order w after a (e ∷ es) [] near h = tt
  events_in_order w after a (e ∷ es) (p ∷ ps) near h =
      let close = close_of e.zero_tick e.end_tick in
      event_in_order w after a e p (flat_map (issues_of f n) (zip es ps)) near h.0 (events_in_order w close (3 * (close + 1)) es ps (omega arith) h.1)

  -- the issues of all events that are confirmed by w
  pub all_issues-in_order : (w : ℕ) → InOrder 0 (all_issues f n w)
  all_issues-in_order w = events_in_order w 0 0 (events (signals_of f) w) (places (zeros_by (signals_of f) w)) (omega arith) (events-follow (signals_of f) w)

  -- those that are issued up to t
  pub issues-in_order : (t : ℕ) → InOrder 0 (issues f n t)
  issues-in_order t = filter_in_order (λ i. nat_le i.tick t) 0 (all_issues f n t) (all_issues-in_order t)

-- ---- one more tick
-- past a tick nothing was issued up to it
none_by : (t a : ℕ) (xs : List Issue) → 3 * (t + 1) ≤ a → InOrder a xs → filter (λ i. nat_le i.tick t) xs ≡ []
none_by t a [] late h = refl
none_by t a (x ∷ xs) late h =
    let first = h.0 in let small = rank_small x.command in
    let b : nat_le x.tick t ≡ false = nat_le_not x.tick t (omega arith) in
    rw b (none_by t (order_of x + 1) xs (omega arith) h.1)

-- and what is issued up to the next tick is issued there
only_then : (t a : ℕ) (xs : List Issue) → 3 * (t + 1) ≤ a → InOrder a xs → filter (λ i. nat_le i.tick (t + 1)) xs ≡ filter (λ i. nat_eq i.tick (t + 1)) xs
only_then t a [] late h = refl
only_then t a (x ∷ xs) late h =
    let first = h.0 in let small = rank_small x.command in
    let same : nat_le x.tick (t + 1) ≡ nat_eq x.tick (t + 1) = both x.tick (omega arith) in
    let rest : filter (λ i. nat_le i.tick (t + 1)) xs ≡ filter (λ i. nat_eq i.tick (t + 1)) xs = only_then t (order_of x + 1) xs (omega arith) h.1 in
    ap (λ (b : Bool). cond b (x ∷ filter (λ i. nat_le i.tick (t + 1)) xs) (filter (λ i. nat_le i.tick (t + 1)) xs)) same
    ∙ ap (λ ys. cond (nat_eq x.tick (t + 1)) (x ∷ ys) ys) rest where
      both : (k : ℕ) → t < k → nat_le k (t + 1) ≡ nat_eq k (t + 1)
      both k h = grind arith

pub issues-split : (t a : ℕ) (xs : List Issue) → InOrder a xs → filter (λ i. nat_le i.tick (t + 1)) xs ≡ filter (λ i. nat_le i.tick t) xs ++ filter (λ i. nat_eq i.tick (t + 1)) xs
issues-split t a [] h = refl
issues-split t a (x ∷ xs) h = by_time (issues-split t (order_of x + 1) xs h.1) (cases_lt t x.tick) where
  early : (k : ℕ) → k ≤ t → (nat_le k (t + 1) ≡ true) × (nat_le k t ≡ true) × (nat_eq k (t + 1) ≡ false)
  early k h = (grind arith, grind arith, grind arith)

  by_time : filter (λ i. nat_le i.tick (t + 1)) xs ≡ filter (λ i. nat_le i.tick t) xs ++ filter (λ i. nat_eq i.tick (t + 1)) xs → (t < x.tick) ⊎ (x.tick ≤ t) → filter (λ i. nat_le i.tick (t + 1)) (x ∷ xs) ≡ filter (λ i. nat_le i.tick t) (x ∷ xs) ++ filter (λ i. nat_eq i.tick (t + 1)) (x ∷ xs)
  by_time rest (inl late) =
      let all : InOrder (3 * (t + 1)) (x ∷ xs) = (omega arith, h.1) in
      only_then t (3 * (t + 1)) (x ∷ xs) (omega arith) all
      ∙ ap (λ ys. ys ++ filter (λ i. nat_eq i.tick (t + 1)) (x ∷ xs)) (sym (none_by t (3 * (t + 1)) (x ∷ xs) (omega arith) all))
  by_time rest (inr near) =
      let b = early x.tick near in let b0 = b.0 in let b1 = b.1 in let b2 = b.2 in
      rw (b0, b1, b2) (ap (λ ys. x ∷ ys) rest)

-- what is issued up to the next tick is that up to this one and then that of the next tick
pub issues-more : (f : SensorLists) (n t : ℕ) → issues f n (t + 1) ≡ issues f n t ++ filter (λ i. nat_eq i.tick (t + 1)) (all_issues f n (t + 1))
issues-more f n t =
    let all = all_issues f n (t + 1) in
    issues-split t 0 all (all_issues-in_order f n (t + 1))
    ∙ ap (λ is. is ++ filter (λ i. nat_eq i.tick (t + 1)) all) (issues-within f n t (t + 1) (omega arith))

pub commands-more : (f : SensorLists) (n t : ℕ) → commands f n (t + 1) ≡ commands f n t ++ map (λ i. i.command) (filter (λ i. nat_eq i.tick (t + 1)) (all_issues f n (t + 1)))
unfolding commands
commands-more f n t =
    ap (map (λ i. i.command)) (issues-more f n t)
    ∙ map-append (λ (i : Issue). i.command) (issues f n t) (filter (λ i. nat_eq i.tick (t + 1)) (all_issues f n (t + 1)))

-- issues of one tick are their commands at that tick
issues-at : (t : ℕ) (is : List Issue) → filter (λ i. nat_eq i.tick t) is ≡ map (issue_at t) (map (λ i. i.command) (filter (λ i. nat_eq i.tick t) is))
issues-at t [] = refl
issues-at t (i ∷ is) = by_tick (issues-at t is) (nat_eq i.tick t) refl where
  same_tick : (k : ℕ) → nat_eq k t ≡ true → k ≡ t
  same_tick k e = grind arith

  by_tick : filter (λ i. nat_eq i.tick t) is ≡ map (issue_at t) (map (λ i. i.command) (filter (λ i. nat_eq i.tick t) is)) → (v : Bool) → nat_eq i.tick t ≡ v → cond v (i ∷ filter (λ i. nat_eq i.tick t) is) (filter (λ i. nat_eq i.tick t) is) ≡ map (issue_at t) (map (λ i. i.command) (cond v (i ∷ filter (λ i. nat_eq i.tick t) is) (filter (λ i. nat_eq i.tick t) is)))
  by_tick rest false e = rest
  by_tick rest true e =
      ap (λ ys. i ∷ ys) rest
      ∙ ap (λ k. issue_at k i.command ∷ map (issue_at t) (map (λ i. i.command) (filter (λ i. nat_eq i.tick t) is))) (same_tick i.tick e)

-- the commands that a tick adds are issued at it
pub issues-added : (f : SensorLists) (n t : ℕ) (added : List Command) → commands f n (t + 1) ≡ commands f n t ++ added → issues f n (t + 1) ≡ issues f n t ++ map (issue_at (t + 1)) added
issues-added f n t added h =
    let now = filter (λ i. nat_eq i.tick (t + 1)) (all_issues f n (t + 1)) in
    let same : map (λ i. i.command) now ≡ added = append_cancel_left (commands f n t) (map (λ i. i.command) now) added (sym (commands-more f n t) ∙ h) in
    issues-more f n t ∙ ap (λ is. issues f n t ++ is) (issues-at (t + 1) (all_issues f n (t + 1)) ∙ ap (map (issue_at (t + 1))) same)
