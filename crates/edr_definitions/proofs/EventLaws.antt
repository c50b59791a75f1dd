-- How the ticks of candidates and of events lie.
use Rattle.std.proofs.Common.{arith, ◌≡◌, ℕ, ◌+◌, ◌<◌, ◌≤◌, inl, inr, Bool, true, false, cond, nat_le, refl, Some, None, Option, MatchOption, List, [], ◌∷◌, subst}
use Rattle.std.specs.Prelude.{filter_map}
use Rattle.std.specs.List.{cons_option}
use Rattle.std.proofs.lemmas.Bool.{cases_lt}
use Rattle.edr_record.specs.declared.TheConstants.{RESET}
use Rattle.edr_definitions.specs.Ticks.{IsFirst, HoldsNowhere}
use Rattle.edr_definitions.specs.Signals.{Signals}
use Rattle.edr_definitions.specs.Selection.{Bounds, is_triggered, is_time_zero, is_end, Candidate, Event, bounds_after, close_of, event_of, chain, events, at_start}
use Rattle.edr_definitions.specs.Commands.{is_locking, lock_of}
use Rattle.edr_definitions.specs.Facts.{IsCandidate, IsChain, AreEventsAfter}
use Rattle.edr_definitions.proofs.TickLaws.{not_both, first_tick-some}
use Rattle.edr_definitions.proofs.SelectionLaws.{is_time_zero-early, is_end-early, is_end-reset, chain-is_chain}
use Rattle.edr_definitions.proofs.LockLaws.{lock-after}

-- ---- one candidate
-- a time zero is past the bound
pub zero-past : (m : Signals) (from : Bounds) (c : Candidate) → IsCandidate m from c → from.after < c.zero_tick
zero-past m from c is = elim (cases_lt from.after c.zero_tick) [
  | inl past ↦ past
  | inr early ↦ let f = is_time_zero-early m from c.zero_tick early in let g = is.zero_is.holds in absurd (not_both (is_time_zero m from c.zero_tick) f g)
]

-- an end is at least 20 ms after time zero
pub end-after_zero : (m : Signals) (from : Bounds) (c : Candidate) → IsCandidate m from c → c.zero_tick + 20 ≤ c.end_tick
end-after_zero m from c is = elim (cases_lt c.end_tick (c.zero_tick + 20)) [
  | inl early ↦ let f = is_end-early m c.zero_tick c.end_tick early in let g = is.end_is.holds in absurd (not_both (is_end m c.zero_tick c.end_tick) f g)
  | inr late ↦ late
]

-- a candidate ends by the reset
pub end-by_reset : (m : Signals) (from : Bounds) (c : Candidate) → IsCandidate m from c → c.end_tick ≤ c.zero_tick + RESET
end-by_reset m from c is = elim (cases_lt (c.zero_tick + RESET) c.end_tick) [
  | inl late ↦
      let not_there : is_end m c.zero_tick (c.zero_tick + RESET) ≡ false = is.end_is.none_before (c.zero_tick + RESET) (omega arith) late in
      let there = is_end-reset m c.zero_tick in cc
  | inr early ↦ early
]

-- the search goes on past the end
after_end_step : (from : Bounds) (z e : ℕ) (r : Option ℕ) → e ≤ (bounds_after from (record { zero_tick = z; end_tick = e; confirmed = r })).after
after_end_step from z e None = omega arith
after_end_step from z e (Some t) = omega arith

pub after_end : (from : Bounds) (c : Candidate) → c.end_tick ≤ (bounds_after from c).after
after_end from c = after_end_step from c.zero_tick c.end_tick c.confirmed

-- a confirmation is the first trigger, and comes by the end
pub confirmed_first : (m : Signals) (since z e u : ℕ) (r : Option ℕ) → MatchOption r (HoldsNowhere (is_triggered m since) z (e + 1)) (λ x. IsFirst (is_triggered m since) z x × (x ≤ e)) → r ≡ Some u → IsFirst (is_triggered m since) z u × (u ≤ e)
confirmed_first m since z e u None h g = cc
confirmed_first m since z e u (Some x) h g = let k : x ≡ u = cc in subst (λ y. IsFirst (is_triggered m since) z y × (y ≤ e)) k h

-- ---- the events of a chain
module _ (m : Signals) (w : ℕ) where
  AreEventsAfter-before : (a b : ℕ) (es : List Event) → a ≤ b → AreEventsAfter m w b es → AreEventsAfter m w a es
  AreEventsAfter-before a b [] near h = tt
  AreEventsAfter-before a b (e ∷ es) near h = (
    record {
      zero_is_past = let past = h.0.zero_is_past in omega (arith, past);
      confirmed_from_zero = h.0.confirmed_from_zero;
      confirmed_in_time = h.0.confirmed_in_time;
      confirmed_by_end = h.0.confirmed_by_end;
      ends_late = h.0.ends_late;
      ends_by_reset = h.0.ends_by_reset;
      closes_late = h.0.closes_late;
      closes_past_end = h.0.closes_past_end;
      lock_in_event = h.0.lock_in_event;
    },
    h.1,
  )

  -- the lock of an event comes from its confirmation to its close
  lock_in : (since z u e l : ℕ) → IsFirst (is_triggered m since) z u → lock_of m z e ≡ Some l → (u ≤ l) × (l ≤ close_of z e)
  lock_in since z u e l first is =
      let found = first_tick-some (is_locking m) z (close_of z e + 1) l is in
      (lock-after m since z u l first found.0.from found.0.holds, let below = found.1 in omega (arith, below))

  with_event : (a since z e : ℕ) (r : Option ℕ) (es : List Event) → IsCandidate m (record { after = a; since = since }) (record { zero_tick = z; end_tick = e; confirmed = r }) → AreEventsAfter m w (bounds_after (record { after = a; since = since }) (record { zero_tick = z; end_tick = e; confirmed = r })).after es → AreEventsAfter m w a (cons_option (event_of w (record { zero_tick = z; end_tick = e; confirmed = r })) es)
  with_event a since z e None es is later =
      let past = zero-past m (record { after = a; since = since }) (record { zero_tick = z; end_tick = e; confirmed = None }) is in
      let order = is.end_is.from in
      AreEventsAfter-before a e es (omega (arith, past, order)) later
  with_event a since z e (Some u) es is later = by_time (nat_le u w) refl where
    past : a < z
    past = zero-past m (record { after = a; since = since }) (record { zero_tick = z; end_tick = e; confirmed = Some u }) is

    long : z + 20 ≤ e
    long = end-after_zero m (record { after = a; since = since }) (record { zero_tick = z; end_tick = e; confirmed = Some u }) is

    by_time : (b : Bool) → nat_le u w ≡ b → AreEventsAfter m w a (cons_option (cond b (Some (record { zero_tick = z; confirmed_tick = u; end_tick = e })) None) es)
    by_time true in_time = (
      record {
        zero_is_past = past;
        confirmed_from_zero = is.confirmed_is.0.from;
        confirmed_in_time = grind (arith, in_time);
        confirmed_by_end = is.confirmed_is.1;
        ends_late = long;
        ends_by_reset = end-by_reset m (record { after = a; since = since }) (record { zero_tick = z; end_tick = e; confirmed = Some u }) is;
        closes_late = omega (arith, long);
        closes_past_end = omega arith;
        lock_in_event = λ l h. lock_in since z u e l is.confirmed_is.0 h;
      },
      later,
    )
    by_time false late = AreEventsAfter-before a (close_of z e) es (omega (arith, past, long)) later

  chain_events : (from : Bounds) (cs : List Candidate) → IsChain m w from cs → AreEventsAfter m w from.after (filter_map (event_of w) cs)
  chain_events from [] h = tt
  chain_events from (c ∷ cs) h = with_event from.after from.since c.zero_tick c.end_tick c.confirmed (filter_map (event_of w) cs) h.0 (chain_events (bounds_after from c) cs h.2)

  -- the events of a cycle follow one another
  pub events-follow : AreEventsAfter m w 0 (events m w)
  events-follow = chain_events at_start (chain m w) (chain-is_chain m w)
