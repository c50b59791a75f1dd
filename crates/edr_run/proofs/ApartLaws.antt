-- The events of a cycle don't overlap: each has its close before the time zero of the next.
use Rattle.std.proofs.Common.{◌≡◌, refl, subst, arith, ℕ, ◌+◌, ◌<◌, ◌≤◌, Bool, true, false, cond, nat_le, Option, Some, None, List, [], ◌∷◌, map, filter}
use Rattle.std.specs.Prelude.{filter_map, zip, MatchOption}
use Rattle.std.specs.List.{cons_option}
use Rattle.edr_record.specs.declared.Place.{Place}
use Rattle.edr_record.specs.declared.Command.{Command}
use Rattle.edr_definitions.specs.Ticks.{IsFirst, HoldsNowhere}
use Rattle.edr_definitions.specs.Signals.{Signals}
use Rattle.edr_definitions.specs.Selection.{Bounds, Candidate, Event, bounds_after, close_of, event_of, events, chain, at_start, is_triggered}
use Rattle.edr_definitions.specs.Facts.{IsChain, IsCandidate}
use Rattle.edr_definitions.specs.Commands.{Issue, placed_events, places}
use Rattle.edr_definitions.proofs.SelectionLaws.{chain-is_chain}
use Rattle.edr_definitions.proofs.EventLaws.{zero-past, end-after_zero}

-- each event begins past the bound a and the closes of those before it, and is confirmed by the tick t
Apart : ℕ → ℕ → List Event → Type 0
Apart t a [] = Unit {0}
Apart t a (e ∷ es) = (a < e.zero_tick) × (e.zero_tick ≤ e.confirmed_tick) × (e.confirmed_tick ≤ t) × Apart t (close_of e.zero_tick e.end_tick) es

unfoldable pub PlacedApart : ℕ → ℕ → List (Event × Place) → Type 0
PlacedApart t a [] = Unit {0}
PlacedApart t a (e ∷ es) = (a < e.0.zero_tick) × (e.0.zero_tick ≤ e.0.confirmed_tick) × (e.0.confirmed_tick ≤ t) × PlacedApart t (close_of e.0.zero_tick e.0.end_tick) es

apart_lower : (t a b : ℕ) (es : List Event) → b ≤ a → Apart t a es → Apart t b es
unfolding Apart
apart_lower t a b [] low h = tt
apart_lower t a b (e ∷ es) low h = let past = h.0 in (omega (arith, past, low), h.1, h.2, h.3)

apart_event : (upto a z u e : ℕ) (es : List Event) → a < z → z ≤ u → Apart upto (close_of z e) es → (b : Bool) → nat_le u upto ≡ b → Apart upto a (cons_option (cond b (Some (record { zero_tick = z; confirmed_tick = u; end_tick = e })) None) es)
unfolding Apart
apart_event upto a z u e es past order h true by = (past, order, grind (arith, by), h)
apart_event upto a z u e es past order h false late = apart_lower upto (close_of z e) a es (omega (arith, past)) h

apart_step : (upto a since z e : ℕ) (r : Option ℕ) (es : List Event) → a < z → z ≤ e → ((u : ℕ) → r ≡ Some u → z ≤ u) → Apart upto (bounds_after (record { after = a; since = since }) (record { zero_tick = z; end_tick = e; confirmed = r })).after es → Apart upto a (cons_option (event_of upto (record { zero_tick = z; end_tick = e; confirmed = r })) es)
apart_step upto a since z e None es past long order h = apart_lower upto e a es (omega (arith, past, long)) h
apart_step upto a since z e (Some u) es past long order h = apart_event upto a z u e es past (order u refl) h (nat_le u upto) refl

confirmed_after : (m : Signals) (from : Bounds) (c : Candidate) → IsCandidate m from c → (u : ℕ) → c.confirmed ≡ Some u → c.zero_tick ≤ u
confirmed_after m from c is u e =
    let h : MatchOption (Some u) (HoldsNowhere (is_triggered m from.since) c.zero_tick (c.end_tick + 1)) (λ t. IsFirst (is_triggered m from.since) c.zero_tick t × (t ≤ c.end_tick)) =
    subst (λ (o : Option ℕ). MatchOption o (HoldsNowhere (is_triggered m from.since) c.zero_tick (c.end_tick + 1)) (λ t. IsFirst (is_triggered m from.since) c.zero_tick t × (t ≤ c.end_tick))) e is.confirmed_is in h.0.from

events_apart : (m : Signals) (upto : ℕ) (from : Bounds) (cs : List Candidate) → IsChain m upto from cs → Apart upto from.after (filter_map (event_of upto) cs)
unfolding Apart
events_apart m upto from [] h = tt
events_apart m upto from (c ∷ cs) h =
    let long = end-after_zero m from c h.0 in
    apart_step upto from.after from.since c.zero_tick c.end_tick c.confirmed (filter_map (event_of upto) cs) (zero-past m from c h.0) (omega (arith, long)) (confirmed_after m from c h.0)
    (events_apart m upto (bounds_after from c) cs h.2)

placed_apart : (t a : ℕ) (es : List Event) (ps : List Place) → Apart t a es → PlacedApart t a (zip es ps)
unfolding Apart PlacedApart
placed_apart t a [] ps h = tt
placed_apart t a (e ∷ es) [] h = tt
placed_apart t a (e ∷ es) (p ∷ ps) h = (h.0, h.1, h.2, placed_apart t (close_of e.zero_tick e.end_tick) es ps h.3)

pub placed-apart : (m : Signals) (t : ℕ) → PlacedApart t 0 (placed_events m t)
placed-apart m t = let es = events m t in placed_apart t 0 es (places (map (λ e. e.zero_tick) es)) (events_apart m t at_start (chain m t) (chain-is_chain m t))

-- the commands of these that are issued by the tick t
abbrev pub issued : ℕ → List Issue → List Command
issued t is = map (λ i. i.command) (filter (λ i. nat_le i.tick t) is)
