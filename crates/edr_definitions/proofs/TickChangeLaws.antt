-- What stands at the next tick, from where the search stands.
use Rattle.std.proofs.Common.{arith, refl, ap, sym, subst, ◌≡◌, ◌≢◌, ◌∙◌, ℕ, ◌+◌, ◌<◌, ◌≤◌, inl, inr, Bool, true, false, cond, ◌&&◌, ◌||◌, nat_eq, Some, None, Option, IsSome, MatchOption, List, [], ◌∷◌, ◌++◌}
use Rattle.std.specs.Prelude.{is_some, is_none}
use Rattle.std.specs.List.{list_any}
use Rattle.std.specs.Option.{option_or}
use Rattle.std.proofs.lemmas.Bool.{cases_lt}
use Rattle.edr_definitions.specs.Ticks.{first_tick, IsFirst, HoldsNowhere}
use Rattle.edr_definitions.specs.Signals.{Signals}
use Rattle.edr_definitions.specs.Selection.{Bounds, is_triggered, is_time_zero, is_end, end_of, close_of, Candidate, candidate_at, bounds_after, chain, at_start}
use Rattle.edr_definitions.specs.Facts.{CandidatesLead, IsCandidate, IsChain}
use Rattle.edr_definitions.specs.Commands.{is_locking}
use Rattle.edr_definitions.specs.Search.{Phase, Searching, Open, Search, tick_if, AllClosed, PhaseIs, StandsFor}
use Rattle.edr_definitions.specs.Change.{Change, is_at, begins_at, is_confirmed_at, is_locked_at, ends_at, drops_at, closes_at, change_of_list, tick_change, stepped_change}
use Rattle.edr_definitions.proofs.TickLaws.{not_both, first_tick-some, first_tick-none, first_tick-is}
use Rattle.edr_definitions.proofs.SelectionLaws.{end_of-is, end_of-is_first, candidate_at-is}
use Rattle.edr_definitions.proofs.ChainLaws.{IsChain-is, IsChain-append}
use Rattle.edr_definitions.proofs.EventLaws.{after_end, end-after_zero}
use Rattle.edr_definitions.proofs.LockLaws.{lock-confirms}
use Rattle.edr_definitions.proofs.SearchLaws.{nothing_yet, complete, AllClosed-later, HoldsNowhere-more, IsFirst-next, first_tick-more}
use Rattle.edr_definitions.proofs.StandingLaws.{all_begin}

-- ---- closed candidates do not count any more
-- each tick of a closed candidate is at most t
pub record AllPast (t : ℕ) (c : Candidate) : Type 0 where
  pub zero_past : c.zero_tick ≤ t
  pub end_past : c.end_tick ≤ t
  pub confirmed_past : (u : ℕ) → c.confirmed ≡ Some u → u ≤ t
  pub close_past : is_some c.confirmed ≡ true → close_of c.zero_tick c.end_tick ≤ t

close_by : (from : Bounds) (z e : ℕ) (r : Option ℕ) → is_some r ≡ true → close_of z e ≤ (bounds_after from (record { zero_tick = z; end_tick = e; confirmed = r })).after
close_by from z e None h = cc
close_by from z e (Some u) h = omega arith

pub confirmed_by_end : (m : Signals) (since z e : ℕ) (r : Option ℕ) → MatchOption r (HoldsNowhere (is_triggered m since) z (e + 1)) (λ t. IsFirst (is_triggered m since) z t × (t ≤ e)) → (u : ℕ) → r ≡ Some u → u ≤ e
confirmed_by_end m since z e None h u is = cc
confirmed_by_end m since z e (Some x) h u is = let k : x ≡ u = cc in omega (arith, h.1, k)

pub closed_past : (m : Signals) (t : ℕ) (from : Bounds) (c : Candidate) → IsCandidate m from c → (bounds_after from c).after ≤ t → AllPast t c
closed_past m t from c is closed =
    let ended = after_end from c in
    let order = is.end_is.from in
    record {
      zero_past = omega (arith, ended, order);
      end_past = omega (arith, ended);
      confirmed_past = λ u h. let k = confirmed_by_end m from.since c.zero_tick c.end_tick c.confirmed is.confirmed_is u h in omega (arith, ended, k);
      close_past = λ h. let k = close_by from c.zero_tick c.end_tick c.confirmed h in omega (arith, k);
    }

-- a test that holds of no candidate that is all past
any_closed : (m : Signals) (t : ℕ) (p : Candidate → Bool) → ((c : Candidate) → AllPast t c → p c ≡ false) → (from b : Bounds) (cs ds : List Candidate) → CandidatesLead m from cs b → AllClosed t from cs → list_any p (cs ++ ds) ≡ list_any p ds
any_closed m t p never from b [] ds leads closed = refl
any_closed m t p never from b (c ∷ cs) ds leads closed =
    let here : p c ≡ false = never c (closed_past m t from c leads.0 closed.0) in
    let rest = any_closed m t p never (bounds_after from c) b cs ds leads.1 closed.1 in rw here rest

pub is_at-past : (r : Option ℕ) (t : ℕ) → ((u : ℕ) → r ≡ Some u → u ≤ t) → is_at r (t + 1) ≡ false
is_at-past None t past = refl
is_at-past (Some u) t past = let k = past u refl in grind arith

pub nat_eq-past : (u t : ℕ) → u ≤ t → nat_eq u (t + 1) ≡ false
nat_eq-past u t past = grind arith

pub and_false : (a b : Bool) → b ≡ false → (a && b) ≡ false
and_false true b h = h
and_false false b h = refl

no_begin : (t : ℕ) (c : Candidate) → AllPast t c → begins_at (t + 1) c ≡ false
no_begin t c past = nat_eq-past c.zero_tick t past.zero_past

no_confirmed : (t : ℕ) (c : Candidate) → AllPast t c → is_confirmed_at (t + 1) c ≡ false
no_confirmed t c past = is_at-past c.confirmed t past.confirmed_past

no_end : (t : ℕ) (c : Candidate) → AllPast t c → ends_at (t + 1) c ≡ false
no_end t c past = nat_eq-past c.end_tick t past.end_past

no_drop : (t : ℕ) (c : Candidate) → AllPast t c → drops_at (t + 1) c ≡ false
no_drop t c past = and_false (is_none c.confirmed) (nat_eq c.end_tick (t + 1)) (nat_eq-past c.end_tick t past.end_past)

close_step : (a : Bool) (k t : ℕ) → (a ≡ true → k ≤ t) → (a && nat_eq k (t + 1)) ≡ false
close_step true k t past = nat_eq-past k t (past refl)
close_step false k t past = refl

no_close : (t : ℕ) (c : Candidate) → AllPast t c → closes_at (t + 1) c ≡ false
no_close t c past = close_step (is_some c.confirmed) (close_of c.zero_tick c.end_tick) t past.close_past

pub lock_step : (a : Bool) (p : ℕ → Bool) (z k t : ℕ) → (a ≡ true → k ≤ t) → (r : Option ℕ) → first_tick p z (k + 1) ≡ r → (a && is_at r (t + 1)) ≡ false
lock_step true p z k t past r h = is_at-past r t (λ u is. let near = past refl in let found = first_tick-some p z (k + 1) u (h ∙ is) in omega (arith, found.1, near))
lock_step false p z k t past r h = refl

no_lock : (m : Signals) (t : ℕ) (c : Candidate) → AllPast t c → is_locked_at m (t + 1) c ≡ false
no_lock m t c past = lock_step (is_some c.confirmed) (is_locking m) c.zero_tick (close_of c.zero_tick c.end_tick) t past.close_past (first_tick (is_locking m) c.zero_tick (close_of c.zero_tick c.end_tick + 1)) refl

-- ---- the candidates at the next tick that are not closed
abbrev pub now_open : Signals → ℕ → Bounds → Phase → List Candidate
now_open m t b Searching = cond (is_time_zero m b t) (candidate_at m b.since t ∷ []) []
now_open m t b (Open z c l None) = candidate_at m b.since z ∷ []
now_open m t b (Open z c l (Some e)) = record { zero_tick = z; end_tick = e; confirmed = c } ∷ []

past_close_more : (b : Bounds) (t z e : ℕ) (c : Option ℕ) → IsSome c → t < close_of z e → t + 1 ≤ (bounds_after b (record { zero_tick = z; end_tick = e; confirmed = c })).after
past_close_more b t z e None some later = cc
past_close_more b t z e (Some x) some later = omega arith

-- no end by t
pub end_later : (m : Signals) (t z : ℕ) → HoldsNowhere (is_end m z) z (t + 1) → t < end_of m z
end_later m t z nowhere =
    let first = end_of-is_first m z in
    elim (cases_lt t (end_of m z)) [
      | inl later ↦ later
      | inr over ↦ let f = nowhere.none (end_of m z) first.from (omega arith) in let g = first.holds in absurd (not_both (is_end m z (end_of m z)) f g)
    ]

search_is_chain : (m : Signals) (t : ℕ) (b : Bounds) → HoldsNowhere (is_time_zero m b) 0 (t + 1) → (v : Bool) → is_time_zero m b (t + 1) ≡ v → IsChain m (t + 1) b (cond v (candidate_at m b.since (t + 1) ∷ []) [])
search_is_chain m t b nowhere true here =
    let cand = candidate_at m b.since (t + 1) in
    let is : IsCandidate m b cand = candidate_at-is m b (t + 1) (IsFirst-next (is_time_zero m b) 0 t (omega arith) nowhere here) in
    let zero_known : cand.zero_tick ≡ t + 1 = unfold candidate_at in refl in
    let long = end-after_zero m b cand is in
    let ended = after_end b cand in
    (is, omega (arith, zero_known), nothing_yet m (t + 1) (bounds_after b cand) (omega (arith, zero_known, long, ended)))
search_is_chain m t b nowhere false here = HoldsNowhere-more (is_time_zero m b) 0 t nowhere here

pub now_is_chain : (m : Signals) (t : ℕ) (b : Bounds) (ph : Phase) → PhaseIs m t b ph → IsChain m (t + 1) b (now_open m (t + 1) b ph)
now_is_chain m t b Searching h = search_is_chain m t b h (is_time_zero m b (t + 1)) refl
now_is_chain m t b (Open z c l None) h =
    let cand = candidate_at m b.since z in
    let is : IsCandidate m b cand = candidate_at-is m b z h.0 in
    let zero_known : cand.zero_tick ≡ z = unfold candidate_at in refl in
    let end_known : cand.end_tick ≡ end_of m z = unfold candidate_at in refl in
    let later = end_later m t z h.2 in
    let ended = after_end b cand in
    (is, omega (arith, zero_known, h.1), nothing_yet m (t + 1) (bounds_after b cand) (omega (arith, ended, end_known, later)))
now_is_chain m t b (Open z c l (Some e)) h =
    (complete m b z e c h.0 h.1 h.3, omega (arith, h.1.from, h.2), nothing_yet m (t + 1) (bounds_after b (record { zero_tick = z; end_tick = e; confirmed = c })) (past_close_more b t z e c h.4 h.5))

pub chain-next : (m : Signals) (t : ℕ) (s : Search) (h : StandsFor m t s) → h.closed ++ now_open m (t + 1) s.bounds s.phase ≡ chain m (t + 1)
chain-next m t s h =
    IsChain-is m (t + 1) (h.closed ++ now_open m (t + 1) s.bounds s.phase)
    (IsChain-append m (t + 1) at_start s.bounds h.closed (now_open m (t + 1) s.bounds s.phase) h.leads
    (all_begin (t + 1) m at_start s.bounds h.closed h.leads (AllClosed-later t (t + 1) at_start h.closed (omega arith) h.all_closed))
    (now_is_chain m t s.bounds s.phase h.phase_is))

any_now : (m : Signals) (t : ℕ) (s : Search) → StandsFor m t s → (p : Candidate → Bool) → ((c : Candidate) → AllPast t c → p c ≡ false) → list_any p (chain m (t + 1)) ≡ list_any p (now_open m (t + 1) s.bounds s.phase)
any_now m t s h p never =
    ap (λ (cs : List Candidate). list_any p cs) (sym (chain-next m t s h))
    ∙ any_closed m t p never at_start s.bounds h.closed (now_open m (t + 1) s.bounds s.phase) h.leads h.all_closed

pub change_is : (a b l c d e a' b' l' c' d' e' : Bool) → a ≡ a' → b ≡ b' → l ≡ l' → c ≡ c' → d ≡ d' → e ≡ e' → ◌≡◌ {A = Change} (record { zero = a; confirmed = b; locked = l; ended = c; dropped = d; closed = e }) (record { zero = a'; confirmed = b'; locked = l'; ended = c'; dropped = d'; closed = e' })
change_is a b l c d e a' b' l' c' d' e' p q k r s t = cc

-- the change at the next tick is that of what is open then
pub tick_change-next : (m : Signals) (t : ℕ) (s : Search) → StandsFor m t s → tick_change m (t + 1) ≡ change_of_list m (t + 1) (now_open m (t + 1) s.bounds s.phase)
tick_change-next m t s h =
    let cs = chain m (t + 1) in
    let ds = now_open m (t + 1) s.bounds s.phase in
    let p = t + 1 in
    change_is (list_any (begins_at p) cs) (list_any (is_confirmed_at p) cs) (list_any (is_locked_at m p) cs) (list_any (ends_at p) cs) (list_any (drops_at p) cs) (list_any (closes_at p) cs)
    (list_any (begins_at p) ds) (list_any (is_confirmed_at p) ds) (list_any (is_locked_at m p) ds) (list_any (ends_at p) ds) (list_any (drops_at p) ds) (list_any (closes_at p) ds)
    (any_now m t s h (begins_at p) (no_begin t)) (any_now m t s h (is_confirmed_at p) (no_confirmed t)) (any_now m t s h (is_locked_at m p) (no_lock m t)) (any_now m t s h (ends_at p) (no_end t)) (any_now m t s h (drops_at p) (no_drop t)) (any_now m t s h (closes_at p) (no_close t))

-- ---- the tests of the open candidate
pub or_none : (b : Bool) → (b || false) ≡ b
or_none true = refl
or_none false = refl

pub nat_eq-same : (u : ℕ) → nat_eq u u ≡ true
nat_eq-same u = grind arith

pub nat_eq-other : (u v : ℕ) → u ≢ v → nat_eq u v ≡ false
nat_eq-other u v h = grind arith

is_at-first_step : (p : ℕ → Bool) (z e u : ℕ) → z ≤ u → u ≤ e → HoldsNowhere p z u → (v : Bool) → p u ≡ v → (r : Option ℕ) → first_tick p z (e + 1) ≡ r → is_at r u ≡ v
is_at-first_step p z e u from near before true here None f =
    let g : p u ≡ false = (first_tick-none p z (e + 1) f).none u from (omega arith) in absurd (not_both (p u) g here)
is_at-first_step p z e u from near before true here (Some x) f =
    let found = first_tick-is p z (e + 1) u (record { from = from; holds = here; none_before = before.none }) (omega arith) in
    let same : x ≡ u = cc in subst (λ y. nat_eq y u ≡ true) (sym same) (nat_eq-same u)
is_at-first_step p z e u from near before false here None f = refl
is_at-first_step p z e u from near before false here (Some x) f =
    let found = first_tick-some p z (e + 1) x f in
    nat_eq-other x u (λ same. not_both (p u) here (subst (λ y. p y ≡ true) same found.0.holds))

-- what is first found at u, is found there exactly where u passes
is_at-first : (p : ℕ → Bool) (z e u : ℕ) → z ≤ u → u ≤ e → HoldsNowhere p z u → is_at (first_tick p z (e + 1)) u ≡ p u
is_at-first p z e u from near before = is_at-first_step p z e u from near before (p u) refl (first_tick p z (e + 1)) refl

-- confirmed now: not before, and the trigger is met
confirmed_now : (p : ℕ → Bool) (z e t : ℕ) → z ≤ t → t < e → (c : Option ℕ) → c ≡ first_tick p z (t + 1) → is_at (first_tick p z (e + 1)) (t + 1) ≡ (is_none c && p (t + 1))
confirmed_now p z e t from later None h = is_at-first p z e (t + 1) (omega arith) (omega arith) (first_tick-none p z (t + 1) (sym h))
confirmed_now p z e t from later (Some u) h =
    let found = first_tick-some p z (t + 1) u (sym h) in
    let still : first_tick p z (e + 1) ≡ Some u = first_tick-is p z (e + 1) u found.0 (omega (arith, found.1)) in
    ap (λ (r : Option ℕ). is_at r (t + 1)) still ∙ nat_eq-past u t (omega (arith, found.1))

-- the end, the drop and the close of an open candidate at the next tick
pub end_now : (m : Signals) (z t : ℕ) → z ≤ t → HoldsNowhere (is_end m z) z (t + 1) → (v : Bool) → is_end m z (t + 1) ≡ v → nat_eq (end_of m z) (t + 1) ≡ v
end_now m z t from nowhere true here =
    let e : t + 1 ≡ end_of m z = end_of-is m z (t + 1) (IsFirst-next (is_end m z) z t (omega arith) nowhere here) in
    subst (λ x. nat_eq x (t + 1) ≡ true) e (nat_eq-same (t + 1))
end_now m z t from nowhere false here =
    nat_eq-other (end_of m z) (t + 1) (λ same. not_both (is_end m z (t + 1)) here (subst (λ x. is_end m z x ≡ true) same (end_of-is_first m z).holds))

drop_now : (m : Signals) (since z t : ℕ) (now : Option ℕ) → z ≤ t → HoldsNowhere (is_end m z) z (t + 1) → now ≡ first_tick (is_triggered m since) z (t + 1 + 1) → (v : Bool) → is_end m z (t + 1) ≡ v → (is_none (first_tick (is_triggered m since) z (end_of m z + 1)) && nat_eq (end_of m z) (t + 1)) ≡ (is_none now && v)
drop_now m since z t now from nowhere is true here =
    let e : t + 1 ≡ end_of m z = end_of-is m z (t + 1) (IsFirst-next (is_end m z) z t (omega arith) nowhere here) in
    subst (λ x. (is_none (first_tick (is_triggered m since) z (x + 1)) && nat_eq x (t + 1)) ≡ (is_none now && true)) e
    (let f = nat_eq-same (t + 1) in rw (f, is) refl)
drop_now m since z t now from nowhere is false here =
    and_false (is_none (first_tick (is_triggered m since) z (end_of m z + 1))) (nat_eq (end_of m z) (t + 1)) (end_now m z t from nowhere false here) ∙ sym (and_false (is_none now) false refl)

close_now : (m : Signals) (since z t : ℕ) (now : Option ℕ) → z ≤ t → HoldsNowhere (is_end m z) z (t + 1) → now ≡ first_tick (is_triggered m since) z (t + 1 + 1) → (v : Bool) → is_end m z (t + 1) ≡ v → (is_some (first_tick (is_triggered m since) z (end_of m z + 1)) && nat_eq (close_of z (end_of m z)) (t + 1)) ≡ (is_some now && (v && nat_eq (close_of z (t + 1)) (t + 1)))
close_now m since z t now from nowhere is true here =
    let e : t + 1 ≡ end_of m z = end_of-is m z (t + 1) (IsFirst-next (is_end m z) z t (omega arith) nowhere here) in
    subst (λ x. (is_some (first_tick (is_triggered m since) z (x + 1)) && nat_eq (close_of z x) (t + 1)) ≡ (is_some now && nat_eq (close_of z (t + 1)) (t + 1))) e (rw is refl)
close_now m since z t now from nowhere is false here =
    let later = end_later m t z nowhere in
    let not_now : end_of m z ≢ t + 1 = λ same. not_both (is_end m z (t + 1)) here (subst (λ x. is_end m z x ≡ true) same (end_of-is_first m z).holds) in
    and_false (is_some (first_tick (is_triggered m since) z (end_of m z + 1))) (nat_eq (close_of z (end_of m z)) (t + 1)) (nat_eq-other (close_of z (end_of m z)) (t + 1) (omega arith))
    ∙ sym (and_false (is_some now) false refl)

-- what is only found if the first is so, is found together with it
with_first : (a v w : Bool) → v ≡ w → (w ≡ true → a ≡ true) → (a && v) ≡ w
with_first true v w e h = e
with_first false v true e h = absurd (not_both false refl (h refl))
with_first false v false e h = refl

pub and_second : (a b : Bool) → (a && b) ≡ true → b ≡ true
and_second true b h = h
and_second false b h = cc

-- locked now: not before, and a locking restraint fires, up to the close
locked_now : (m : Signals) (since z e k t : ℕ) → z ≤ t → t < e → t < k → (l : Option ℕ) → l ≡ first_tick (is_locking m) z (t + 1) → (is_some (first_tick (is_triggered m since) z (e + 1)) && is_at (first_tick (is_locking m) z (k + 1)) (t + 1)) ≡ (is_none l && is_locking m (t + 1))
locked_now m since z e k t from later open_yet l h =
    with_first (is_some (first_tick (is_triggered m since) z (e + 1))) (is_at (first_tick (is_locking m) z (k + 1)) (t + 1)) (is_none l && is_locking m (t + 1))
    (confirmed_now (is_locking m) z k t from open_yet l h)
    (λ v. lock-confirms m since z e (t + 1) (omega arith) (omega arith) (and_second (is_none l) (is_locking m (t + 1)) v))

some_true : (c : Option ℕ) → IsSome c → is_some c ≡ true
some_true None h = cc
some_true (Some x) h = refl

-- ---- by phases
searching_change : (m : Signals) (t : ℕ) (b : Bounds) → HoldsNowhere (is_time_zero m b) 0 (t + 1) → (v : Bool) → is_time_zero m b (t + 1) ≡ v → change_of_list m (t + 1) (cond v (candidate_at m b.since (t + 1) ∷ []) []) ≡ record { zero = v; confirmed = v && is_triggered m b.since (t + 1); locked = v && is_locking m (t + 1); ended = false; dropped = false; closed = false }
unfolding candidate_at
searching_change m t b nowhere true here =
    let z = t + 1 in
    let e = end_of m z in
    let r = first_tick (is_triggered m b.since) z (e + 1) in
    let is = candidate_at-is m b z (IsFirst-next (is_time_zero m b) 0 t (omega arith) nowhere here) in
    let long : z + 20 ≤ e = end-after_zero m b (candidate_at m b.since z) is in
    let k = close_of z e in
    let q = first_tick (is_locking m) z (k + 1) in
    let locked : (is_some r && is_at q z) ≡ is_locking m z = with_first (is_some r) (is_at q z) (is_locking m z)
    (is_at-first (is_locking m) z k z (omega arith) (omega arith) (record { none = λ u lo hi. absurd (omega arith) }))
    (λ v. lock-confirms m b.since z e z (omega arith) (omega arith) v) in
    change_is (nat_eq z z || false) (is_at r z || false) ((is_some r && is_at q z) || false) (nat_eq e z || false) ((is_none r && nat_eq e z) || false) ((is_some r && nat_eq (close_of z e) z) || false) true (is_triggered m b.since z) (is_locking m z) false false false
    (or_none (nat_eq z z) ∙ nat_eq-same z)
    (or_none (is_at r z) ∙ is_at-first (is_triggered m b.since) z e z (omega arith) (omega arith) (record { none = λ u lo hi. absurd (omega arith) }))
    (or_none (is_some r && is_at q z) ∙ locked)
    (or_none (nat_eq e z) ∙ nat_eq-other e z (omega arith))
    (or_none (is_none r && nat_eq e z) ∙ and_false (is_none r) (nat_eq e z) (nat_eq-other e z (omega arith)))
    (or_none (is_some r && nat_eq (close_of z e) z) ∙ and_false (is_some r) (nat_eq (close_of z e) z) (nat_eq-other (close_of z e) z (omega arith)))
searching_change m t b nowhere false here = refl

change_now : (m : Signals) (t : ℕ) (b : Bounds) (ph : Phase) (ends : Bool) → PhaseIs m t b ph → ((z : ℕ) (c l : Option ℕ) → ph ≡ Open z c l None → ends ≡ is_end m z (t + 1)) → change_of_list m (t + 1) (now_open m (t + 1) b ph) ≡ stepped_change (t + 1) (is_time_zero m b (t + 1)) (is_triggered m b.since (t + 1)) (is_locking m (t + 1)) ends ph
unfolding candidate_at
change_now m t b Searching ends h is = searching_change m t b h (is_time_zero m b (t + 1)) refl
change_now m t b (Open z c l None) ends h is =
    let p = is_triggered m b.since in
    let e = end_of m z in
    let r = first_tick p z (e + 1) in
    let now = option_or c (tick_if (p (t + 1)) (t + 1)) in
    let now_is : now ≡ first_tick p z (t + 1 + 1) = first_tick-more p z t (omega (arith, h.1)) c h.3 (p (t + 1)) refl in
    let here : is_end m z (t + 1) ≡ ends = sym (is z c l refl) in
    let later = end_later m t z h.2 in
    let q = first_tick (is_locking m) z (close_of z e + 1) in
    change_is (nat_eq z (t + 1) || false) (is_at r (t + 1) || false) ((is_some r && is_at q (t + 1)) || false) (nat_eq e (t + 1) || false) ((is_none r && nat_eq e (t + 1)) || false) ((is_some r && nat_eq (close_of z e) (t + 1)) || false) false (is_none c && p (t + 1)) (is_none l && is_locking m (t + 1)) ends (is_none now && ends) (is_some now && (ends && nat_eq (close_of z (t + 1)) (t + 1)))
    (or_none (nat_eq z (t + 1)) ∙ nat_eq-past z t h.1)
    (or_none (is_at r (t + 1)) ∙ confirmed_now p z e t h.1 later c h.3)
    (or_none (is_some r && is_at q (t + 1)) ∙ locked_now m b.since z e (close_of z e) t h.1 later (omega arith) l h.4)
    (or_none (nat_eq e (t + 1)) ∙ end_now m z t h.1 h.2 ends here)
    (or_none (is_none r && nat_eq e (t + 1)) ∙ drop_now m b.since z t now h.1 h.2 now_is ends here)
    (or_none (is_some r && nat_eq (close_of z e) (t + 1)) ∙ close_now m b.since z t now h.1 h.2 now_is ends here)
change_now m t b (Open z c l (Some e)) ends h is =
    let ended : e ≤ t = h.2 in
    let order = h.1.from in
    let past = confirmed_by_end m b.since z e c (complete m b z e c h.0 h.1 h.3).confirmed_is in
    let some : is_some c ≡ true = some_true c h.4 in
    let q = first_tick (is_locking m) z (close_of z e + 1) in
    change_is (nat_eq z (t + 1) || false) (is_at c (t + 1) || false) ((is_some c && is_at q (t + 1)) || false) (nat_eq e (t + 1) || false) ((is_none c && nat_eq e (t + 1)) || false) ((is_some c && nat_eq (close_of z e) (t + 1)) || false) false false (is_none l && is_locking m (t + 1)) false false (nat_eq (close_of z e) (t + 1))
    (or_none (nat_eq z (t + 1)) ∙ nat_eq-past z t (omega arith))
    (or_none (is_at c (t + 1)) ∙ is_at-past c t (λ u k. let q = past u k in omega arith))
    (or_none (is_some c && is_at q (t + 1)) ∙ with_first (is_some c) (is_at q (t + 1)) (is_none l && is_locking m (t + 1)) (confirmed_now (is_locking m) z (close_of z e) t (omega arith) h.5 l h.6) (λ v. some))
    (or_none (nat_eq e (t + 1)) ∙ nat_eq-past e t ended)
    (or_none (is_none c && nat_eq e (t + 1)) ∙ and_false (is_none c) (nat_eq e (t + 1)) (nat_eq-past e t ended))
    (or_none (is_some c && nat_eq (close_of z e) (t + 1)) ∙ ap (λ (v : Bool). v && nat_eq (close_of z e) (t + 1)) some)

-- what stands at the next tick is what the three tests and the phase before it say
pub tick_change-is : (m : Signals) (t : ℕ) (s : Search) (ends : Bool) → StandsFor m t s → ((z : ℕ) (c l : Option ℕ) → s.phase ≡ Open z c l None → ends ≡ is_end m z (t + 1)) → tick_change m (t + 1) ≡ stepped_change (t + 1) (is_time_zero m s.bounds (t + 1)) (is_triggered m s.bounds.since (t + 1)) (is_locking m (t + 1)) ends s.phase
tick_change-is m t s ends h is = tick_change-next m t s h ∙ change_now m t s.bounds s.phase ends h.phase_is is
