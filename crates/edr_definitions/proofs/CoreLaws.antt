-- One tick of a core: it goes on standing for its lists, and issues the commands of the tick.
use Rattle.std.proofs.Common.{arith, refl, ap, sym, subst, ◌≡◌, ◌≢◌, ◌∙◌, ℕ, ◌+◌, ◌<◌, ◌≤◌, inl, inr, Bool, true, false, cond, ◌&&◌, nat_eq, Some, None, Option, IsSome, MatchOption, List, [], ◌∷◌, ◌++◌, map}
use Rattle.std.specs.Prelude.{filter_map, is_some}
use Rattle.std.specs.List.{cons_option}
use Rattle.std.specs.Option.{option_or, IfSome, ForSome}
use Rattle.std.proofs.lemmas.Bool.{cases_lt}
use Rattle.std.proofs.lemmas.List.{map-append}
use Rattle.std.proofs.lemmas.List.Elements.{filter_map-append}
use Rattle.edr_record.specs.declared.TheConstants.{RESET}
use Rattle.edr_items.specs.SensorLists.{SensorLists, horizon_of}
use Rattle.edr_record.specs.declared.Place.{Place}
use Rattle.edr_record.specs.declared.Place.TheVariants.{First}
use Rattle.edr_record.specs.Parts.{PrePart, CrashPart}
use Rattle.edr_definitions.specs.Ticks.{first_tick, HoldsNowhere}
use Rattle.edr_definitions.specs.Signals.{Signals, signals_of}
use Rattle.edr_definitions.specs.Selection.{Bounds, is_triggered, is_time_zero, is_end, end_of, Candidate, Event, candidate_at, bounds_after, event_of, close_of, at_start}
use Rattle.edr_definitions.specs.Parts.{pre_part, crash_part}
use Rattle.edr_definitions.specs.Commands.{is_locking, place_of, last_from, last_placed, zeros_by, commands}
use Rattle.edr_definitions.specs.Facts.{IsCandidate, CandidatesLead}
use Rattle.edr_definitions.specs.Search.{Phase, Searching, Open, Search, tick_if, past_end, next_open, next_from, next_search, PhaseIs, StandsFor, open_candidates}
use Rattle.edr_definitions.specs.Change.{Change, is_at, is_confirmed_at, is_locked_at, closes_at, change_of_list}
use Rattle.edr_definitions.specs.Core.{commands_of, when, CoreState, pre_after, core_after, issues_at, IsPreOfZero, IsTold, OpenIs, CoreStandsFor}
use Rattle.edr_definitions.proofs.TickLaws.{not_both, first_tick-some, first_tick-none, first_tick-is}
use Rattle.edr_definitions.proofs.SelectionLaws.{candidate_at-is, bounds_after-later}
use Rattle.edr_definitions.proofs.EventLaws.{zero-past, end-after_zero, end-by_reset}
use Rattle.edr_definitions.proofs.IssueLaws.{confirmed_by}
use Rattle.edr_definitions.proofs.PlaceLaws.{last_from-append}
use Rattle.edr_definitions.proofs.OrderLaws.{commands-more}
use Rattle.edr_definitions.proofs.SearchLaws.{complete, StandsFor-next, IsFirst-next}
use Rattle.edr_definitions.proofs.StandingLaws.{StandsFor-chain}
use Rattle.edr_definitions.proofs.TickChangeLaws.{nat_eq-past, nat_eq-same, or_none, end_later, confirmed_by_end, and_second, end_now, now_open, chain-next, tick_change-next}
use Rattle.edr_definitions.proofs.NewLaws.{never-confirmed, never-locked, news, closed-events, news-closed, candidate_issues, news-one}

-- ---- the next tick's commands and places, from the candidates that are not closed
module _ (f : SensorLists) (n t : ℕ) (s : Search) (h : StandsFor (signals_of f) t s) where
  -- the last event that is closed
  abbrev last_closed : Option (Place × ℕ)
  last_closed = last_placed (map (λ e. e.zero_tick) (filter_map (event_of (t + 1)) h.closed))

  -- the next tick's commands are those of the candidates that are not closed
  commands-next : commands f n (t + 1) ≡ commands f n t ++ news f n t (filter_map (event_of (t + 1)) (now_open (signals_of f) (t + 1) s.bounds s.phase)) last_closed
  commands-next =
      let m = signals_of f in
      let ev = event_of (t + 1) in
      let open_now = now_open m (t + 1) s.bounds s.phase in
      commands-more f n t
      ∙ ap (λ cs. commands f n t ++ cs)
      (ap (λ (cs : List Candidate). news f n t (filter_map ev cs) None) (sym (chain-next m t s h))
      ∙ ap (λ (es : List Event). news f n t es None) (filter_map-append ev h.closed open_now)
      ∙ news-closed f n t at_start s.bounds h.closed (filter_map ev open_now) h.leads h.all_closed None)

  -- and these tell the last event, at the next tick and at this one
  last-next : last_placed (zeros_by (signals_of f) (t + 1)) ≡ last_from last_closed (map (λ e. e.zero_tick) (filter_map (event_of (t + 1)) (now_open (signals_of f) (t + 1) s.bounds s.phase)))
  last-next =
      let m = signals_of f in
      let ev = event_of (t + 1) in
      let Z = λ (es : List Event). map (λ e. e.zero_tick) es in
      let open_now = now_open m (t + 1) s.bounds s.phase in
      ap (λ (cs : List Candidate). last_placed (Z (filter_map ev cs))) (sym (chain-next m t s h))
      ∙ ap (λ (es : List Event). last_placed (Z es)) (filter_map-append ev h.closed open_now)
      ∙ ap last_placed (map-append (λ (e : Event). e.zero_tick) (filter_map ev h.closed) (filter_map ev open_now))
      ∙ last_from-append None (Z (filter_map ev h.closed)) (Z (filter_map ev open_now))

  last-now : last_placed (zeros_by (signals_of f) t) ≡ last_from last_closed (map (λ e. e.zero_tick) (filter_map (event_of t) (open_candidates (signals_of f) s.bounds s.phase)))
  last-now =
      let m = signals_of f in
      let ev = event_of t in
      let Z = λ (es : List Event). map (λ e. e.zero_tick) es in
      let open_then = open_candidates m s.bounds s.phase in
      ap (λ (cs : List Candidate). last_placed (Z (filter_map ev cs))) (sym (StandsFor-chain m t s h))
      ∙ ap (λ (es : List Event). last_placed (Z es)) (filter_map-append ev h.closed open_then)
      ∙ ap last_placed (map-append (λ (e : Event). e.zero_tick) (filter_map ev h.closed) (filter_map ev open_then))
      ∙ last_from-append None (Z (filter_map ev h.closed)) (Z (filter_map ev open_then))
      ∙ ap (λ (es : List Event). last_from (last_placed (Z es)) (Z (filter_map ev open_then))) (sym (closed-events m t at_start s.bounds h.closed h.leads h.all_closed))

-- ---- the pre part of the open candidate
module _ (f : SensorLists) (n : ℕ) where
  -- a frozen pre part with its place put in
  placed : (p q : Place) (z : ℕ) (x : PrePart) → x ≡ pre_part f n p z → record x { place = q } ≡ pre_part f n q z
  unfolding pre_part
  placed p q z x is = ap (λ (y : PrePart). record y { place = q }) is

  pub zero_of_pre : (p : Place) (z : ℕ) (x : PrePart) → x ≡ pre_part f n p z → x.key.zero ≡ z
  unfolding pre_part
  zero_of_pre p z x is = ap (λ (y : PrePart). y.key.zero) is

-- what a core keeps past one test of confirmation, where x is its pre part and `linked` its last event
abbrev taken : Bool → Option (Place × ℕ) → PrePart → PrePart
taken v linked x = cond v (record x { place = place_of linked x.key.zero }) x

abbrev linked_after : Bool → Option (Place × ℕ) → PrePart → Option (Place × ℕ)
linked_after v linked x = cond v (Some ((taken v linked x).place, (taken v linked x).key.zero)) linked

abbrev place_in : Option (Place × ℕ) → Place
place_in None = First
place_in (Some l) = l.0

-- ---- the last event, with one candidate more
confirmed_last : (t : ℕ) (last : Option (Place × ℕ)) (c : Candidate) (u : ℕ) → c.confirmed ≡ Some u → u ≤ t → last_from last (map (λ e. e.zero_tick) (filter_map (event_of t) (c ∷ []))) ≡ Some (place_of last c.zero_tick, c.zero_tick)
confirmed_last t last c u is near = elim (confirmed_by t c.zero_tick c.end_tick c.confirmed) [
  | inl y ↦ ap (λ (o : Option Event). last_from last (map (λ e. e.zero_tick) (cons_option o []))) y.3
  | inr y ↦ absurd (y.0 u near is)
]

unconfirmed_last : (t : ℕ) (last : Option (Place × ℕ)) (c : Candidate) → ((u : ℕ) → u ≤ t → c.confirmed ≢ Some u) → last_from last (map (λ e. e.zero_tick) (filter_map (event_of t) (c ∷ []))) ≡ last
unconfirmed_last t last c never = elim (confirmed_by t c.zero_tick c.end_tick c.confirmed) [
  | inl y ↦ absurd (never y.0 y.2 y.1)
  | inr y ↦ ap (λ (o : Option Event). last_from last (map (λ e. e.zero_tick) (cons_option o []))) y.1
]

module _ (f : SensorLists) (n t : ℕ) (last linked : Option (Place × ℕ)) (c : Candidate) (x : PrePart) where
  -- what the core keeps past the tests of confirmation and lock is what the candidate's event issues; r is its confirmation by the next tick, if there is one
  record Kept (v w : Bool) (r : Option ℕ) : Type 0 where
    pub take_same : v ≡ true → taken v linked x ≡ pre_part f n (place_of last c.zero_tick) c.zero_tick
    pub lock_same : w ≡ true → taken v linked x ≡ pre_part f n (place_of last c.zero_tick) c.zero_tick
    pub frozen_same : IsPreOfZero f n c.zero_tick (taken v linked x)
    pub linked_same : linked_after v linked x ≡ last_from last (map (λ e. e.zero_tick) (filter_map (event_of (t + 1)) (c ∷ [])))
    pub placed_same : MatchOption r (Unit {0}) (λ _. linked_after v linked x ≡ Some ((taken v linked x).place, c.zero_tick))
    pub last_same : v ≡ true → linked ≡ last

  -- confirmed before
  kept_before : (u : ℕ) (v w : Bool) → v ≡ is_confirmed_at (t + 1) c → c.confirmed ≡ Some u → u ≤ t → IsPreOfZero f n c.zero_tick x → linked ≡ Some (x.place, c.zero_tick) → linked ≡ Some (place_of last c.zero_tick, c.zero_tick) → Kept v w (Some u)
  kept_before u true w flag is near frozen link link' =
      let e : is_at c.confirmed (t + 1) ≡ false = ap (λ (r : Option ℕ). is_at r (t + 1)) is ∙ nat_eq-past u t near in absurd (not_both true (flag ∙ e) refl)
  kept_before u false w flag is near frozen link link' =
      let same : x.place ≡ place_of last c.zero_tick = first_of x.place (place_of last c.zero_tick) c.zero_tick (sym link ∙ link') in
      let whole : x ≡ pre_part f n (place_of last c.zero_tick) c.zero_tick = frozen ∙ ap (λ p. pre_part f n p c.zero_tick) same in
      record {
        take_same = λ _. whole;
        lock_same = λ _. whole;
        frozen_same = frozen;
        linked_same = link' ∙ sym (confirmed_last (t + 1) last c u is (omega arith));
        placed_same = link;
        last_same = λ h. cc;
      } where
        first_of : (p q : Place) (z : ℕ) → ◌≡◌ {A = Option (Place × ℕ)} (Some (p, z)) (Some (q, z)) → p ≡ q
        first_of p q z h = ap place_in h

  -- confirmed at the next tick
  kept_now : (v w : Bool) → v ≡ is_confirmed_at (t + 1) c → c.confirmed ≡ Some (t + 1) → IsPreOfZero f n c.zero_tick x → linked ≡ last → Kept v w (Some (t + 1))
  kept_now false w flag is frozen link =
      let e : is_at c.confirmed (t + 1) ≡ true = ap (λ (r : Option ℕ). is_at r (t + 1)) is ∙ nat_eq-same (t + 1) in absurd (not_both false refl (flag ∙ e))
  kept_now true w flag is frozen link =
      let z = c.zero_tick in
      let zero : x.key.zero ≡ z = zero_of_pre f n x.place z x frozen in
      let place : place_of linked x.key.zero ≡ place_of last z = ap (λ (l : Option (Place × ℕ)). place_of l x.key.zero) link ∙ ap (λ (k : ℕ). place_of last k) zero in
      let whole : record x { place = place_of linked x.key.zero } ≡ pre_part f n (place_of last z) z = placed f n x.place (place_of linked x.key.zero) z x frozen ∙ ap (λ p. pre_part f n p z) place in
      let linked_is : ◌≡◌ {A = Option (Place × ℕ)} (Some (place_of linked x.key.zero, x.key.zero)) (Some (place_of linked x.key.zero, z)) = ap (λ (k : ℕ). let r : Option (Place × ℕ) = Some (place_of linked x.key.zero, k) in r) zero in
      let linked_is' : ◌≡◌ {A = Option (Place × ℕ)} (Some (place_of linked x.key.zero, z)) (Some (place_of last z, z)) = ap (λ (p : Place). let r : Option (Place × ℕ) = Some (p, z) in r) place in
      record {
        take_same = λ _. whole;
        lock_same = λ _. whole;
        frozen_same = placed f n x.place (place_of linked x.key.zero) z x frozen;
        linked_same = linked_is ∙ linked_is' ∙ sym (confirmed_last (t + 1) last c (t + 1) is (omega arith));
        placed_same = linked_is;
        last_same = λ _. link;
      }

  -- not confirmed by the next tick
  kept_not : (b : Bounds) (v w : Bool) → v ≡ is_confirmed_at (t + 1) c → w ≡ is_locked_at (signals_of f) (t + 1) c → IsCandidate (signals_of f) b c → ((u : ℕ) → u ≤ t + 1 → c.confirmed ≢ Some u) → IsPreOfZero f n c.zero_tick x → linked ≡ last → Kept v w None
  kept_not b true w flag lock is never frozen link = absurd (not_both true (flag ∙ never-confirmed (t + 1) c.confirmed never) refl)
  kept_not b false w flag lock is never frozen link = record {
    take_same = λ h. cc;
    lock_same = λ h. absurd (not_both w (lock ∙ never-locked (signals_of f) (t + 1) b.since c is.confirmed_is never) h);
    frozen_same = frozen;
    linked_same = link ∙ sym (unconfirmed_last (t + 1) last c never);
    placed_same = tt;
    last_same = λ _. link;
  }

-- ---- one candidate at the next tick
pub when_same : {X : Type 0} (v w : Bool) (p q : X) → v ≡ w → (w ≡ true → p ≡ q) → when v p ≡ when w q
when_same true true p q e h = let same = h refl in ap Some same
when_same true false p q e h = cc
when_same false true p q e h = cc
when_same false false p q e h = refl

issues_same : (a b : Option PrePart) (c : Option CrashPart) (a' b' : Option PrePart) (c' : Option CrashPart) → a ≡ a' → b ≡ b' → c ≡ c' → commands_of (record { take = a; lock = b; done = c }) ≡ commands_of (record { take = a'; lock = b'; done = c' })
issues_same a b c a' b' c' p q r = rw (p, q, r) refl

module _ (f : SensorLists) (n t : ℕ) (b : Bounds) (last : Option (Place × ℕ)) (k : CoreState) (change : Change) (begun : PrePart) (crash : CrashPart) where
  -- the pre part before the confirmation test
  abbrev fresh : PrePart
  fresh = cond change.zero begun k.frozen

  abbrev after : CoreState
  after = core_after (t + 1) change begun k

  one_issues : (c : Candidate) (r : Option ℕ) → IsCandidate (signals_of f) b c → change.confirmed ≡ is_confirmed_at (t + 1) c → change.locked ≡ is_locked_at (signals_of f) (t + 1) c → change.closed ≡ closes_at (t + 1) c → Kept f n t last k.linked c fresh change.confirmed change.locked r → (closes_at (t + 1) c ≡ true → crash ≡ crash_part (signals_of f) c.zero_tick c.end_tick) → news f n t (filter_map (event_of (t + 1)) (c ∷ [])) last ≡ commands_of (issues_at change begun crash k)
  unfolding candidate_issues
  one_issues c r is confirmed locked closed kept done =
      let pre = pre_part f n (place_of last c.zero_tick) c.zero_tick in
      let m = signals_of f in
      let mine = pre_after change begun k in
      news-one f n t b c last is
      ∙ issues_same (when (is_confirmed_at (t + 1) c) pre) (when (is_locked_at m (t + 1) c) pre) (when (closes_at (t + 1) c) (crash_part m c.zero_tick c.end_tick)) (when change.confirmed mine) (when change.locked mine) (when change.closed crash)
      (when_same (is_confirmed_at (t + 1) c) change.confirmed pre mine (sym confirmed) (λ v. sym (kept.take_same v)))
      (when_same (is_locked_at m (t + 1) c) change.locked pre mine (sym locked) (λ v. sym (kept.lock_same v)))
      (when_same (closes_at (t + 1) c) change.closed (crash_part m c.zero_tick c.end_tick) crash (sym closed) (λ v. sym (done (sym closed ∙ v))))

  -- what is kept of a candidate that was not confirmed by t
  kept_fresh : (c : Candidate) → IsCandidate (signals_of f) b c → change.confirmed ≡ is_confirmed_at (t + 1) c → change.locked ≡ is_locked_at (signals_of f) (t + 1) c → c.confirmed ≡ first_tick (is_triggered (signals_of f) b.since) c.zero_tick (c.end_tick + 1) → c.zero_tick ≤ t + 1 → t + 1 ≤ c.end_tick → HoldsNowhere (is_triggered (signals_of f) b.since) c.zero_tick (t + 1) → IsPreOfZero f n c.zero_tick fresh → k.linked ≡ last → (w : Bool) → is_triggered (signals_of f) b.since (t + 1) ≡ w → Kept f n t last k.linked c fresh change.confirmed change.locked (tick_if w (t + 1))
  kept_fresh c is confirmed locked found from near nowhere frozen link true here =
      kept_now f n t last k.linked c fresh change.confirmed change.locked confirmed (found ∙ first_tick-is (is_triggered (signals_of f) b.since) c.zero_tick (c.end_tick + 1) (t + 1) (record { from = from; holds = here; none_before = nowhere.none }) (omega arith)) frozen link
  kept_fresh c is confirmed locked found from near nowhere frozen link false here =
      kept_not f n t last k.linked c fresh b change.confirmed change.locked confirmed locked is never frozen link where
        never : (u : ℕ) → u ≤ t + 1 → c.confirmed ≢ Some u
        never u close h =
            let p = is_triggered (signals_of f) b.since in
            let first = first_tick-some p c.zero_tick (c.end_tick + 1) u (sym found ∙ h) in
            elim (cases_lt u (t + 1)) [
              | inl early ↦ not_both (p u) (nowhere.none u first.0.from early) first.0.holds
              | inr late ↦ let e : t + 1 ≡ u = omega arith in not_both (p u) (subst (λ y. p y ≡ false) e here) first.0.holds
            ]

  frozen_is : (y : PrePart) (z : ℕ) → fresh ≡ y → IsPreOfZero f n z y → IsPreOfZero f n z fresh
  frozen_is y z same is = subst (λ (x : PrePart). IsPreOfZero f n z x) (sym same) is

  -- ---- the phase after
  open_after : (z : ℕ) (r l e : Option ℕ) (c : Candidate) → c.zero_tick ≡ z → Kept f n t last k.linked c fresh change.confirmed change.locked r → MatchOption e (Unit {0}) (λ x. after.ended ≡ x) → OpenIs f n after (Open z r l e)
  open_after z r l e c zero kept ended = (
    subst (λ (y : ℕ). IsPreOfZero f n y after.frozen) zero kept.frozen_same,
    subst (λ (y : ℕ). MatchOption r (Unit {0}) (λ _. after.linked ≡ Some (after.frozen.place, y))) zero kept.placed_same,
    ended,
  )

  past_end_after : (z e : ℕ) (r l : Option ℕ) → OpenIs f n after (Open z r l (Some e)) → OpenIs f n after (past_end (t + 1) b z r l e).phase
  past_end_after z e None l h = tt
  past_end_after z e (Some u) l h = by_test (nat_eq (t + 1) (close_of z e)) where
    by_test : (v : Bool) → OpenIs f n after (cond {A = Search} v (record { bounds = record { after = t + 1; since = t + 1 }; phase = Searching }) (record { bounds = b; phase = Open z (Some u) l (Some e) })).phase
    by_test true = tt
    by_test false = h

  next_open_after : (z : ℕ) (r l : Option ℕ) (v : Bool) → (v ≡ true → after.ended ≡ t + 1) → OpenIs f n after (Open z r l None) → OpenIs f n after (next_open (t + 1) b z r l v).phase
  next_open_after z r l true ended h = past_end_after z (t + 1) r l (h.0, h.1, ended refl)
  next_open_after z r l false ended h = h

  closes : (r : Option ℕ) (x y : ℕ) → (is_some r && nat_eq x y) ≡ true → x ≡ y
  closes r x y h = equal x y (and_second (is_some r) (nat_eq x y) h) where
    equal : (x y : ℕ) → nat_eq x y ≡ true → x ≡ y
    equal x y h = grind arith

  -- the close is what the end gives, and the end is 20 to 500 ms after time zero
  abbrev CloseIs : Type 0
  CloseIs = ((pre_after change begun k).key.zero + 20 ≤ after.ended) × (after.ended ≤ (pre_after change begun k).key.zero + RESET) × (close_of (pre_after change begun k).key.zero after.ended ≡ t + 1)

  close_facts : (c : Candidate) (z e : ℕ) → IsCandidate (signals_of f) b c → z ≡ c.zero_tick → e ≡ c.end_tick → closes_at (t + 1) c ≡ true → (z + 20 ≤ e) × (e ≤ z + RESET) × (close_of z e ≡ t + 1)
  close_facts c z e is p q h =
      let early = end-after_zero (signals_of f) b c is in
      let late = end-by_reset (signals_of f) b c is in
      let shut = closes c.confirmed (close_of c.zero_tick c.end_tick) (t + 1) h in
      (omega arith, omega arith, omega arith)

  -- what is confirmed is past the last event, which is closed
  abbrev PastIs : Type 0
  PastIs = (k.linked ≡ last) × (b.after < (pre_after change begun k).key.zero)

  record StepIs (ph : Phase) : Type 0 where
    pub past_is : change.confirmed ≡ true → PastIs
    pub close_is : change.closed ≡ true → CloseIs
    pub issues_are : news f n t (filter_map (event_of (t + 1)) (now_open (signals_of f) (t + 1) b ph)) last ≡ commands_of (issues_at change begun crash k)
    pub linked_are : after.linked ≡ last_from last (map (λ e. e.zero_tick) (filter_map (event_of (t + 1)) (now_open (signals_of f) (t + 1) b ph)))
    pub open_are : OpenIs f n after (next_from (signals_of f) (t + 1) b ph).phase

  ended_now : (v : Bool) → change.ended ≡ v → after.ended ≡ cond v (t + 1) k.ended
  ended_now v e = ap (λ (w : Bool). cond w (t + 1) k.ended) e

  fresh_now : (v : Bool) → change.zero ≡ v → fresh ≡ cond v begun k.frozen
  fresh_now v e = ap (λ (w : Bool). cond w begun k.frozen) e

  zero_after : (c : Candidate) (r : Option ℕ) → Kept f n t last k.linked c fresh change.confirmed change.locked r → (pre_after change begun k).key.zero ≡ c.zero_tick
  zero_after c r kept = zero_of_pre f n (pre_after change begun k).place c.zero_tick (pre_after change begun k) kept.frozen_same

  past_facts : (c : Candidate) (r : Option ℕ) → IsCandidate (signals_of f) b c → Kept f n t last k.linked c fresh change.confirmed change.locked r → change.confirmed ≡ true → PastIs
  past_facts c r is kept v = let zero = zero_after c r kept in let past = zero-past (signals_of f) b c is in (kept.last_same v, omega (arith, zero, past))

  crash_same : (z z' e e' : ℕ) → z ≡ z' → e ≡ e' → crash ≡ crash_part (signals_of f) z e → crash ≡ crash_part (signals_of f) z' e'
  crash_same z z' e e' p q h = h ∙ ap (λ y. crash_part (signals_of f) y e) p ∙ ap (λ y. crash_part (signals_of f) z' y) q

  module _ (begun_is : change.zero ≡ true → IsPreOfZero f n (t + 1) begun) (crash_is : change.closed ≡ true → crash ≡ crash_part (signals_of f) (pre_after change begun k).key.zero after.ended) where
    searching_step : HoldsNowhere (is_time_zero (signals_of f) b) 0 (t + 1) → k.linked ≡ last → (v : Bool) → is_time_zero (signals_of f) b (t + 1) ≡ v → change ≡ change_of_list (signals_of f) (t + 1) (cond v (candidate_at (signals_of f) b.since (t + 1) ∷ []) []) → (news f n t (filter_map (event_of (t + 1)) (cond v (candidate_at (signals_of f) b.since (t + 1) ∷ []) [])) last ≡ commands_of (issues_at change begun crash k)) × (after.linked ≡ last_from last (map (λ e. e.zero_tick) (filter_map (event_of (t + 1)) (cond v (candidate_at (signals_of f) b.since (t + 1) ∷ []) [])))) × OpenIs f n after (cond {A = Search} v (record { bounds = b; phase = Open (t + 1) (tick_if (is_triggered (signals_of f) b.since (t + 1)) (t + 1)) (tick_if (is_locking (signals_of f) (t + 1)) (t + 1)) None }) (record { bounds = b; phase = Searching })).phase × (change.closed ≡ true → CloseIs) × (change.confirmed ≡ true → PastIs)
    unfolding candidate_at
    searching_step nowhere link true here is =
        let m = signals_of f in
        let z = t + 1 in
        let c = candidate_at m b.since z in
        let is_c = candidate_at-is m b z (IsFirst-next (is_time_zero m b) 0 t (omega arith) nowhere here) in
        let long : z + 20 ≤ c.end_tick = end-after_zero m b c is_c in
        let zero : change.zero ≡ true = ap (λ (x : Change). x.zero) is ∙ or_none (nat_eq z z) ∙ nat_eq-same z in
        let confirmed : change.confirmed ≡ is_confirmed_at z c = ap (λ (x : Change). x.confirmed) is ∙ or_none (is_confirmed_at z c) in
        let locked : change.locked ≡ is_locked_at m z c = ap (λ (x : Change). x.locked) is ∙ or_none (is_locked_at m z c) in
        let closed : change.closed ≡ closes_at z c = ap (λ (x : Change). x.closed) is ∙ or_none (closes_at z c) in
        let kept = kept_fresh c is_c confirmed locked refl (omega arith) (omega arith) (record { none = λ u lo hi. absurd (omega arith) }) (frozen_is begun z (fresh_now true zero) (begun_is zero)) link (is_triggered m b.since z) refl in (
          one_issues c (tick_if (is_triggered m b.since z) z) is_c confirmed locked closed kept (λ v. let e = closes c.confirmed (close_of z c.end_tick) z v in absurd (omega arith)),
          kept.linked_same,
          open_after z (tick_if (is_triggered m b.since z) z) (tick_if (is_locking m z) z) None c refl kept tt,
          λ v. let e = closes c.confirmed (close_of z c.end_tick) z (sym closed ∙ v) in absurd (omega arith),
          past_facts c (tick_if (is_triggered m b.since z) z) is_c kept,
        )
    searching_step nowhere link false here is =
        let zero : change.zero ≡ false = ap (λ (x : Change). x.zero) is in
        let confirmed : change.confirmed ≡ false = ap (λ (x : Change). x.confirmed) is in
        let locked : change.locked ≡ false = ap (λ (x : Change). x.locked) is in
        let closed : change.closed ≡ false = ap (λ (x : Change). x.closed) is in
        let mine = pre_after change begun k in (
          issues_same None None None (when change.confirmed mine) (when change.locked mine) (when change.closed crash)
              (ap (λ (v : Bool). when v mine) (sym confirmed)) (ap (λ (v : Bool). when v mine) (sym locked)) (ap (λ (v : Bool). when v crash) (sym closed)),
          ap (λ (v : Bool). cond v (Some (mine.place, mine.key.zero)) k.linked) confirmed ∙ link,
          tt,
          λ v. absurd (not_both change.closed closed v),
          λ v. absurd (not_both change.confirmed confirmed v),
        )

    -- an open candidate that has not ended by t
    open_step : (z : ℕ) (r l : Option ℕ) → PhaseIs (signals_of f) t b (Open z r l None) → OpenIs f n k (Open z r l None) → k.linked ≡ last_from last (map (λ e. e.zero_tick) (filter_map (event_of t) (candidate_at (signals_of f) b.since z ∷ []))) → change ≡ change_of_list (signals_of f) (t + 1) (candidate_at (signals_of f) b.since z ∷ []) → StepIs (Open z r l None)
    unfolding candidate_at
    open_step z r l h o link is = by_confirmed r h.3 o.1 where
      from : z ≤ t
      from = h.1

      later : t < end_of (signals_of f) z
      later = end_later (signals_of f) t z h.2

      is_c : IsCandidate (signals_of f) b (candidate_at (signals_of f) b.since z)
      is_c = candidate_at-is (signals_of f) b z h.0

      zero : change.zero ≡ false
      zero = ap (λ (x : Change). x.zero) is ∙ or_none (nat_eq z (t + 1)) ∙ nat_eq-past z t h.1

      confirmed : change.confirmed ≡ is_confirmed_at (t + 1) (candidate_at (signals_of f) b.since z)
      confirmed = ap (λ (x : Change). x.confirmed) is ∙ or_none (is_confirmed_at (t + 1) (candidate_at (signals_of f) b.since z))

      locked : change.locked ≡ is_locked_at (signals_of f) (t + 1) (candidate_at (signals_of f) b.since z)
      locked = ap (λ (x : Change). x.locked) is ∙ or_none (is_locked_at (signals_of f) (t + 1) (candidate_at (signals_of f) b.since z))

      closed : change.closed ≡ closes_at (t + 1) (candidate_at (signals_of f) b.since z)
      closed = ap (λ (x : Change). x.closed) is ∙ or_none (closes_at (t + 1) (candidate_at (signals_of f) b.since z))

      ends : (v : Bool) → is_end (signals_of f) z (t + 1) ≡ v → change.ended ≡ v
      ends v here = ap (λ (x : Change). x.ended) is ∙ or_none (nat_eq (end_of (signals_of f) z) (t + 1)) ∙ end_now (signals_of f) z t h.1 h.2 v here

      frozen : IsPreOfZero f n z fresh
      frozen = frozen_is k.frozen z (fresh_now false zero) o.0

      shuts : closes_at (t + 1) (candidate_at (signals_of f) b.since z) ≡ true → after.ended ≡ end_of (signals_of f) z
      shuts w =
          let shut : close_of z (end_of (signals_of f) z) ≡ t + 1 = closes (first_tick (is_triggered (signals_of f) b.since) z (end_of (signals_of f) z + 1)) (close_of z (end_of (signals_of f) z)) (t + 1) w in
          let far = later in
          let last_one : t + 1 ≡ end_of (signals_of f) z = omega arith in
          let now : change.ended ≡ true = ap (λ (x : Change). x.ended) is ∙ or_none (nat_eq (end_of (signals_of f) z) (t + 1)) ∙ subst (λ y. nat_eq y (t + 1) ≡ true) last_one (nat_eq-same (t + 1)) in
          ended_now true now ∙ last_one

      finish : (q : Option ℕ) → Kept f n t last k.linked (candidate_at (signals_of f) b.since z) fresh change.confirmed change.locked q → OpenIs f n after (next_open (t + 1) b z q (option_or l (tick_if (is_locking (signals_of f) (t + 1)) (t + 1))) (is_end (signals_of f) z (t + 1))).phase × (news f n t (filter_map (event_of (t + 1)) (candidate_at (signals_of f) b.since z ∷ [])) last ≡ commands_of (issues_at change begun crash k)) × (change.closed ≡ true → CloseIs)
      finish q kept =
          let v = is_end (signals_of f) z (t + 1) in
          let l' = option_or l (tick_if (is_locking (signals_of f) (t + 1)) (t + 1)) in
          let ended : after.ended ≡ cond v (t + 1) k.ended = ended_now v (ends v refl) in (
            next_open_after z q l' v (λ e. ended ∙ ap (λ (w : Bool). cond w (t + 1) k.ended) e) (open_after z q l' None (candidate_at (signals_of f) b.since z) refl kept tt),
            one_issues (candidate_at (signals_of f) b.since z) q is_c confirmed locked closed kept
                (λ w. crash_same (pre_after change begun k).key.zero z after.ended (end_of (signals_of f) z) (zero_after (candidate_at (signals_of f) b.since z) q kept) (shuts w) (crash_is (closed ∙ w))),
            λ v. close_facts (candidate_at (signals_of f) b.since z) (pre_after change begun k).key.zero after.ended is_c (zero_after (candidate_at (signals_of f) b.since z) q kept) (shuts (sym closed ∙ v)) (sym closed ∙ v),
          )

      by_confirmed : (r : Option ℕ) → r ≡ first_tick (is_triggered (signals_of f) b.since) z (t + 1) → MatchOption r (Unit {0}) (λ _. k.linked ≡ Some (k.frozen.place, z)) → StepIs (Open z r l None)
      by_confirmed None found linked =
          let p = is_triggered (signals_of f) b.since in
          let nowhere = first_tick-none p z (t + 1) (sym found) in
          let to_last : k.linked ≡ last = link ∙ unconfirmed_last t last (candidate_at (signals_of f) b.since z) (λ u near e. let first = first_tick-some p z (end_of (signals_of f) z + 1) u e in not_both (p u) (nowhere.none u first.0.from (omega arith)) first.0.holds) in
          let far = later in let begins = from in
          let kept = kept_fresh (candidate_at (signals_of f) b.since z) is_c confirmed locked refl (omega arith) (omega arith) nowhere frozen to_last (p (t + 1)) refl in
          let both = finish (tick_if (p (t + 1)) (t + 1)) kept in
          record { issues_are = both.1; linked_are = kept.linked_same; open_are = both.0; close_is = both.2; past_is = past_facts (candidate_at (signals_of f) b.since z) (tick_if (p (t + 1)) (t + 1)) is_c kept }
      by_confirmed (Some u) found linked =
          let p = is_triggered (signals_of f) b.since in
          let first = first_tick-some p z (t + 1) u (sym found) in
          let far = later in let near = first.1 in
          let still : first_tick p z (end_of (signals_of f) z + 1) ≡ Some u = first_tick-is p z (end_of (signals_of f) z + 1) u first.0 (omega arith) in
          let to_last : k.linked ≡ Some (place_of last z, z) = link ∙ confirmed_last t last (candidate_at (signals_of f) b.since z) u still (omega arith) in
          let same : fresh ≡ k.frozen = fresh_now false zero in
          let linked' : k.linked ≡ Some (fresh.place, z) = subst (λ (x : PrePart). k.linked ≡ Some (x.place, z)) (sym same) linked in
          let kept = kept_before f n t last k.linked (candidate_at (signals_of f) b.since z) fresh u change.confirmed change.locked confirmed still (omega arith) frozen linked' to_last in
          let both = finish (Some u) kept in
          record { issues_are = both.1; linked_are = kept.linked_same; open_are = both.0; close_is = both.2; past_is = past_facts (candidate_at (signals_of f) b.since z) (Some u) is_c kept }

    -- one that has ended at e
    ended_step : (z u e : ℕ) (l : Option ℕ) → PhaseIs (signals_of f) t b (Open z (Some u) l (Some e)) → OpenIs f n k (Open z (Some u) l (Some e)) → k.linked ≡ last_from last (map (λ e. e.zero_tick) (filter_map (event_of t) (record { zero_tick = z; end_tick = e; confirmed = Some u } ∷ []))) → change ≡ change_of_list (signals_of f) (t + 1) (record { zero_tick = z; end_tick = e; confirmed = Some u } ∷ []) → StepIs (Open z (Some u) l (Some e))
    ended_step z u e l h o link is =
        let m = signals_of f in
        let c : Candidate = record { zero_tick = z; end_tick = e; confirmed = Some u } in
        let is_c : IsCandidate m b c = complete m b z e (Some u) h.0 h.1 h.3 in
        let order = h.1.from in
        let ended : e ≤ t = h.2 in
        let near : u ≤ e = confirmed_by_end m b.since z e (Some u) is_c.confirmed_is u refl in
        let zero : change.zero ≡ false = ap (λ (x : Change). x.zero) is ∙ or_none (nat_eq z (t + 1)) ∙ nat_eq-past z t (omega arith) in
        let confirmed : change.confirmed ≡ is_confirmed_at (t + 1) c = ap (λ (x : Change). x.confirmed) is ∙ or_none (is_confirmed_at (t + 1) c) in
        let locked : change.locked ≡ is_locked_at m (t + 1) c = ap (λ (x : Change). x.locked) is ∙ or_none (is_locked_at m (t + 1) c) in
        let closed : change.closed ≡ closes_at (t + 1) c = ap (λ (x : Change). x.closed) is ∙ or_none (closes_at (t + 1) c) in
        let not_now : change.ended ≡ false = ap (λ (x : Change). x.ended) is ∙ or_none (nat_eq e (t + 1)) ∙ nat_eq-past e t ended in
        let end_kept : after.ended ≡ e = ended_now false not_now ∙ o.2 in
        let same : fresh ≡ k.frozen = fresh_now false zero in
        let frozen : IsPreOfZero f n z fresh = frozen_is k.frozen z same o.0 in
        let linked' : k.linked ≡ Some (fresh.place, z) = subst (λ (x : PrePart). k.linked ≡ Some (x.place, z)) (sym same) o.1 in
        let to_last : k.linked ≡ Some (place_of last z, z) = link ∙ confirmed_last t last c u refl (omega arith) in
        let kept = kept_before f n t last k.linked c fresh u change.confirmed change.locked confirmed refl (omega arith) frozen linked' to_last in
        let l' = option_or l (tick_if (is_locking m (t + 1)) (t + 1)) in
        record {
          issues_are = one_issues c (Some u) is_c confirmed locked closed kept (λ w. crash_same (pre_after change begun k).key.zero z after.ended e (zero_after c (Some u) kept) end_kept (crash_is (closed ∙ w)));
          linked_are = kept.linked_same;
          past_is = past_facts c (Some u) is_c kept;
          close_is = λ v. close_facts c (pre_after change begun k).key.zero after.ended is_c (zero_after c (Some u) kept) end_kept (sym closed ∙ v);
          open_are = past_end_after z e (Some u) l' (open_after z (Some u) l' (Some e) c refl kept end_kept);
        }

    phase_step : (ph : Phase) → PhaseIs (signals_of f) t b ph → OpenIs f n k ph → k.linked ≡ last_from last (map (λ e. e.zero_tick) (filter_map (event_of t) (open_candidates (signals_of f) b ph))) → change ≡ change_of_list (signals_of f) (t + 1) (now_open (signals_of f) (t + 1) b ph) → StepIs ph
    phase_step Searching h o link is =
        let r = searching_step h link (is_time_zero (signals_of f) b (t + 1)) refl is in
        record { issues_are = r.0; linked_are = r.1; open_are = r.2; close_is = r.3; past_is = r.4 }
    phase_step (Open z r l None) h o link is = open_step z r l h o link is
    phase_step (Open z None l (Some e)) h o link is = absurd (none_some None refl h.4) where
      none_some : (q : Option ℕ) → q ≡ None → IsSome q → ⊥
      none_some None e h = cc
      none_some (Some x) e h = cc
    phase_step (Open z (Some u) l (Some e)) h o link is = ended_step z u e l h o link is

-- what one tick gives, under what the core knows when it closes it
module _ (f : SensorLists) (n t : ℕ) (s : Search) (k : CoreState) (begun : PrePart) (crash : CrashPart) (change : Change) (h : CoreStandsFor f n t s k) (told : IsTold f n (t + 1) change begun) (crash_is : change.closed ≡ true → crash ≡ crash_part (signals_of f) (pre_after change begun k).key.zero (core_after (t + 1) change begun k).ended) where
  step_is : StepIs f n t s.bounds (last_closed f n t s h.search_is) k change begun crash s.phase
  step_is =
      phase_step f n t s.bounds (last_closed f n t s h.search_is) k change begun crash told.begun_is crash_is s.phase h.search_is.phase_is h.open_is (h.linked_is ∙ last-now f n t s h.search_is) (told.change_is ∙ tick_change-next (signals_of f) t s h.search_is)

  -- the core goes on standing for its lists
  pub core-stands : t + 1 ≤ horizon_of f → CoreStandsFor f n (t + 1) (next_search (signals_of f) (t + 1) s) (core_after (t + 1) change begun k)
  core-stands within = record {
    within = within;
    search_is = StandsFor-next (signals_of f) t s h.search_is;
    linked_is = step_is.linked_are ∙ sym (last-next f n t s h.search_is);
    open_is = step_is.open_are;
  }

  -- and what it issues are the commands of the tick
  pub core-issues : commands f n (t + 1) ≡ commands f n t ++ commands_of (issues_at change begun crash k)
  core-issues = commands-next f n t s h.search_is ∙ ap (λ cs. commands f n t ++ cs) step_is.issues_are

-- where an event closes, its end is 20 to 500 ms after its time zero, and the tick is the close that the end gives
pub core-closes : (f : SensorLists) (n t : ℕ) (s : Search) (k : CoreState) (begun : PrePart) (change : Change) → CoreStandsFor f n t s k → IsTold f n (t + 1) change begun → change.closed ≡ true → ((pre_after change begun k).key.zero + 20 ≤ (core_after (t + 1) change begun k).ended) × ((core_after (t + 1) change begun k).ended ≤ (pre_after change begun k).key.zero + RESET) × (close_of (pre_after change begun k).key.zero (core_after (t + 1) change begun k).ended ≡ t + 1)
core-closes f n t s k begun change h told =
    let crash = crash_part (signals_of f) (pre_after change begun k).key.zero (core_after (t + 1) change begun k).ended in
    let step = step_is f n t s k begun crash change h told (λ _. refl) in step.close_is

-- ---- an event is past the one before it
-- the time zero of that event, if there is one, is at most n
abbrev BeginsBy : ℕ → Option (Place × ℕ) → Type 0
BeginsBy n s = IfSome s (λ l. l.1 ≤ n)

BeginsBy-later : (n k : ℕ) (s : Option (Place × ℕ)) → n ≤ k → BeginsBy n s → BeginsBy k s
BeginsBy-later n k None near h = h
BeginsBy-later n k (Some l) near h = omega (arith, near, h)

-- the events of candidates that leave the search at b begin by then
last_begins : (w : ℕ) (m : Signals) (from b : Bounds) (cs : List Candidate) (s : Option (Place × ℕ)) → CandidatesLead m from cs b → BeginsBy from.after s → BeginsBy b.after (last_from s (map (λ e. e.zero_tick) (filter_map (event_of w) cs)))
last_begins w m from b [] s leads before = subst (λ (y : Bounds). BeginsBy y.after s) leads before
last_begins w m from b (c ∷ cs) s leads before =
    let z = c.zero_tick in
    let next = bounds_after from c in
    let past = zero-past m from c leads.0 in
    let later : z ≤ next.after = bounds_after-later from c leads.0.end_is.from in
    let Goal = λ (o : Option Event). BeginsBy b.after (last_from s (map (λ e. e.zero_tick) (cons_option o (filter_map (event_of w) cs)))) in
    elim (confirmed_by w z c.end_tick c.confirmed) [
      | inl y ↦ subst Goal (sym y.3) (last_begins w m next b cs (Some (place_of s z, z)) leads.1 later)
      | inr y ↦ subst Goal (sym y.1) (last_begins w m next b cs s leads.1 (BeginsBy-later from.after next.after s (omega (arith, past, later)) before))
    ]

-- where a tick confirms an event, its time zero is past that of the last one
pub core-past : (f : SensorLists) (n t : ℕ) (s : Search) (k : CoreState) (begun : PrePart) (change : Change) → CoreStandsFor f n t s k → IsTold f n (t + 1) change begun → change.confirmed ≡ true → ForSome k.linked (λ last. last.1 < (pre_after change begun k).key.zero)
core-past f n t s k begun change h told now =
    let crash = crash_part (signals_of f) (pre_after change begun k).key.zero (core_after (t + 1) change begun k).ended in
    let step = step_is f n t s k begun crash change h told (λ _. refl) in
    let facts = step.past_is now in
    let begins = last_begins (t + 1) (signals_of f) at_start s.bounds h.search_is.closed None h.search_is.leads tt in
    below (last_closed f n t s h.search_is) s.bounds.after (pre_after change begun k).key.zero begins facts.1 facts.0 where
      below : (last : Option (Place × ℕ)) (a z : ℕ) → BeginsBy a last → a < z → k.linked ≡ last → ForSome k.linked (λ l. l.1 < z)
      below None a z begins past same x is = cc
      below (Some l) a z begins past same x is = let e : l.1 ≡ x.1 = of_some l x (sym same ∙ is) in omega (arith, begins, past, e) where
        of_some : (p q : Place × ℕ) → ◌≡◌ {A = Option (Place × ℕ)} (Some p) (Some q) → p.1 ≡ q.1
        of_some p q h = ap second h where
          second : Option (Place × ℕ) → ℕ
          second None = 0
          second (Some r) = r.1
