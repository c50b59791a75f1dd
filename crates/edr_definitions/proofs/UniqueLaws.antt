-- The search that stands for signals up to a tick is one.
use Rattle.std.proofs.Common.{arith, refl, ap, sym, subst, ◌≡◌, ◌∙◌, ℕ, ◌+◌, ◌<◌, ◌≤◌, Some, None, Option, IsSome, MatchOption, List, [], ◌∷◌}
use Rattle.edr_definitions.specs.Ticks.{first_tick, IsFirst, HoldsNowhere}
use Rattle.edr_definitions.specs.Signals.{Signals}
use Rattle.edr_definitions.specs.Selection.{Bounds, is_triggered, is_time_zero, is_end, close_of, Candidate, bounds_after, at_start}
use Rattle.edr_definitions.specs.Commands.{is_locking}
use Rattle.edr_definitions.specs.Facts.{CandidatesLead, IsCandidate}
use Rattle.edr_definitions.specs.Search.{Phase, Searching, Open, Search, AllClosed, PhaseIs, StandsFor}
use Rattle.edr_definitions.proofs.TickLaws.{HoldsNowhere-no_first, IsFirst-unique, first_tick-some}
use Rattle.edr_definitions.proofs.ChainLaws.{IsCandidate-unique}
use Rattle.edr_definitions.proofs.EventLaws.{after_end}

module _ (m : Signals) (t : ℕ) (b : Bounds) where
  phase_unique : (p q : Phase) → PhaseIs m t b p → PhaseIs m t b q → p ≡ q
  phase_unique Searching Searching h k = refl
  phase_unique Searching (Open z c l None) h k = absurd (HoldsNowhere-no_first (is_time_zero m b) 0 (t + 1) z h k.0 (omega (arith, k.1)))
  phase_unique Searching (Open z c l (Some e)) h k = let order = k.1.from in let ended = k.2 in absurd (HoldsNowhere-no_first (is_time_zero m b) 0 (t + 1) z h k.0 (omega arith))
  phase_unique (Open z c l None) Searching h k = absurd (HoldsNowhere-no_first (is_time_zero m b) 0 (t + 1) z k h.0 (omega (arith, h.1)))
  phase_unique (Open z c l (Some e)) Searching h k = let order = h.1.from in let ended = h.2 in absurd (HoldsNowhere-no_first (is_time_zero m b) 0 (t + 1) z k h.0 (omega arith))
  phase_unique (Open z c l None) (Open y d r None) h k =
      let one : z ≡ y = IsFirst-unique (is_time_zero m b) 0 z y h.0 k.0 in
      let same_c : c ≡ d = h.3 ∙ ap (λ x. first_tick (is_triggered m b.since) x (t + 1)) one ∙ sym k.3 in
      let same_l : l ≡ r = h.4 ∙ ap (λ x. first_tick (is_locking m) x (t + 1)) one ∙ sym k.4 in
      ap (λ x. Open x c l None) one ∙ ap (λ x. Open y x l None) same_c ∙ ap (λ x. Open y d x None) same_l
  phase_unique (Open z c l None) (Open y d r (Some e)) h k =
      let one : y ≡ z = IsFirst-unique (is_time_zero m b) 0 y z k.0 h.0 in
      let end : IsFirst (is_end m z) z e = subst (λ x. IsFirst (is_end m x) x e) one k.1 in
      let ended = k.2 in
      absurd (HoldsNowhere-no_first (is_end m z) z (t + 1) e h.2 end (omega arith))
  phase_unique (Open z c l (Some e)) (Open y d r None) h k =
      let one : z ≡ y = IsFirst-unique (is_time_zero m b) 0 z y h.0 k.0 in
      let end : IsFirst (is_end m y) y e = subst (λ x. IsFirst (is_end m x) x e) one h.1 in
      let ended = h.2 in
      absurd (HoldsNowhere-no_first (is_end m y) y (t + 1) e k.2 end (omega arith))
  phase_unique (Open z c l (Some e)) (Open y d r (Some g)) h k =
      let one : z ≡ y = IsFirst-unique (is_time_zero m b) 0 z y h.0 k.0 in
      let end : IsFirst (is_end m y) y e = subst (λ x. IsFirst (is_end m x) x e) one h.1 in
      let same_e : e ≡ g = IsFirst-unique (is_end m y) y e g end k.1 in
      let same_c : c ≡ d = h.3 ∙ ap (λ x. first_tick (is_triggered m b.since) x (e + 1)) one ∙ ap (λ x. first_tick (is_triggered m b.since) y (x + 1)) same_e ∙ sym k.3 in
      let same_l : l ≡ r = h.6 ∙ ap (λ x. first_tick (is_locking m) x (t + 1)) one ∙ sym k.6 in
      ap (λ x. Open x c l (Some e)) one ∙ ap (λ x. Open y x l (Some e)) same_c ∙ ap (λ x. Open y d x (Some e)) same_l ∙ ap (λ (x : ℕ). Open y d r (Some x)) same_e

  -- a candidate that is closed by t is not open at t
  confirmed_close : (z e : ℕ) (r : Option ℕ) → IsSome r → (bounds_after b (record { zero_tick = z; end_tick = e; confirmed = r })).after ≡ close_of z e
  confirmed_close z e None some = cc
  confirmed_close z e (Some u) some = refl

  match_is : (since z e : ℕ) (r : Option ℕ) (o : Option ℕ) → MatchOption r (HoldsNowhere (is_triggered m since) z (e + 1)) (λ x. IsFirst (is_triggered m since) z x × (x ≤ e)) → o ≡ first_tick (is_triggered m since) z (e + 1) → IsSome o → IsSome r
  match_is since z e None None h is some = some
  match_is since z e None (Some u) h is some =
      let found = first_tick-found z e since u (sym is) in absurd (HoldsNowhere-no_first (is_triggered m since) z (e + 1) u h found.0 found.1) where
        first_tick-found : (z e since u : ℕ) → first_tick (is_triggered m since) z (e + 1) ≡ Some u → IsFirst (is_triggered m since) z u × (u < e + 1)
        first_tick-found z e since u k = first_tick-some (is_triggered m since) z (e + 1) u k
  match_is since z e (Some u) o h is some = refl

  not_open : (c : Candidate) → IsCandidate m b c → (bounds_after b c).after ≤ t → (p : Phase) → PhaseIs m t b p → ⊥
  not_open c is closed Searching h =
      let ended = after_end b c in let order = is.end_is.from in
      HoldsNowhere-no_first (is_time_zero m b) 0 (t + 1) c.zero_tick h is.zero_is (omega arith)
  not_open c is closed (Open z d l None) h =
      let one : c.zero_tick ≡ z = IsFirst-unique (is_time_zero m b) 0 c.zero_tick z is.zero_is h.0 in
      let end : IsFirst (is_end m z) z c.end_tick = subst (λ x. IsFirst (is_end m x) x c.end_tick) one is.end_is in
      let ended = after_end b c in
      HoldsNowhere-no_first (is_end m z) z (t + 1) c.end_tick h.2 end (omega arith)
  not_open c is closed (Open z d l (Some e)) h =
      let one : c.zero_tick ≡ z = IsFirst-unique (is_time_zero m b) 0 c.zero_tick z is.zero_is h.0 in
      let end : IsFirst (is_end m z) z c.end_tick = subst (λ x. IsFirst (is_end m x) x c.end_tick) one is.end_is in
      let same_e : c.end_tick ≡ e = IsFirst-unique (is_end m z) z c.end_tick e end h.1 in
      let there : d ≡ first_tick (is_triggered m b.since) c.zero_tick (c.end_tick + 1) = h.3 ∙ ap (λ x. first_tick (is_triggered m b.since) x (e + 1)) (sym one) ∙ ap (λ x. first_tick (is_triggered m b.since) c.zero_tick (x + 1)) (sym same_e) in
      let some : IsSome c.confirmed = match_is b.since c.zero_tick c.end_tick c.confirmed d is.confirmed_is there h.4 in
      let close : (bounds_after b c).after ≡ close_of c.zero_tick c.end_tick = confirmed_close c.zero_tick c.end_tick c.confirmed some in
      let open_yet = h.5 in absurd (omega arith)

search_unique : (m : Signals) (t : ℕ) (from b b' : Bounds) (p p' : Phase) (cs cs' : List Candidate) → CandidatesLead m from cs b → AllClosed t from cs → PhaseIs m t b p → CandidatesLead m from cs' b' → AllClosed t from cs' → PhaseIs m t b' p' → ◌≡◌ {A = Search} (record { bounds = b; phase = p }) (record { bounds = b'; phase = p' })
search_unique m t from b b' p p' [] [] leads closed h leads' closed' h' =
    let e : from ≡ b = leads in
    let e' : from ≡ b' = leads' in
    let same : b' ≡ b = sym e' ∙ e in
    let k : PhaseIs m t b p' = subst (λ (x : Bounds). PhaseIs m t x p') same h' in
    ap (λ (x : Bounds). let s : Search = record { bounds = x; phase = p } in s) (sym same)
    ∙ ap (λ (x : Phase). let s : Search = record { bounds = b'; phase = x } in s) (phase_unique m t b p p' h k)
search_unique m t from b b' p p' [] (d ∷ ds) leads closed h leads' closed' h' =
    let e : from ≡ b = leads in
    absurd (not_open m t from d leads'.0 closed'.0 p (subst (λ (x : Bounds). PhaseIs m t x p) (sym e) h))
search_unique m t from b b' p p' (c ∷ cs) [] leads closed h leads' closed' h' =
    let e : from ≡ b' = leads' in
    absurd (not_open m t from c leads.0 closed.0 p' (subst (λ (x : Bounds). PhaseIs m t x p') (sym e) h'))
search_unique m t from b b' p p' (c ∷ cs) (d ∷ ds) leads closed h leads' closed' h' =
    let one : d ≡ c = IsCandidate-unique m from d c leads'.0 leads.0 in
    search_unique m t (bounds_after from c) b b' p p' cs ds leads.1 closed.1 h (subst (λ (x : Candidate). CandidatesLead m (bounds_after from x) ds b') one leads'.1) (subst (λ (x : Candidate). AllClosed t (bounds_after from x) ds) one closed'.1) h'

pub StandsFor-unique : (m : Signals) (t : ℕ) (s r : Search) → StandsFor m t s → StandsFor m t r → s ≡ r
StandsFor-unique m t s r h k =
    search_unique m t at_start s.bounds r.bounds s.phase r.phase h.closed k.closed h.leads h.all_closed h.phase_is k.leads k.all_closed k.phase_is
