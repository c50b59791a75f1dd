-- Signals whose tests are the same have the same search, and the same stands at each tick.
use Rattle.std.proofs.Common.{arith, refl, ap, sym, ◌≡◌, ◌∙◌, ℕ, ◌+◌, ◌≤◌, Bool, false, Some, None, Option, List, [], ◌∷◌}
use Rattle.edr_definitions.specs.Ticks.{first_tick}
use Rattle.edr_definitions.specs.Signals.{Signals}
use Rattle.edr_definitions.specs.Windows.{filled_signals}
use Rattle.edr_definitions.specs.Selection.{Bounds, is_triggered, is_time_zero, is_end, Candidate, bounds_after, at_start}
use Rattle.edr_definitions.specs.Commands.{is_locking}
use Rattle.edr_definitions.specs.Facts.{CandidatesLead, AgreeUpTo}
use Rattle.edr_definitions.specs.Search.{Phase, Searching, Open, Search, AllClosed, PhaseIs, StandsFor}
use Rattle.edr_definitions.specs.Change.{tick_change, stepped_change}
use Rattle.edr_definitions.proofs.AgreeLaws.{first_tick-agree, IsFirst-agree, HoldsNowhere-agree, SameTests, SameTests-before, SameTests-then, SameTests-back, SameTests-agree, SameTests-filled, IsCandidate-tests}
use Rattle.edr_definitions.proofs.EventLaws.{after_end}
use Rattle.edr_definitions.proofs.TickChangeLaws.{tick_change-is}

-- ---- the search
module _ (t : ℕ) (m n : Signals) (same : SameTests t m n) where
  leads_same : (from b : Bounds) (cs : List Candidate) → AllClosed t from cs → CandidatesLead m from cs b → CandidatesLead n from cs b
  leads_same from b [] closed h = h
  leads_same from b (c ∷ cs) closed h =
      let ended = after_end from c in
      (IsCandidate-tests t m n same from c (omega (arith, ended, closed.0)) h.0, leads_same (bounds_after from c) b cs closed.1 h.1)

  found_same : (p q : ℕ → Bool) (z e : ℕ) (r : Option ℕ) → ((u : ℕ) → u ≤ e → p u ≡ q u) → r ≡ first_tick p z (e + 1) → r ≡ first_tick q z (e + 1)
  found_same p q z e r each h = h ∙ first_tick-agree p q z (e + 1) (λ u lo hi. each u (omega arith))

  phase_same : (b : Bounds) (ph : Phase) → PhaseIs m t b ph → PhaseIs n t b ph
  phase_same b Searching h = HoldsNowhere-agree (is_time_zero m b) (is_time_zero n b) 0 (t + 1) (λ u lo hi. same.zero b u (omega arith)) h
  phase_same b (Open z c l None) h = (
    IsFirst-agree (is_time_zero m b) (is_time_zero n b) 0 z (λ u lo hi. same.zero b u (omega (arith, h.1))) h.0,
    h.1,
    HoldsNowhere-agree (is_end m z) (is_end n z) z (t + 1) (λ u lo hi. same.end z u (omega arith)) h.2,
    found_same (is_triggered m b.since) (is_triggered n b.since) z t c (λ u near. same.trigger b.since u near) h.3,
    found_same (is_locking m) (is_locking n) z t l (λ u near. same.lock u near) h.4,
  )
  phase_same b (Open z c l (Some e)) h =
      let order = h.1.from in let ended = h.2 in (
        IsFirst-agree (is_time_zero m b) (is_time_zero n b) 0 z (λ u lo hi. same.zero b u (omega arith)) h.0,
        IsFirst-agree (is_end m z) (is_end n z) z e (λ u lo hi. same.end z u (omega arith)) h.1,
        h.2,
        found_same (is_triggered m b.since) (is_triggered n b.since) z e c (λ u near. same.trigger b.since u (omega arith)) h.3,
        h.4,
        h.5,
        found_same (is_locking m) (is_locking n) z t l (λ u near. same.lock u near) h.6,
      )

  -- what stands for signals stands for others with the same tests so far
  pub StandsFor-tests : (s : Search) → StandsFor m t s → StandsFor n t s
  StandsFor-tests s h = record {
    closed = h.closed;
    leads = leads_same at_start s.bounds h.closed h.all_closed h.leads;
    all_closed = h.all_closed;
    past = h.past;
    phase_is = phase_same s.bounds s.phase h.phase_is;
  }

pub StandsFor-agree : (t : ℕ) (m n : Signals) (s : Search) → AgreeUpTo t m n → StandsFor m t s → StandsFor n t s
StandsFor-agree t m n s same h = StandsFor-tests t m n (SameTests-agree t m n same) s h

-- ---- what stands at the next tick
-- whether the open candidate ends at a tick
abbrev pub end_test : Signals → ℕ → Phase → Bool
end_test m t Searching = false
end_test m t (Open z c l e) = is_end m z t

pub end_test-is : (m : Signals) (t : ℕ) (ph : Phase) (z : ℕ) (c l : Option ℕ) → ph ≡ Open z c l None → end_test m t ph ≡ is_end m z t
end_test-is m t ph z c l h = ap (λ (x : Phase). end_test m t x) h

end_test-same : (t : ℕ) (m n : Signals) (ph : Phase) → SameTests t m n → end_test m t ph ≡ end_test n t ph
end_test-same t m n Searching same = refl
end_test-same t m n (Open z c l e) same = same.end z t (omega arith)

pub tick_change-tests : (t : ℕ) (m n : Signals) (s : Search) → SameTests (t + 1) m n → StandsFor m t s → tick_change m (t + 1) ≡ tick_change n (t + 1)
tick_change-tests t m n s same h =
    let there : StandsFor n t s = StandsFor-tests t m n (SameTests-before (t + 1) t m n (omega arith) same) s h in
    let zero : is_time_zero m s.bounds (t + 1) ≡ is_time_zero n s.bounds (t + 1) = same.zero s.bounds (t + 1) (omega arith) in
    let trigger : is_triggered m s.bounds.since (t + 1) ≡ is_triggered n s.bounds.since (t + 1) = same.trigger s.bounds.since (t + 1) (omega arith) in
    let lock : is_locking m (t + 1) ≡ is_locking n (t + 1) = same.lock (t + 1) (omega arith) in
    let end : end_test m (t + 1) s.phase ≡ end_test n (t + 1) s.phase = end_test-same (t + 1) m n s.phase same in
    tick_change-is m t s (end_test m (t + 1) s.phase) h (end_test-is m (t + 1) s.phase)
    ∙ ap (λ (v : Bool). stepped_change (t + 1) v (is_triggered m s.bounds.since (t + 1)) (is_locking m (t + 1)) (end_test m (t + 1) s.phase) s.phase) zero
    ∙ ap (λ (v : Bool). stepped_change (t + 1) (is_time_zero n s.bounds (t + 1)) v (is_locking m (t + 1)) (end_test m (t + 1) s.phase) s.phase) trigger
    ∙ ap (λ (v : Bool). stepped_change (t + 1) (is_time_zero n s.bounds (t + 1)) (is_triggered n s.bounds.since (t + 1)) v (end_test m (t + 1) s.phase) s.phase) lock
    ∙ ap (λ (v : Bool). stepped_change (t + 1) (is_time_zero n s.bounds (t + 1)) (is_triggered n s.bounds.since (t + 1)) (is_locking n (t + 1)) v s.phase) end
    ∙ sym (tick_change-is n t s (end_test n (t + 1) s.phase) there (end_test-is n (t + 1) s.phase))

-- signals whose changes are the same, a missing sample counting as 0, and which fire the same restraints
pub SameTests-changes : (t : ℕ) (m n : Signals) → AgreeUpTo t (filled_signals m) (filled_signals n) → SameTests t m n
SameTests-changes t m n same =
    SameTests-then t m (filled_signals m) n (SameTests-back t (filled_signals m) m (SameTests-filled t m))
    (SameTests-then t (filled_signals m) (filled_signals n) n (SameTests-agree t (filled_signals m) (filled_signals n) same) (SameTests-filled t n))
