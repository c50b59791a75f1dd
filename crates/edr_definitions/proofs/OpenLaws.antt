-- When a candidate is open, by what stands at the ticks.
use Rattle.std.proofs.Common.{arith, refl, ap, sym, ◌≡◌, ◌∙◌, ℕ, ◌+◌, Bool, true, false, cond, ◌&&◌, ◌||◌, not, nat_eq, Some, None, Option, IsSome}
use Rattle.std.specs.Prelude.{is_some, is_none}
use Rattle.std.specs.Option.{option_or}
use Rattle.edr_definitions.specs.Signals.{Signals}
use Rattle.edr_definitions.specs.Selection.{Bounds, is_triggered, is_time_zero, is_end, close_of}
use Rattle.edr_definitions.specs.Commands.{is_locking}
use Rattle.edr_definitions.specs.Search.{Phase, Searching, Open, Search, tick_if, past_end, next_open, next_from, next_search, PhaseIs, StandsFor}
use Rattle.edr_definitions.specs.Change.{Change, tick_change, stepped_change}
use Rattle.edr_definitions.specs.Core.{is_open, no_change}
use Rattle.edr_definitions.proofs.TickLaws.{not_both}
use Rattle.edr_definitions.proofs.TestLaws.{end_test, end_test-is}
use Rattle.edr_definitions.proofs.TickChangeLaws.{tick_change-is}

-- past a tick with this change a candidate is open
abbrev open_by : Bool → Change → Bool
open_by before change = (change.zero || before) && not (change.dropped || change.closed)

nat_eq-swap : (a b : ℕ) → nat_eq a b ≡ nat_eq b a
nat_eq-swap a b = grind arith

-- a confirmed candidate that has ended is open until its close
ended_opens : (t : ℕ) (b : Bounds) (z c e : ℕ) (l : Option ℕ) → is_open (past_end t b z (Some c) l e).phase ≡ not (nat_eq (close_of z e) t)
ended_opens t b z c e l = by_close (nat_eq t (close_of z e)) ∙ ap not (nat_eq-swap t (close_of z e)) where
  by_close : (v : Bool) → is_open (cond {A = Search} v (record { bounds = record { after = t; since = t }; phase = Searching }) (record { bounds = b; phase = Open z (Some c) l (Some e) })).phase ≡ not v
  by_close true = refl
  by_close false = refl

-- one that has not ended yet
open_opens : (t : ℕ) (b : Bounds) (z : ℕ) (now l : Option ℕ) (ends : Bool) → is_open (next_open t b z now l ends).phase ≡ not ((is_none now && ends) || (is_some now && (ends && nat_eq (close_of z t) t)))
open_opens t b z None l true = refl
open_opens t b z None l false = refl
open_opens t b z (Some c) l true = ended_opens t b z c t l
open_opens t b z (Some c) l false = refl

phase_opens : (m : Signals) (t : ℕ) (b : Bounds) (ph : Phase) → PhaseIs m t b ph → is_open (next_from m (t + 1) b ph).phase ≡ open_by (is_open ph) (stepped_change (t + 1) (is_time_zero m b (t + 1)) (is_triggered m b.since (t + 1)) (is_locking m (t + 1)) (end_test m (t + 1) ph) ph)
phase_opens m t b Searching h = by_test (is_time_zero m b (t + 1)) where
  by_test : (v : Bool) → is_open (cond {A = Search} v (record { bounds = b; phase = Open (t + 1) (tick_if (is_triggered m b.since (t + 1)) (t + 1)) (tick_if (is_locking m (t + 1)) (t + 1)) None }) (record { bounds = b; phase = Searching })).phase ≡ open_by false (stepped_change (t + 1) v (is_triggered m b.since (t + 1)) (is_locking m (t + 1)) false Searching)
  by_test true = refl
  by_test false = refl
phase_opens m t b (Open z c l None) h =
    open_opens (t + 1) b z (option_or c (tick_if (is_triggered m b.since (t + 1)) (t + 1))) (option_or l (tick_if (is_locking m (t + 1)) (t + 1))) (is_end m z (t + 1))
phase_opens m t b (Open z None l (Some e)) h = absurd (some None h.4 refl) where
  some : (r : Option ℕ) → IsSome r → r ≡ None → ⊥
  some None h e = cc
  some (Some u) h e = cc
phase_opens m t b (Open z (Some c) l (Some e)) h = ended_opens (t + 1) b z c e (option_or l (tick_if (is_locking m (t + 1)) (t + 1)))

-- what stands at the next tick, by the phase before it
pub change-now : (m : Signals) (t : ℕ) (s : Search) → StandsFor m t s → tick_change m (t + 1) ≡ stepped_change (t + 1) (is_time_zero m s.bounds (t + 1)) (is_triggered m s.bounds.since (t + 1)) (is_locking m (t + 1)) (end_test m (t + 1) s.phase) s.phase
change-now m t s h = tick_change-is m t s (end_test m (t + 1) s.phase) h (end_test-is m (t + 1) s.phase)

-- a candidate is open past a tick where it begins there or was open, and is not dropped or closed there
pub is_open-next : (m : Signals) (t : ℕ) (s : Search) → StandsFor m t s → let change = tick_change m (t + 1) in is_open (next_search m (t + 1) s).phase ≡ ((change.zero || is_open s.phase) && not (change.dropped || change.closed))
is_open-next m t s h = phase_opens m t s.bounds s.phase h.phase_is ∙ ap (open_by (is_open s.phase)) (sym (change-now m t s h))

-- a time zero is where its test holds and no candidate is open
pub zero-is : (m : Signals) (t : ℕ) (s : Search) → StandsFor m t s → (tick_change m (t + 1)).zero ≡ (not (is_open s.phase) && is_time_zero m s.bounds (t + 1))
zero-is m t s h = ap (λ (x : Change). x.zero) (change-now m t s h) ∙ by_phase s.phase where
  by_phase : (ph : Phase) → (stepped_change (t + 1) (is_time_zero m s.bounds (t + 1)) (is_triggered m s.bounds.since (t + 1)) (is_locking m (t + 1)) (end_test m (t + 1) s.phase) ph).zero ≡ (not (is_open ph) && is_time_zero m s.bounds (t + 1))
  by_phase Searching = refl
  by_phase (Open z c l None) = refl
  by_phase (Open z c l (Some e)) = refl

pub zero-open : (m : Signals) (t : ℕ) (s : Search) → StandsFor m t s → is_open s.phase ≡ true → (tick_change m (t + 1)).zero ≡ false
zero-open m t s h opened = zero-is m t s h ∙ ap (λ (v : Bool). not v && is_time_zero m s.bounds (t + 1)) opened

-- nothing else stands while none is
pub nothing-searching : (m : Signals) (t : ℕ) (s : Search) → StandsFor m t s → is_open s.phase ≡ false → (tick_change m (t + 1)).zero ≡ false → tick_change m (t + 1) ≡ no_change
nothing-searching m t s h closed no_zero = change-now m t s h ∙ by_phase s.phase closed (ap (λ (x : Change). x.zero) (sym (change-now m t s h)) ∙ no_zero) where
  by_test : (v : Bool) → v ≡ false → stepped_change (t + 1) v (is_triggered m s.bounds.since (t + 1)) (is_locking m (t + 1)) (end_test m (t + 1) s.phase) Searching ≡ no_change
  by_test true e = absurd (not_both true e refl)
  by_test false e = refl

  by_phase : (ph : Phase) → is_open ph ≡ false → (stepped_change (t + 1) (is_time_zero m s.bounds (t + 1)) (is_triggered m s.bounds.since (t + 1)) (is_locking m (t + 1)) (end_test m (t + 1) s.phase) ph).zero ≡ false → stepped_change (t + 1) (is_time_zero m s.bounds (t + 1)) (is_triggered m s.bounds.since (t + 1)) (is_locking m (t + 1)) (end_test m (t + 1) s.phase) ph ≡ no_change
  by_phase Searching e z = by_test (is_time_zero m s.bounds (t + 1)) z
  by_phase (Open z c l x) e w = absurd (not_both true e refl)
