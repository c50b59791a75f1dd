-- A locking firing triggers.
use Rattle.std.proofs.Common.{arith, refl, ◌≡◌, ◌≢◌, ℕ, ◌+◌, ◌%◌, ◌≤◌, inl, inr, true, not, nat_eq, Some, None, Option}
use Rattle.std.specs.Prelude.{is_some}
use Rattle.std.proofs.lemmas.Bool.{cases_lt}
use Rattle.edr_definitions.specs.Ticks.{first_tick, IsFirst}
use Rattle.edr_definitions.specs.Signals.{Signals}
use Rattle.edr_definitions.specs.Selection.{is_triggered}
use Rattle.edr_definitions.specs.Commands.{is_locking}
use Rattle.edr_definitions.proofs.TickLaws.{not_both, first_tick-none}
use Rattle.edr_definitions.proofs.FactLaws.{IsTriggered-holds}

fires : (n : ℕ) → not (nat_eq (n % 64) 0) ≡ true → n ≢ 0
fires n h = grind arith

pub lock-triggers : (m : Signals) (since u : ℕ) → is_locking m u ≡ true → is_triggered m since u ≡ true
lock-triggers m since u h = IsTriggered-holds m since u (inl (fires (m.fired u) h))

-- no locking firing comes before the confirmation
pub lock-after : (m : Signals) (since z u l : ℕ) → IsFirst (is_triggered m since) z u → z ≤ l → is_locking m l ≡ true → u ≤ l
lock-after m since z u l first from locks = elim (cases_lt l u) [
  | inl early ↦ absurd (not_both (is_triggered m since l) (first.none_before l from early) (lock-triggers m since l locks))
  | inr late ↦ late
]

lock_confirms_step : (m : Signals) (since z e u : ℕ) → z ≤ u → u ≤ e → is_locking m u ≡ true → (r : Option ℕ) → first_tick (is_triggered m since) z (e + 1) ≡ r → is_some r ≡ true
lock_confirms_step m since z e u from near locks None h =
    absurd (not_both (is_triggered m since u) ((first_tick-none (is_triggered m since) z (e + 1) h).none u from (omega arith)) (lock-triggers m since u locks))
lock_confirms_step m since z e u from near locks (Some x) h = refl

-- a candidate with a locking firing by its end is confirmed
pub lock-confirms : (m : Signals) (since z e u : ℕ) → z ≤ u → u ≤ e → is_locking m u ≡ true → is_some (first_tick (is_triggered m since) z (e + 1)) ≡ true
lock-confirms m since z e u from near locks = lock_confirms_step m since z e u from near locks (first_tick (is_triggered m since) z (e + 1)) refl
