-- The draws of a number, and the plan of a cycle that they give.
use Rattle.std.specs.Prelude.{◌+◌, ◌*◌, ◌/◌, ◌%◌, ◌^◌, ◌==◌, if◌then◌else◌, ℕ, zero, suc, pos, neg_ℤ, List, [], ◌∷◌, ◌++◌}
use Rattle.edr_device.specs.Draw.{next_state}
use Rattle.edr_gen.specs.declared.plan.Impulse.{Impulse}

-- the state after k draws from the state x
unfoldable pub state_after : ℕ → ℕ → ℕ
state_after x zero = x
state_after x (suc k) = next_state (state_after x k)

-- the k-th draw from the state x, counted from 1
unfoldable pub draw : ℕ → ℕ → ℕ
draw x k = state_after x k / 2 ^ 33

-- the impulse in place i, counted from 0, by the five draws that follow k draws
abbrev pub impulse_from : ℕ → ℕ → ℕ → Impulse
impulse_from i x k = record {
  start = 6000 + 4000 * i + draw x (k + 1) % 1000;
  len = 20 + draw x (k + 2) % 80;
  along = neg_ℤ (pos (1000 + draw x (k + 3) % 4000));
  across = pos (draw x (k + 4) % 2000);
  fires = draw x (k + 5) % 4 == 0;
}

-- the first n impulses, after the draw of their number
unfoldable pub impulses_from : ℕ → ℕ → List Impulse
impulses_from x zero = []
impulses_from x (suc n) = impulses_from x n ++ impulse_from n x (5 * n + 1) ∷ []

-- how many impulses the cycle has
abbrev pub impulse_count : ℕ → ℕ
impulse_count x = 1 + draw x 1 % 3

-- the changing call in which the power stops, 0 for none: every eighth cycle is stopped
abbrev pub stop_by : ℕ → ℕ → ℕ
stop_by first second = if first % 8 == 0 then 1 + second % 20 else 0

-- what a cycle is made of
pub record Planned : Type 0 where
  pub impulses : List Impulse
  pub stop : ℕ

-- the plan of the cycle that begins at the state x
unfoldable pub plan_from : ℕ → Planned
plan_from x = record {
  impulses = impulses_from x (impulse_count x);
  stop = stop_by (draw x (5 * impulse_count x + 2)) (draw x (5 * impulse_count x + 3));
}

-- the state after the draws of that cycle
unfoldable pub state_past : ℕ → ℕ
state_past x = state_after x (5 * impulse_count x + 3)
