-- One draw more.
use Rattle.std.proofs.Common.{arith, ◌≡◌, ◌∙◌, ◌+◌, ◌*◌, ℕ, List, [], ◌∷◌, ◌++◌, ap, ap₂, refl, add-one}
use Rattle.edr_device.specs.Draw.{next_state}
use Rattle.edr_gen.specs.declared.plan.Impulse.{Impulse}
use Rattle.edr_gen.specs.Draws.{Planned, draw, impulse_count, impulse_from, impulses_from, plan_from, state_after, state_past, stop_by}

pub state-next : (x k : ℕ) → state_after x (k + 1) ≡ next_state (state_after x k)
unfolding state_after
state-next x k = ap (state_after x) (add-one k)

pub no-draws : (x : ℕ) → state_after x 0 ≡ x
unfolding state_after
no-draws x = refl

pub no-impulses : (x : ℕ) → impulses_from x 0 ≡ []
unfolding impulses_from
no-impulses x = refl

pub impulses-next : (x n : ℕ) → impulses_from x (n + 1) ≡ impulses_from x n ++ impulse_from n x (5 * n + 1) ∷ []
unfolding impulses_from
impulses-next x n = ap (impulses_from x) (add-one n)

abbrev plan_of : List Impulse → ℕ → Planned
plan_of impulses stop = record { impulses = impulses; stop = stop }

-- the plan by the numbers of draws before its parts
pub planned : (x n stop : ℕ) (impulses : List Impulse) → n ≡ impulse_count x → impulses ≡ impulses_from x n → stop ≡ stop_by (draw x (5 * n + 1 + 1)) (draw x (5 * n + 1 + 2))
    → plan_of impulses stop ≡ plan_from x
unfolding plan_from
planned x n stop impulses e f g =
    let u : 5 * n + 1 + 1 ≡ 5 * impulse_count x + 2 = omega (arith, e) in
    let v : 5 * n + 1 + 2 ≡ 5 * impulse_count x + 3 = omega (arith, e) in
    ap₂ plan_of (f ∙ ap (impulses_from x) e) (g ∙ ap₂ (λ (i j : ℕ). stop_by (draw x i) (draw x j)) u v)

pub past : (x n state : ℕ) → n ≡ impulse_count x → state ≡ state_after x (5 * n + 1 + 2) → state ≡ state_past x
unfolding state_past
past x n state e f = f ∙ ap (state_after x) (omega (arith, e))
