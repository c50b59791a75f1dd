-- A trace, one cycle after the other.
use Rattle.std.proofs.Common.{◌≡◌, ◌∙◌, ◌+◌, ◌++◌, [], ℕ, ap, refl, sym, add-one}
use Rattle.edr_spell.specs.Lines.{text_of}
use Rattle.edr_gen.specs.Draws.{Planned, plan_from, state_past}
use Rattle.edr_gen.specs.Traces.{generated_rows, generated_trace, rows_of}
use Rattle.edr_gen.proofs.TextLemmas.{text-append}

pub no-trace : (x : ℕ) → generated_trace x 0 ≡ []
unfolding generated_rows
no-trace x = refl

rows-next : (x m : ℕ) → generated_rows x (m + 1) ≡ rows_of (plan_from x) ++ generated_rows (state_past x) m
unfolding generated_rows
rows-next x m = ap (generated_rows x) (add-one m)

-- a trace begins with its first cycle
pub trace-next : (x m n : ℕ) (p : Planned) → n ≡ m + 1 → p ≡ plan_from x → generated_trace x n ≡ text_of (rows_of p) ++ generated_trace (state_past x) m
trace-next x m n p e f =
    ap (generated_trace x) e ∙ ap text_of (rows-next x m) ∙ text-append (rows_of (plan_from x)) (generated_rows (state_past x) m)
    ∙ ap (λ (q : Planned). text_of (rows_of q) ++ generated_trace (state_past x) m) (sym f)
