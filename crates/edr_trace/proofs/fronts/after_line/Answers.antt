use Rattle.std.proofs.Common.{refl, ap, ap₂, inl, inr, ℕ, List, [], ◌∷◌}
use Rattle.edr_trace.proofs.fronts.after_line.Goals as goal

pub returns-then-end-eq10 : goal.returns-then-end-eq10
returns-then-end-eq10 c = record { text = 10 ∷ []; is_end = inl refl; parts = ap (λ (x : ℕ). x ∷ c.args.bytes.now) c.if-end-eq10.true }

pub returns-in-Some : goal.returns-in-Some
returns-in-Some c = record { text = 13 ∷ 10 ∷ []; is_end = inr (inr refl); parts = ap₂ (λ (x : ℕ) (y : List ℕ). x ∷ y) c.if-end-ne13.false c.in-Some.ensures }

pub returns-in-None : goal.returns-in-None
returns-in-None c = record { text = 13 ∷ []; is_end = inr (inl refl); parts = ap (λ (x : ℕ). x ∷ c.args.bytes.now) c.if-end-ne13.false }
