-- Which cycle is open after some rows.
use Rattle.std.proofs.Common.{◌≡◌, ◌∙◌, sym, ap, refl, zero, suc, Option, Some, None, List, [], ◌∷◌, ◌++◌, map, fold, append_assoc, inl, inr, ◌⊎◌}
use Rattle.std.proofs.lemmas.List.{append-nil}
use Rattle.edr_spell.specs.declared.Row.{Row}
use Rattle.edr_spell.specs.declared.Row.TheVariants as row
use Rattle.edr_spell.specs.Samples.{Sample, row_for}
use Rattle.edr_spell.specs.Fault.{open_next, open_after}
use Rattle.edr_spell.proofs.StandLemmas.{fold-append}

-- an `on,0,` among the rows is the last row but for sensor rows, or there are sensor rows alone
abbrev OpenFrom : Option (List Sample) → List Row → List Sample → Type 0
OpenFrom o rows xs = ((front : List Row) × (rows ≡ front ++ (row.On 0 ∷ map row_for xs))) ⊎ ((ys : List Sample) × (zs : List Sample) × (o ≡ Some ys) × (rows ≡ map row_for zs) × (xs ≡ ys ++ zs))

open-cons : (o : Option (List Sample)) (r : Row) (rows : List Row) (xs : List Sample) → OpenFrom (open_next o r) rows xs → OpenFrom o (r ∷ rows) xs
open-cons o r rows xs (inl h) = inl (r ∷ h.0, ap (λ (x : List Row). r ∷ x) h.1)
open-cons o (row.On zero) rows xs (inr h) =
    let none : [] ≡ h.0 = cc h.2 in
    let same : xs ≡ h.1 = h.4 ∙ ap (λ (x : List Sample). x ++ h.1) (sym none) in
    inl ([], ap (λ (x : List Row). row.On 0 ∷ x) (h.3 ∙ ap (map row_for) (sym same)))
open-cons o (row.On (suc k)) rows xs (inr h) = cc h.2
open-cons None (row.Sample s x) rows xs (inr h) = cc h.2
open-cons (Some ws) (row.Sample s x) rows xs (inr h) =
    let z : Sample = record { sensor = s; item = x } in
    let grown : ws ++ z ∷ [] ≡ h.0 = cc h.2 in
    inr (ws, z ∷ h.1, refl, ap (λ (y : List Row). row.Sample s x ∷ y) h.3, h.4 ∙ ap (λ (y : List Sample). y ++ h.1) (sym grown) ∙ append_assoc ws (z ∷ []) h.1)
open-cons o (row.Cut k) rows xs (inr h) = cc h.2

open-from : (o : Option (List Sample)) (rows : List Row) (xs : List Sample) → fold open_next o rows ≡ Some xs → OpenFrom o rows xs
open-from o [] xs h = inr (xs, [], h, refl, sym (append-nil xs))
open-from o (r ∷ rows) xs h = open-cons o r rows xs (open-from (open_next o r) rows xs h)

pub open-last_on : (rows : List Row) (xs : List Sample) → open_after rows ≡ Some xs → (front : List Row) × (rows ≡ front ++ (row.On 0 ∷ map row_for xs))
unfolding open_after
open-last_on rows xs h = by (open-from None rows xs h)
  where
    by : OpenFrom None rows xs → (front : List Row) × (rows ≡ front ++ (row.On 0 ∷ map row_for xs))
    by (inl k) = k
    by (inr k) = cc k.2

fold-samples : (done xs : List Sample) → fold open_next (Some done) (map row_for xs) ≡ Some (done ++ xs)
fold-samples done [] = ap Some (sym (append-nil done))
fold-samples done (x ∷ xs) = fold-samples (done ++ x ∷ []) xs ∙ ap Some (append_assoc done (x ∷ []) xs)

pub last_on-open : (rows : List Row) (xs : List Sample) → ((front : List Row) × (rows ≡ front ++ (row.On 0 ∷ map row_for xs))) → open_after rows ≡ Some xs
unfolding open_after
last_on-open rows xs h = ap (λ (x : List Row). fold open_next None x) h.1 ∙ fold-append None h.0 (row.On 0 ∷ map row_for xs) ∙ fold-samples [] xs
