-- A new image is kept.
use Rattle.std.proofs.Common.{◌≡◌, ◌⊎◌, ℕ, zero, suc, List, replicate, Some, sym, subst, inl, inr, ⊎_elim}
use Rattle.std.specs.Prelude.{slice_get}
use Rattle.edr_image.specs.declared.Header.{Header}
use Rattle.edr_image.specs.declared.BankView.{BankView}
use Rattle.edr_image.specs.declared.BankView.TheVariants.{Void, Event, Damaged}
use Rattle.edr_image.specs.Kept.{AreKept, IsKept}
use Rattle.edr_banks.specs.Formatting.{IsNew, IsPartlyFormatted, LacksMagic, new_view}

only_void : (n i : ℕ) (b : BankView) → slice_get (replicate n Void) i ≡ Some b → Void ≡ b
only_void zero i b e = absurd cc
only_void (suc n) zero b e = cc
only_void (suc n) (suc i) b e = only_void n i b e

void_kept : (n : ℕ) → AreKept (replicate n Void) 0
void_kept n = record {
  none_damaged = λ i o f l e. let x : Void ≡ Damaged o f l = only_void n i (Damaged o f l) e in cc;
  cycles = λ i r e. let x : Void ≡ Event r = only_void n i (Event r) e in absurd (let y : ⊥ = cc in y);
  keys = λ i j r s e f same. let x : Void ≡ Event r = only_void n i (Event r) e in absurd (let y : ⊥ = cc in y);
}

-- where the image was kept, so is each that a crash may leave, or the magic doesn't stand in it
pub kept_part : (h : Header) (bytes image : List ℕ) → IsPartlyFormatted h bytes image → IsKept bytes → IsKept image ⊎ LacksMagic image
kept_part h bytes image part kept = ⊎_elim
    (λ (same : image ≡ bytes). inl (subst (λ (xs : List ℕ). IsKept xs) (sym same) kept))
    (λ (other : LacksMagic image ⊎ IsNew h bytes image). ⊎_elim
    (λ (none : LacksMagic image). inr none)
    (λ (new : IsNew h bytes image). inl (new_view h, new.view, void_kept h.banks))
    other)
    part.says
