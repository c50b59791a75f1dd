-- What a crash since a moment of a fuse may have left, and what stays from one call to the next.
use Rattle.std.specs.Prelude.{◌≡◌, ◌⊎◌, ◌≤◌, ◌<◌, ◌+◌, min, ℕ, Bool, true, false, List}
use mathlib.Core.Logic.{inl, inr}
use Rattle.std.proofs.Common.{refl, sym, subst, ◌∙◌}
use Rattle.std.proofs.Math.Nat.{min-eq_right, min-le_right, le_refl, le_trans}
use Rattle.std.proofs.lemmas.Bool.{false≢true}
use Rattle.edr_device.specs.Faults.{Rose, last_number}
use Rattle.edr_device.specs.Order.{least_more, less_not_more, below_again, least_one_more}

-- What a crash since a moment of the fuse may have left. `start` is the device's moment at which the fuse's clock began. At a stop
-- the clock stands at `cut`, and before it the moments are those of the device as it was when the power went.
abbrev pub FusedSince : Bool → (cut start now middle : ℕ) → (since since_middle : ℕ → List ℕ → Type 0) → (leaves : List ℕ → Type 0) → ℕ → List ℕ → Type 0
FusedSince false cut start now middle since since_middle leaves t image = since (min (start + t) now) image
FusedSince true cut start now middle since since_middle leaves t image = ((t < cut) × since_middle (min (start + t) middle) image) ⊎ leaves image

pub fused_counts : (spent : Bool) (cut start now middle : ℕ) (since since_middle : ℕ → List ℕ → Type 0) (leaves : List ℕ → Type 0) (t : ℕ) (image : List ℕ)
    → ((u : ℕ) → u ≤ now → since u image) → leaves image → FusedSince spent cut start now middle since since_middle leaves t image
fused_counts false cut start now middle since since_middle leaves t image counts left = counts (min (start + t) now) (min-le_right (start + t) now)
fused_counts true cut start now middle since since_middle leaves t image counts left = inr left

pub fused_only : (spent : Bool) (cut start now middle : ℕ) (since since_middle : ℕ → List ℕ → Type 0) (leaves : List ℕ → Type 0) (ticks : ℕ) (image : List ℕ)
    → (spent ≡ true → cut ≤ ticks) → (spent ≡ false → now ≤ start + ticks) → (since now image → leaves image) → FusedSince spent cut start now middle since since_middle leaves ticks image → leaves image
fused_only false cut start now middle since since_middle leaves ticks image after later only left = only (subst (λ (t : ℕ). since t image) (min-eq_right (later refl)) left)
fused_only true cut start now middle since since_middle leaves ticks image after later only (inl had) = absurd (less_not_more had.0 (after refl))
fused_only true cut start now middle since since_middle leaves ticks image after later only (inr left) = left

pub fused_sooner : (spent : Bool) (cut start now middle : ℕ) (since since_middle : ℕ → List ℕ → Type 0) (leaves : List ℕ → Type 0) (t u : ℕ) (image : List ℕ)
    → ((a b : ℕ) → a ≤ b → b ≤ now → since b image → since a image) → ((a b : ℕ) → a ≤ b → b ≤ middle → since_middle b image → since_middle a image)
    → t ≤ u → FusedSince spent cut start now middle since since_middle leaves u image → FusedSince spent cut start now middle since since_middle leaves t image
fused_sooner false cut start now middle since since_middle leaves t u image sooner sooner' le left = sooner (min (start + t) now) (min (start + u) now) (least_more start t u now le) (min-le_right (start + u) now) left
fused_sooner true cut start now middle since since_middle leaves t u image sooner sooner' le (inl had) = inl (below_again le had.0, sooner' (min (start + t) middle) (min (start + u) middle) (least_more start t u middle le) (min-le_right (start + u) middle) had.1)
fused_sooner true cut start now middle since since_middle leaves t u image sooner sooner' le (inr left) = inr left

-- a fuse that was not spent and is spent later was cut in between
pub cut_between : (b c : Bool) (ticks later cut cut' : ℕ) → ticks ≤ later → (b ≡ true → ticks < cut) → (b ≡ true → (c ≡ true) × (cut' ≡ cut)) → (b ≡ false → c ≡ true → later < cut') → c ≡ true → ticks < cut'
cut_between true c ticks later cut cut' le first kept then e = subst (λ (n : ℕ). ticks < n) (sym (kept refl).1) (first refl)
cut_between false c ticks later cut cut' le first kept then e = below_again le (then refl e)

-- it is broken anew only where the device's count rose in between; that count never falls
pub record Breaks (before after : Bool) (count count' : ℕ) : Type 0 where
  pub later : count ≤ count'
  pub cause : before ≡ false → after ≡ true → Rose count count'

pub not_both : {b : Bool} {A : Type 0} → b ≡ false → b ≡ true → A
not_both e f = absurd (false≢true (sym e ∙ f))

pub breaks_self : (b : Bool) (count : ℕ) → Breaks b b count count
breaks_self b count = record { later = le_refl count; cause = λ e f. not_both e f }

pub breaks_again : (a b c : Bool) (x y z : ℕ) → Breaks a b x y → Breaks b c y z → Breaks a c x z
breaks_again a true c x y z p q = record { later = le_trans p.later q.later; cause = λ e f. le_trans (p.cause e refl) q.later }
breaks_again a false c x y z p q = record { later = le_trans p.later q.later; cause = λ e f. le_trans (least_one_more x y last_number p.later) (q.cause refl f) }
