-- Laws of the sample of a tick.
use Rattle.std.proofs.Common.{arith, refl, ◌≡◌, ◌∙◌, ◌≢◌, ℕ, zero, suc, ◌<◌, true, false, nat_eq, None, List, [], ◌∷◌, length, get_or}
use Rattle.edr_items.specs.declared.Item.{Item}
use Rattle.edr_definitions.specs.Signals.{sample_at}

-- an item of another moment does not matter
pub sample_at-other : (x : Item) (xs : List Item) (t : ℕ) → x.moment ≢ t → sample_at (x ∷ xs) t ≡ sample_at xs t
unfolding sample_at
sample_at-other x xs t other = let e : nat_eq x.moment t ≡ false = grind arith in rw e refl

-- the first item has this moment
pub sample_at-here : (x : Item) (xs : List Item) (t : ℕ) → x.moment ≡ t → sample_at (x ∷ xs) t ≡ x.value
unfolding sample_at
sample_at-here x xs t here = let e : nat_eq x.moment t ≡ true = grind arith in rw e refl

-- no item has this moment
pub sample_at-none : (xs : List Item) (t : ℕ) (d : Item) → ((k : ℕ) → k < length xs → (get_or xs k d).moment ≢ t) → sample_at xs t ≡ None
sample_at-none [] t d none = unfold sample_at in refl
sample_at-none (x ∷ xs) t d none = sample_at-other x xs t (none 0 (omega arith)) ∙ sample_at-none xs t d (λ k lt. none (suc k) (omega arith))

-- the first item of this moment has its sample
pub sample_at-first : (xs : List Item) (t i : ℕ) (d : Item) → i < length xs → ((k : ℕ) → k < i → (get_or xs k d).moment ≢ t) → (get_or xs i d).moment ≡ t → sample_at xs t ≡ (get_or xs i d).value
sample_at-first [] t i d in_list none here = absurd (omega arith)
sample_at-first (x ∷ xs) t zero d in_list none here = sample_at-here x xs t here
sample_at-first (x ∷ xs) t (suc i) d in_list none here =
    sample_at-other x xs t (none 0 (omega arith)) ∙ sample_at-first xs t i d (omega arith) (λ k lt. none (suc k) (omega arith)) here
