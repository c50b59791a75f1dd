-- First firings that are noted bit by bit.
use Rattle.std.proofs.Common.{arith, sym, subst, ◌≡◌, ◌≢◌, ◌∙◌, ℕ, zero, suc, ◌+◌, ◌<◌, ◌≤◌, ◌⊎◌, inl, inr, Bool, false, nat_eq, refl, ap, Some, None, Option, List, length, length-set}
use Rattle.std.specs.Prelude.{◌↔◌, IsTrue, slice_index_or, slice_set}
use Rattle.std.specs.Option.{option_or}
use Rattle.std.proofs.lemmas.Bool.{cases_lt}
use Rattle.std.proofs.lemmas.List.{ext_get_or, get_or-set_other, get_or-set_same}
use Rattle.std.proofs.lemmas.List.FromFn.{get_or-map-range_with_len}
use Rattle.edr_definitions.specs.Search.{tick_if}
use Rattle.edr_definitions.specs.OpenCrash.{bit_fires, next_firings}

-- the first firing of a bit with one tick more
abbrev pub next_firing : List (Option ℕ) → ℕ → ℕ → ℕ → Option ℕ
next_firing firsts fired at bit = option_or (slice_index_or firsts bit None) (tick_if (bit_fires fired bit) at)

-- the bits below this one are noted, and the others are as they were
pub record AreNoted (firsts : List (Option ℕ)) (fired at bit : ℕ) (noted : List (Option ℕ)) : Type 0 where
  pub long : length noted ≡ 8
  pub done : (k : ℕ) → k < bit → slice_index_or noted k None ≡ next_firing firsts fired at k
  pub rest : (k : ℕ) → bit ≤ k → slice_index_or noted k None ≡ slice_index_or firsts k None

pub AreNoted-next : (firsts noted : List (Option ℕ)) (fired at bit : ℕ) (first : Option ℕ) → AreNoted firsts fired at bit noted → bit < 8 → first ≡ next_firing firsts fired at bit → AreNoted firsts fired at (bit + 1) (slice_set noted bit first)
AreNoted-next firsts noted fired at bit first is within here =
    record {
      long = length-set noted bit first ∙ is.long;
      done = λ k lt. by_place k lt (cases_lt k bit);
      rest = λ k from. let other : k ≢ bit = omega arith in get_or-set_other noted bit k first None other ∙ is.rest k (omega arith);
    } where
      by_place : (k : ℕ) → k < bit + 1 → (k < bit) ⊎ (bit ≤ k) → slice_index_or (slice_set noted bit first) k None ≡ next_firing firsts fired at k
      by_place k lt (inl before) = let other : k ≢ bit = omega arith in get_or-set_other noted bit k first None other ∙ is.done k before
      by_place k lt (inr from) =
          let same : bit ≡ k = omega arith in
          let long = is.long in
          subst (λ (j : ℕ). slice_index_or (slice_set noted bit first) j None ≡ next_firing firsts fired at j) same
          (get_or-set_same noted bit first None (omega (arith, long)) ∙ here)

pub AreNoted-all : (firsts noted : List (Option ℕ)) (fired at : ℕ) → AreNoted firsts fired at 8 noted → noted ≡ next_firings firsts fired at
AreNoted-all firsts noted fired at is =
    ext_get_or None noted (next_firings firsts fired at) is.long
    (λ k lt. let long = is.long in is.done k (omega (arith, long)) ∙ sym (get_or-map-range_with_len (next_firing firsts fired at) 0 8 k k None (omega (arith, long)) (omega arith)))

-- a test of a bit
pub fires-is : (v : Bool) (n : ℕ) → IsTrue v ↔ (n ≡ 1) → v ≡ nat_eq n 1
fires-is v n h = grind arith

-- where no bit fires
none-fires : (k : ℕ) → k < 8 → bit_fires 0 k ≡ false
none-fires zero lt = refl
none-fires (suc zero) lt = refl
none-fires (suc (suc zero)) lt = refl
none-fires (suc (suc (suc zero))) lt = refl
none-fires (suc (suc (suc (suc zero)))) lt = refl
none-fires (suc (suc (suc (suc (suc zero))))) lt = refl
none-fires (suc (suc (suc (suc (suc (suc zero)))))) lt = refl
none-fires (suc (suc (suc (suc (suc (suc (suc zero))))))) lt = refl
none-fires (suc (suc (suc (suc (suc (suc (suc (suc k)))))))) lt = absurd (omega arith)

or-none : (o : Option ℕ) → o ≡ option_or o None
or-none None = refl
or-none (Some n) = refl

pub none-noted : (firsts : List (Option ℕ)) (fired at : ℕ) → length firsts ≡ 8 → fired ≡ 0 → firsts ≡ next_firings firsts fired at
none-noted firsts fired at long none = AreNoted-all firsts firsts fired at (record {
  long = long;
  done = λ k lt. or-none (slice_index_or firsts k None) ∙ ap (λ (v : Bool). option_or (slice_index_or firsts k None) (tick_if v at)) (sym (ap (λ (n : ℕ). bit_fires n k) none ∙ none-fires k lt));
  rest = λ k from. refl;
})
