-- What one call takes from a source, and what one call puts into a sink, where the object tells its bytes.
use Rattle.std.specs.Prelude.{◌≡◌, ◌≤◌, ◌↔◌, ℕ, List, [], ◌++◌, length, take, drop, Option, Result, MatchResult}
use Rattle.edr_device.specs.Told.{Told}

-- the first n of the bytes that were left stand at the front of `into'` and are gone; none is taken only where none was left
pub record Moves (n : ℕ) (into into' left left' : List ℕ) : Type 0 where
  pub within : n ≤ length left
  pub moved : into' ≡ take n left ++ drop n into
  pub rest : left' ≡ drop n left
  pub end : (n ≡ 0) ↔ (left ≡ [])

-- nothing is taken and nothing written
pub record Keeps (into into' left left' : List ℕ) : Type 0 where
  pub same_into : into' ≡ into
  pub same_left : left' ≡ left

-- a call on a source moves n bytes out at Ok n, and at Err nothing
abbrev pub Took : {E : Type 0} → List ℕ → List ℕ → Result ℕ E → Option (List ℕ) → Option (List ℕ) → Type 0
Took into into' result left left' = MatchResult result (λ n. Told (Moves n into into') left left') (λ _. Told (Keeps into into') left left')

-- these bytes were put at the end
abbrev pub Appends : List ℕ → List ℕ → List ℕ → Type 0
Appends piece old new = new ≡ old ++ piece

-- a call on a sink appends the first n bytes of the piece at Ok n, and at Err nothing
abbrev pub Put : {E : Type 0} → List ℕ → Result ℕ E → Option (List ℕ) → Option (List ℕ) → Type 0
Put piece result old new = MatchResult result (λ n. Told (Appends (take n piece)) old new) (λ _. Told (λ a b. b ≡ a) old new)
