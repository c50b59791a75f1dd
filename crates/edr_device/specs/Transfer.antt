-- What a whole transfer takes from a source, and what it puts into a sink, where the object tells its bytes.
use Rattle.std.specs.Prelude.{◌≡◌, ◌+◌, ◌≤◌, ◌<◌, ℕ, List, [], ◌++◌, length, take, drop, Result, Ok, Err, ⊤}
use Rattle.edr_device.specs.declared.transfer.TakeFault.{TakeFault}
use Rattle.edr_device.specs.declared.transfer.TakeFault.TheVariants.{TooLong, OutOfMemory, Failed}

-- these bytes were left, and none is left now
abbrev pub GivesAll : List ℕ → List ℕ → List ℕ → Type 0
GivesAll bytes left left' = (left ≡ bytes) × (left' ≡ [])

-- more than limit bytes were left, and limit + 1 of them were taken
abbrev pub GivesTooMany : ℕ → List ℕ → List ℕ → Type 0
GivesTooMany limit left left' = (limit < length left) × (left' ≡ drop (limit + 1) left)

-- some first bytes were taken, and at most so many
abbrev pub GivesAtMost : ℕ → List ℕ → List ℕ → Type 0
GivesAtMost most left left' = (n : ℕ) × (n ≤ most) × (left' ≡ drop n left)

-- some first bytes of the piece were put, and not all of them
abbrev pub AppendsPart : List ℕ → List ℕ → List ℕ → Type 0
AppendsPart piece old new = (n : ℕ) × (n < length piece) × (new ≡ old ++ take n piece)

-- one piece of n bytes is carried from the front of what was left to the end of what was taken
pub record Carries (n : ℕ) (taken taken' left left' : List ℕ) : Type 0 where
  pub carried : taken ++ left ≡ taken' ++ left'
  pub end : n ≡ 0 → left ≡ []

-- which answer comes where no fault was counted: the number of bytes decides, but memory may be wanting
abbrev pub IsAnswerWithin : {T : Type 0} → ℕ → List ℕ → Result T TakeFault → Type 0
IsAnswerWithin limit bytes (Ok v) = length bytes ≤ limit
IsAnswerWithin limit bytes (Err TooLong) = limit < length bytes
IsAnswerWithin limit bytes (Err OutOfMemory) = ⊤
IsAnswerWithin limit bytes (Err Failed) = ⊥
