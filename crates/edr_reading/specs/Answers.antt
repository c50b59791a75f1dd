-- What a reader answers: of whole bytes, of numbers and other words in front of some, and of words parted by spaces.
use Rattle.std.specs.Prelude.{◌≡◌, ℕ, List, Option, Some, IfSome, MatchOption, ◌≤◌, false, ⊤, [], ◌∷◌, ◌++◌, decimal, zero, suc, All, map, length, flat_map}
use denote.Ref.{Bor}
use Rattle.edr_text.specs.Numbers.{is_digit}
use Rattle.edr_report.specs.Words.{spaced_words}

-- it read this value, and these bytes are left
abbrev pub GivesValue : {A : Type 0} → A → List ℕ → Option (A × Bor (List ℕ)) → Type 0
GivesValue x more read = MatchOption read ⊥ (λ p. (p.0 ≡ x) × (p.1.now ≡ more))

-- it read a value within its bounds of which the bytes are the words, and reads each such value
pub record Reads {A : Type 0} (words : A → List ℕ) (ok : A → Type 0) (bytes : List ℕ) (result : Option A) : Type 0 where
  pub read : IfSome result (λ x. (bytes ≡ words x) × ok x)
  pub whole : (x : A) → ok x → bytes ≡ words x → result ≡ Some x

-- the same of two values
pub record ReadsTwo {A B : Type 0} (words : A → B → List ℕ) (ok : A → B → Type 0) (bytes : List ℕ) (result : Option (A × B)) : Type 0 where
  pub read : IfSome result (λ p. (bytes ≡ words p.0 p.1) × ok p.0 p.1)
  pub whole : (x : A) (y : B) → ok x y → bytes ≡ words x y → result ≡ Some (x, y)

-- ---- in front of bytes

-- nothing, or bytes of which the first is no digit
abbrev pub EndsNumber : List ℕ → Type 0
EndsNumber [] = ⊤
EndsNumber (b ∷ bs) = is_digit b ≡ false

-- it read a value within its bounds, of which the words stand after these bytes, and what stands after them; it reads each
-- such value that no digit follows
pub record ReadsAfter {A : Type 0} (front : List ℕ) (words : A → List ℕ) (ok : A → Type 0) (bytes : List ℕ) (result : Option (A × Bor (List ℕ))) : Type 0 where
  pub read : IfSome result (λ p. (bytes ≡ front ++ (words p.0 ++ p.1.now)) × ok p.0)
  pub whole : (x : A) (more : List ℕ) → ok x → EndsNumber more → bytes ≡ front ++ (words x ++ more) → GivesValue x more result

-- the same where they stand in front
abbrev pub ReadsFront : {A : Type 0} → (A → List ℕ) → (A → Type 0) → List ℕ → Option (A × Bor (List ℕ)) → Type 0
ReadsFront words ok bytes result = ReadsAfter [] words ok bytes result

-- a number from low to high
abbrev pub IsFromTo : ℕ → ℕ → ℕ → Type 0
IsFromTo low high n = (low ≤ n) × (n ≤ high)

-- two numbers up to this one
abbrev pub AreUpTo : ℕ → ℕ → ℕ → Type 0
AreUpTo high m n = (m ≤ high) × (n ≤ high)

-- a number after other bytes
abbrev pub number_after : List ℕ → ℕ → List ℕ
number_after front n = front ++ decimal n

-- two numbers, with bytes between and after them
abbrev pub two_numbers : List ℕ → List ℕ → ℕ → ℕ → List ℕ
two_numbers middle back m n = decimal m ++ (middle ++ (decimal n ++ back))

-- ---- words parted by one space, of which some were taken

-- words, each with a space before it
abbrev pub each_spaced : List (List ℕ) → List ℕ
each_spaced ws = flat_map (λ w. 32 ∷ w) ws

-- what these words are after so many others
abbrev pub spaced_after : ℕ → List (List ℕ) → List ℕ
spaced_after zero ws = spaced_words ws
spaced_after (suc n) ws = each_spaced ws

-- what stands before the word in this place
abbrev pub space_at : ℕ → List ℕ
space_at zero = []
space_at (suc n) = 32 ∷ []

-- the bytes show these values within bounds, parted by spaces
abbrev pub ShowSlots : {A : Type 0} → (A → List ℕ) → (A → Type 0) → List ℕ → List A → Type 0
ShowSlots words ok bytes xs = (bytes ≡ spaced_words (map words xs)) × All ok xs

-- as many slots were read as stood there, where the bytes show as many; they are those that the bytes show
pub record ReadsSlots {A : Type 0} (words : A → List ℕ) (ok : A → Type 0) (bytes : List ℕ) (old new : List A) (result : Option Unit) : Type 0 where
  pub long : length new ≡ length old
  pub read : IfSome result (λ u. ShowSlots words ok bytes new)
  pub whole : (xs : List A) → length xs ≡ length old → ShowSlots words ok bytes xs → MatchOption result ⊥ (λ u. new ≡ xs)
