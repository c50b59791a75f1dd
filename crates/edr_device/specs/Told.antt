-- What an object tells of its bytes. It may tell nothing.
use Rattle.std.specs.Prelude.{ℕ, List, Option, Some, None, ⊤}

-- a call does this to the bytes that the object tells, if it tells them, and does not begin or cease to tell them
abbrev pub Told : (List ℕ → List ℕ → Type 0) → Option (List ℕ) → Option (List ℕ) → Type 0
Told does None None = ⊤
Told does (Some old) (Some new) = does old new
Told does None (Some new) = ⊥
Told does (Some old) None = ⊥
