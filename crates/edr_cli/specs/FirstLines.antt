-- How bytes are parted, which the clauses don't cite.
use Rattle.std.specs.Prelude.{◌≢◌, ◌<◌, ℕ, List, length, slice_index}

-- none of the bytes is this one
abbrev pub Lacks : ℕ → List ℕ → Type 0
Lacks byte bytes = (k : ℕ) → k < length bytes → slice_index bytes k ≢ byte
