-- The numbers that banks have.
use Rattle.std.specs.Prelude.{ℕ, ◌≤◌}
use Rattle.edr_image.specs.declared.places.TheConstants.{MOST_BANKS}

-- banks are numbered from 1 to the most that an image has
abbrev pub IsBankNumber : ℕ → Type 0
IsBankNumber m = (1 ≤ m) × (m ≤ MOST_BANKS)
