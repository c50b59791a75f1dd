-- How many words a table has.
use Rattle.std.specs.Prelude.{◌≡◌, ℕ}
use Rattle.atomic_table.specs.Seated.{TableId}

-- it has so many words, and nothing beside them
abbrev pub HasOnlyWords : ℕ → TableId → Type 0
HasOnlyWords n t = (t.words ≡ n) × (t.slots ≡ 0)
