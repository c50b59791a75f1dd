-- The sizes of the rings.
use Rattle.std.specs.Prelude.{ℕ}

-- how many items a ring has room for
abbrev pub slots : ℕ
slots = 256

-- how many parts a ring of parts has room for
abbrev pub part_room : ℕ
part_room = 4
