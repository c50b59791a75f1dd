-- A desk that is lent while it may be in a thread of its own.
use Rattle.std.specs.Prelude.{ℕ, Option, Some, None, ⊤}
use Rattle.edr_loops.specs.declared.recorder.Desk.{Desk}
use Rattle.edr_loops.specs.Recorders.{LaterUpTo}

-- where there was a desk there is one, and it is later, with no tick closed past this one
abbrev pub LaterIn : ℕ → Option Desk → Option Desk → Type 0
LaterIn t None b = ⊤
LaterIn t (Some a) None = ⊥
LaterIn t (Some a) (Some b) = LaterUpTo t a b
