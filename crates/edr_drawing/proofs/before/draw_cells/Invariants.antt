use Rattle.std.proofs.Common.{◌≡◌, ◌++◌, ◌+◌, drop}
use Rattle.edr_drawing.specs.Before.{cells}
use Rattle.edr_drawing.proofs.before.draw_cells.Given as goal

-- what is left gives the rest, after the absent slots that were passed last
abbrev pub invariant-loop-slot : goal.invariant-loop-slot
invariant-loop-slot l =
    (l.out.items ++ cells l.profile l.lane l.first l.absent (drop l.slot-index l.slots) ≡ l.initial.out.items ++ cells l.profile l.lane 0 0 l.slots)
    × (l.first + l.absent ≡ l.slot-index)
