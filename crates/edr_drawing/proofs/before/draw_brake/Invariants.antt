use Rattle.std.proofs.Common.{◌≡◌, ◌++◌, ◌+◌, drop, None}
use Rattle.edr_drawing.specs.Before.{brake_runs}
use Rattle.edr_drawing.proofs.before.draw_brake.Given as goal

-- what is left gives the rest, after the run that was passed last
abbrev pub invariant-loop-slot : goal.invariant-loop-slot
invariant-loop-slot l =
    (l.out.items ++ brake_runs l.profile l.first l.count l.shows (drop l.slot-index l.slots) ≡ l.initial.out.items ++ brake_runs l.profile 0 0 None l.slots)
    × (l.first + l.count ≡ l.slot-index)
