use Rattle.std.proofs.Common.{◌≡◌, ◌++◌, drop}
use Rattle.edr_drawing.specs.After.{chart_rows}
use Rattle.edr_drawing.proofs.after.draw_rows.Given as goal

-- what is left gives the rest
abbrev pub invariant-loop-i : goal.invariant-loop-i
invariant-loop-i l =
    l.out.items ++ chart_rows (λ w. w.0.now) (λ w. w.1) l.scale l.crash l.i (drop l.i l.rows)
    ≡ l.initial.out.items ++ chart_rows (λ w. w.0.now) (λ w. w.1) l.scale l.crash 0 l.rows
