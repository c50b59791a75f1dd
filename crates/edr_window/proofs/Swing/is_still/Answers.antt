use Rattle.std.proofs.Common.{arith, sym, subst, ◌≤◌, length}
use Rattle.edr_window.specs.Swing.{SwingState, SwingStandsFor}
use Rattle.edr_window.proofs.SwingLemmas.{least-still, greatest-still}
use Rattle.edr_window.proofs.Swing.is_still.Goals as goal

pub returns-clause-least : goal.returns-clause-least
returns-clause-least g c = λ still values h.
    let inv = c.self.invariant in
    let here = subst (λ (s : SwingState). SwingStandsFor g.row.K s values) (sym c.self.view_is) h in
    let some = inv.rests_some still in
    let begun : 1 ≤ length values = let n = here.pushes_are in omega (arith, n, some) in
    least-still g.row.K _ values here begun (inv.high_some some) (inv.high_rests still)

pub returns-clause-greatest : goal.returns-clause-greatest
returns-clause-greatest g c = λ still values h.
    let inv = c.self.invariant in
    let here = subst (λ (s : SwingState). SwingStandsFor g.row.K s values) (sym c.self.view_is) h in
    let some = inv.rests_some still in
    let begun : 1 ≤ length values = let n = here.pushes_are in omega (arith, n, some) in
    greatest-still g.row.K _ values here begun (inv.low_some some) (inv.low_rests still)
