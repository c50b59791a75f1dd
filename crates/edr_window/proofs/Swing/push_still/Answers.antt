use Rattle.std.proofs.Common.{arith, refl, ap, sym, subst, ◌≡◌, ◌∙◌, ◌<◌, pos, [], true}
use Rattle.edr_items.specs.declared.TheConstants.{LATEST_MOMENT}
use Rattle.edr_window.specs.Swing.{SwingState, SwingStandsFor}
use Rattle.edr_window.proofs.SwingLemmas.{stands-rested, holds-rested}
use Rattle.edr_window.proofs.Swing.push_still.Goals as goal

pub invariant_of-self : goal.invariant_of-self
invariant_of-self g c =
    let q = c.self.inside in
    let room : q.pushes < LATEST_MOMENT = let r = c.requires.room in let e = ap (λ (s : SwingState). s.pushes) c.self.view_is in omega arith in
    let still : q.rests ≡ true = ap (λ (s : SwingState). s.still) c.self.view_is ∙ c.requires.still in
    holds-rested g.row.K q.pushes q.places q.sum q.high q.low q.rests c.self.invariant (pos 0) [] room (c.self.invariant.rests_some still)

pub returns-clause-stands : goal.returns-clause-stands
returns-clause-stands g c = λ values h.
    let q = c.self.inside in
    let still : q.rests ≡ true = ap (λ (s : SwingState). s.still) c.self.view_is ∙ c.requires.still in
    stands-rested g.row.K q.pushes q.places q.sum q.high q.low q.rests c.self.invariant (pos 0) values (subst (λ (s : SwingState). SwingStandsFor g.row.K s values) (sym c.self.view_is) h) still refl
