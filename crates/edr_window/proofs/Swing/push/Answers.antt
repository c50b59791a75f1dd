use Rattle.std.proofs.Common.{arith, ap, sym, subst, ◌≡◌, ◌∙◌, ◌++◌, ◌∷◌, [], ℤ, pos, to_z, of_z, w64}
use Rattle.edr_window.specs.Swing.{SwingStandsFor}
use Rattle.edr_window.proofs.SwingLemmas.{back-small}
use Rattle.edr_window.proofs.Swing.push.Goals as goal

pub returns-then-self-clause-stands : goal.returns-then-self-clause-stands
returns-then-self-clause-stands g c = λ values h.
    let v_is : to_z w64 (of_z w64 c.args.v) ≡ c.args.v = back-small c.args.v (let s = c.requires.small in omega arith) in
    let none : c.args.v ≡ pos 0 = sym v_is ∙ ap (to_z w64) c.if-v-eq0.true in
    subst (λ (v : ℤ). SwingStandsFor g.row.K c.push_still.new.self (values ++ v ∷ [])) (sym none) (c.push_still.ensures.stands values h)

pub returns-clause-stands : goal.returns-clause-stands
returns-clause-stands g c =
    let v_is : to_z w64 (of_z w64 c.args.v) ≡ c.args.v = back-small c.args.v (let s = c.requires.small in omega arith) in
    simp v_is at c.put.ensures.stands
