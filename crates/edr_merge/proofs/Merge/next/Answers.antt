use Rattle.std.proofs.Common.{arith, sym, ◌∙◌, ◌+◌}
use Rattle.edr_items.specs.declared.Sensor.TheVariants.{Along}
use Rattle.edr_merge.specs.Fields.{state_of}
use Rattle.edr_merge.proofs.WaitingLemmas.{first_value-bits}
use Rattle.edr_merge.proofs.StandsLemmas.{answer-waiting, answer-row, stands-next, marks-past, row-allowed, waiting-not_allowed}
use Rattle.edr_merge.proofs.SoundLemmas.{sound-closed}
use Rattle.edr_merge.proofs.Merge.next.Goals as goal

pub returns-in-Some-clause-answer : goal.returns-in-Some-clause-answer
returns-in-Some-clause-answer c = λ p stands.
    answer-waiting c.args.self.now (state_of c.self.inside) p c.in-Some.sensor c.self.view_is stands (sym c.lagging.ensures.found ∙ c.in-Some.is)

pub overflow_add-self : goal.overflow_add-self
overflow_add-self c =
    let low = c.self.invariant.closed_low Along in
    let high = c.self.invariant.marks_low Along in
    omega (arith, low, high)

pub restraints-requires : goal.restraints-requires
restraints-requires c = first_value-bits (c.self.inside.closed + 1) c.self.inside.rings.restraint c.take-3.result c.self.invariant.firings c.take-3.ensures.value

pub invariant_of-self-2 : goal.invariant_of-self-2
invariant_of-self-2 c =
    let inside = c.self.inside in
    sound-closed inside c.lagging.new.slow (record { along = c.take.new.self; across = c.take-2.new.self; restraint = c.take-3.new.self }) c.self.invariant c.lagging.ensures.below
    (marks-past inside.marks inside.closed (sym c.lagging.ensures.found ∙ c.in_default.is) c.self.invariant.closed_low)
    (λ i. record { along = c.take.ensures.rest i; across = c.take-2.ensures.rest i; restraint = c.take-3.ensures.rest i })

pub returns-clause-answer : goal.returns-clause-answer
returns-clause-answer c = λ p stands.
    answer-row c.args.self.now (state_of c.self.inside) p c.self.view_is stands (sym c.lagging.ensures.found ∙ c.in_default.is)
    c.take.result c.take-2.result c.take-3.result c.restraints.result c.take.ensures.value c.take-2.ensures.value c.take-3.ensures.value c.restraints.ensures

pub returns-clause-stands : goal.returns-clause-stands
returns-clause-stands c = λ p stands.
    stands-next c.args.self.now (state_of c.self.inside) p c.self.view_is stands (sym c.lagging.ensures.found ∙ c.in_default.is)
    (record { along = c.take.new.self; across = c.take-2.new.self; restraint = c.take-3.new.self })
    (λ i. record { along = c.take.ensures.rest i; across = c.take-2.ensures.rest i; restraint = c.take-3.ensures.rest i })

pub returns-in-Some-clause-allowed : goal.returns-in-Some-clause-allowed
returns-in-Some-clause-allowed c = λ p stands.
    ((λ h. absurd h), waiting-not_allowed c.args.self.now (state_of c.self.inside) p c.in-Some.sensor c.self.view_is stands (sym c.lagging.ensures.found ∙ c.in-Some.is))

pub returns-clause-allowed : goal.returns-clause-allowed
returns-clause-allowed c = λ p stands.
    ((λ _. row-allowed c.args.self.now (state_of c.self.inside) p c.self.view_is stands (sym c.lagging.ensures.found ∙ c.in_default.is)), (λ _. tt))
