use Rattle.std.proofs.Common.{arith, refl, subst, sym, ◌∙◌, ◌≡◌, Bool, IsTrue, false}
use Rattle.edr_merge.specs.Fields.{state_of}
use Rattle.edr_merge.specs.State.{MergeState}
use Rattle.edr_merge.specs.StandsFor.{MergeStandsFor}
use Rattle.edr_merge.proofs.StillLemmas.{along-marked, across-marked, slow-past, fires-not_next, passes-still, is-next, still-within, sound-still}
use Rattle.edr_merge.proofs.Merge.pass_still.Goals as goal
use Rattle.edr_merge.proofs.Merge.pass_still.Goals.{then-self-via-then-self, then-self-via-else-self+then-self-2, then-not-is_before_slow-via-then-not-is_before_slow, then-not-is_before_slow-via-else-not-is_before_slow+then-has}

told-not : (b : Bool) → b ≡ false → IsTrue b → ⊥
told-not b is told = absurd (cc)

pub returns-then-self-clause-answer : goal.returns-then-self-clause-answer
returns-then-self-clause-answer c = λ p before.
    let h : MergeStandsFor (state_of c.self.inside) p = subst (λ (v : MergeState). MergeStandsFor v p) (sym c.self.view_is) before in (
      λ told. absurd (cc),
      λ next. absurd (elim c.then-self.branch [
        | then-self-via-then-self w ↦ w.if-self.true (along-marked (state_of c.self.inside) p h next)
        | then-self-via-else-self+then-self-2 w ↦ w.if-self-2.true (across-marked (state_of c.self.inside) p h next)
      ]),
    )

pub overflow_add-self-inside : goal.overflow_add-self-inside
overflow_add-self-inside c = let within = still-within c.self.inside c.self.invariant (c.is_before_slow.ensures.answer.0 c.if-not-is_before_slow.false) in omega (arith, within)

pub returns-then-not-is_before_slow-clause-answer : goal.returns-then-not-is_before_slow-clause-answer
returns-then-not-is_before_slow-clause-answer c = λ p before.
    let h : MergeStandsFor (state_of c.self.inside) p = subst (λ (v : MergeState). MergeStandsFor v p) (sym c.self.view_is) before in (
      λ told. absurd (cc),
      λ next. absurd (elim c.then-not-is_before_slow.branch [
        | then-not-is_before_slow-via-then-not-is_before_slow w ↦ told-not c.is_before_slow.result w.if-not-is_before_slow.true (c.is_before_slow.ensures.answer.1 (slow-past (state_of c.self.inside) p h next))
        | then-not-is_before_slow-via-else-not-is_before_slow+then-has w ↦
            let below = c.is_before_slow.ensures.answer.0 w.if-not-is_before_slow.false in
            fires-not_next (state_of c.self.inside) p h c.if-self.false c.if-self-2.false below (still-within c.self.inside c.self.invariant below) (sym w.has.ensures ∙ w.if-has.true) c.self.invariant.firings next
      ]),
    )

pub overflow_add-self : goal.overflow_add-self
overflow_add-self c = let within = still-within c.self.inside c.self.invariant (c.is_before_slow.ensures.answer.0 c.if-not-is_before_slow.false) in omega (arith, within)

pub invariant_of-self-2 : goal.invariant_of-self-2
invariant_of-self-2 c = sound-still c.self.inside c.is_before_slow.new.slow c.self.invariant c.is_before_slow.ensures.below (c.is_before_slow.ensures.answer.0 c.if-not-is_before_slow.false)

pub returns-clause-answer : goal.returns-clause-answer
returns-clause-answer c = λ p before.
    let below = c.is_before_slow.ensures.answer.0 c.if-not-is_before_slow.false in (
      λ _. is-next (state_of c.self.inside) p (subst (λ (v : MergeState). MergeStandsFor v p) (sym c.self.view_is) before) c.if-self.false c.if-self-2.false
          below (still-within c.self.inside c.self.invariant below) (sym c.has.ensures ∙ c.if-has.false),
      λ _. refl,
    )

pub returns-clause-passes : goal.returns-clause-passes
returns-clause-passes c = λ _ p before.
    let below = c.is_before_slow.ensures.answer.0 c.if-not-is_before_slow.false in
    passes-still (state_of c.self.inside) p (subst (λ (v : MergeState). MergeStandsFor v p) (sym c.self.view_is) before) c.if-self.false c.if-self-2.false
    below (still-within c.self.inside c.self.invariant below) (sym c.has.ensures ∙ c.if-has.false)
