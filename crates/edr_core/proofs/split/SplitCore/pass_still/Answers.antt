use Rattle.std.proofs.Common.{arith, refl, ap, sym, subst, ◌≡◌, ◌∙◌, false}
use Rattle.std.specs.Prelude.{is_some}
use Rattle.edr_merge.specs.Still.{after_still}
use Rattle.edr_core.specs.declared.split.Events.{Events}
use Rattle.edr_core.specs.SplitContents.{SplitContents}
use Rattle.edr_core.specs.SplitFields.{contents_with, split_contents}
use Rattle.edr_core.specs.Still.{CanPassStill}
use Rattle.edr_core.specs.SplitStandsFor.{SplitCoreStandsFor}
use Rattle.edr_core.proofs.GiveLemmas.{closed-early, merge-free, no-ask}
use Rattle.edr_core.proofs.StillLemmas.{still-room, split-passes, none-open}
use Rattle.edr_core.proofs.split.SplitCore.pass_still.Goals as goal

pub pass_still-requires-2-clause-room : goal.pass_still-requires-2-clause-room
pass_still-requires-2-clause-room c =
    let i = c.self.invariant in
    let value = c.deref_mut-events.ensures.value in
    let events = c.deref_mut-events.result.now in
    let h = subst (λ (v : Events). SplitCoreStandsFor (contents_with c.self.inside v) i.history) (sym value) i.stands in
    let none : is_some events.ask ≡ false = ap (λ (e : Events). is_some e.ask) value ∙ sym i.asking_is ∙ c.if-self.false in
    still-room (contents_with c.self.inside events) i.history h none c.pass_still.new.self
    (c.pass_still.ensures.passes c.if-not-pass_still.false i.history.past (merge-free (contents_with c.self.inside events) i.history h none))

pub overflow_add-self : goal.overflow_add-self
overflow_add-self c = let i = c.self.invariant in let early = closed-early (split_contents c.self.inside) i.history i.stands in omega (arith, early)

pub invariant_of-self-2 : goal.invariant_of-self-2
invariant_of-self-2 c =
    let i = c.self.invariant in
    let value = c.deref_mut-events.ensures.value in
    let events = c.deref_mut-events.result.now in
    let h = subst (λ (v : Events). SplitCoreStandsFor (contents_with c.self.inside v) i.history) (sym value) i.stands in
    let none : is_some events.ask ≡ false = ap (λ (e : Events). is_some e.ask) value ∙ sym i.asking_is ∙ c.if-self.false in
    let passed = split-passes (contents_with c.self.inside events) i.history h none c.pass_still.new.self
    (c.pass_still.ensures.passes c.if-not-pass_still.false i.history.past (merge-free (contents_with c.self.inside events) i.history h none))
    (none-open events.candidate (sym c.is_some.ensures ∙ c.if-is_some.false)) c.pass_still-2.new.self c.pass_still-2.ensures.stands c.pass_still-2.ensures.answer in
    record {
      history = record i.history { past = after_still i.history.past };
      stands = passed.stands;
      asking_is = i.asking_is ∙ ap (λ (e : Events). is_some e.ask) (sym value);
    }

pub returns-clause-passes : goal.returns-clause-passes
returns-clause-passes c = λ _ w before.
    let value = c.deref_mut-events.ensures.value in
    let events = c.deref_mut-events.result.now in
    let h = subst (λ (v : SplitContents). SplitCoreStandsFor v w) (sym (ap (contents_with c.self.inside) value ∙ c.self.view_is)) before in
    let none : is_some events.ask ≡ false = ap (λ (e : Events). is_some e.ask) value ∙ sym c.self.invariant.asking_is ∙ c.if-self.false in
    split-passes (contents_with c.self.inside events) w h none c.pass_still.new.self
    (c.pass_still.ensures.passes c.if-not-pass_still.false w.past (merge-free (contents_with c.self.inside events) w h none))
    (none-open events.candidate (sym c.is_some.ensures ∙ c.if-is_some.false)) c.pass_still-2.new.self c.pass_still-2.ensures.stands c.pass_still-2.ensures.answer

pub returns-clause-answer : goal.returns-clause-answer
returns-clause-answer c = λ w before.
    let value = c.deref_mut-events.ensures.value in
    let events = c.deref_mut-events.result.now in
    let view = ap (contents_with c.self.inside) value ∙ c.self.view_is in
    let h = subst (λ (v : SplitContents). SplitCoreStandsFor v w) (sym view) before in
    let none : is_some events.ask ≡ false = ap (λ (e : Events). is_some e.ask) value ∙ sym c.self.invariant.asking_is ∙ c.if-self.false in (
      λ _. subst (λ (v : SplitContents). CanPassStill v w.past) view (record {
        free = no-ask events.ask none;
        none_open = none-open events.candidate (sym c.is_some.ensures ∙ c.if-is_some.false);
        rests = sym c.is_at_rest.ensures ∙ c.if-not-is_at_rest.false;
        next = (c.pass_still.ensures.passes c.if-not-pass_still.false w.past (merge-free (contents_with c.self.inside events) w h none)).next;
      }),
      λ _. refl,
    )
