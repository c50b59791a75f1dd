use Rattle.std.proofs.Common.{rules, sym, subst, ap, ◌≡◌, ◌∙◌, ◌≤◌, ℤ, unsigned_abs, FitsSigned, to_z, of_z, w32, true, false, Option}
use Rattle.std.specs.Prelude.{is_some}
use Rattle.std.proofs.lemmas.Int.{to_z-of_z}
use Rattle.edr_definitions.specs.Schedule.{Close, after_step}
use Rattle.edr_core.specs.declared.ask.OpenAsk.{OpenAsk}
use Rattle.edr_core.specs.Candidate.{no_issues}
use Rattle.edr_core.specs.declared.split.Events.{Events}
use Rattle.edr_core.specs.SplitContents.{SplitContents}
use Rattle.edr_core.specs.SplitFields.{split_contents, contents_with}
use Rattle.edr_core.specs.SplitStandsFor.{SplitCoreStandsFor}
use Rattle.edr_core.proofs.GiveLemmas.{asks-not, no-ask, merge-free}
use Rattle.edr_core.proofs.StepLemmas.{waits-due, room, small-along, small-across, row-in_range, all-short, ask-opens, asks-due, closes-due, can-tell, step-stands, step-commands, step-ticks}
use Rattle.edr_core.proofs.split.SplitCore.close_free.Goals as goal

pub returns-in-Waiting-clause-answer : goal.returns-in-Waiting-clause-answer
returns-in-Waiting-clause-answer c = λ w before.
    let h : SplitCoreStandsFor (split_contents c.self.inside) w = subst (λ (v : SplitContents). SplitCoreStandsFor v w) (sym c.self.view_is) before in
    let none = subst (λ (v : SplitContents). is_some v.ask ≡ false) (sym c.self.view_is) c.requires in
    let merge = merge-free (split_contents c.self.inside) w h none in
    waits-due w c.in-Waiting.sensor (asks-not (split_contents c.self.inside) w h none) (c.in-Waiting.ensures.answer w.past merge)

-- ---- what the calls ask for
pub tick-change-requires-clause-along_small : goal.tick-change-requires-clause-along_small
tick-change-requires-clause-along_small c =
    let i = c.self.invariant in
    let w = i.history in
    let h = (subst (λ (v : Events). SplitCoreStandsFor (contents_with c.self.inside v) i.history) (sym c.deref_mut-events.ensures.value) i.stands) in
    let none = subst (λ (v : SplitContents). is_some v.ask ≡ false) (sym (ap (contents_with c.self.inside) c.deref_mut-events.ensures.value ∙ c.self.view_is)) c.requires in
    let merge = merge-free (contents_with c.self.inside c.deref_mut-events.result.now) w h none in
    let fits : FitsSigned w32 c.unwrap_or.result = search rules in
    subst (λ (v : ℤ). unsigned_abs v ≤ 100_000) (sym (to_z-of_z w32 c.unwrap_or.result fits ∙ c.unwrap_or.ensures))
    (small-along (contents_with c.self.inside c.deref_mut-events.result.now) w h (asks-not (contents_with c.self.inside c.deref_mut-events.result.now) w h none) c.in-Row.tick c.in-Row.along c.in-Row.across c.in-Row.fired (c.in-Row.ensures.answer w.past merge) ((c.in-Row.ensures.allowed w.past merge).0 tt))

pub tick-change-requires-clause-across_small : goal.tick-change-requires-clause-across_small
tick-change-requires-clause-across_small c =
    let i = c.self.invariant in
    let w = i.history in
    let h = (subst (λ (v : Events). SplitCoreStandsFor (contents_with c.self.inside v) i.history) (sym c.deref_mut-events.ensures.value) i.stands) in
    let none = subst (λ (v : SplitContents). is_some v.ask ≡ false) (sym (ap (contents_with c.self.inside) c.deref_mut-events.ensures.value ∙ c.self.view_is)) c.requires in
    let merge = merge-free (contents_with c.self.inside c.deref_mut-events.result.now) w h none in
    let fits : FitsSigned w32 c.unwrap_or-2.result = search rules in
    subst (λ (v : ℤ). unsigned_abs v ≤ 100_000) (sym (to_z-of_z w32 c.unwrap_or-2.result fits ∙ c.unwrap_or-2.ensures))
    (small-across (contents_with c.self.inside c.deref_mut-events.result.now) w h (asks-not (contents_with c.self.inside c.deref_mut-events.result.now) w h none) c.in-Row.tick c.in-Row.along c.in-Row.across c.in-Row.fired (c.in-Row.ensures.answer w.past merge) ((c.in-Row.ensures.allowed w.past merge).0 tt))

pub tick-change-requires-clause-room : goal.tick-change-requires-clause-room
tick-change-requires-clause-room c =
    let i = c.self.invariant in
    let w = i.history in
    let h = (subst (λ (v : Events). SplitCoreStandsFor (contents_with c.self.inside v) i.history) (sym c.deref_mut-events.ensures.value) i.stands) in
    let none = subst (λ (v : SplitContents). is_some v.ask ≡ false) (sym (ap (contents_with c.self.inside) c.deref_mut-events.ensures.value ∙ c.self.view_is)) c.requires in
    let merge = merge-free (contents_with c.self.inside c.deref_mut-events.result.now) w h none in
    room (contents_with c.self.inside c.deref_mut-events.result.now) w h (asks-not (contents_with c.self.inside c.deref_mut-events.result.now) w h none) c.in-Row.tick c.in-Row.along c.in-Row.across c.in-Row.fired (c.in-Row.ensures.answer w.past merge) ((c.in-Row.ensures.allowed w.past merge).0 tt)

pub grow-requires-clause-short : goal.grow-requires-clause-short
grow-requires-clause-short c =
    let i = c.self.invariant in
    let w = i.history in
    let h = (subst (λ (v : Events). SplitCoreStandsFor (contents_with c.self.inside v) i.history) (sym c.deref_mut-events.ensures.value) i.stands) in
    let none = subst (λ (v : SplitContents). is_some v.ask ≡ false) (sym (ap (contents_with c.self.inside) c.deref_mut-events.ensures.value ∙ c.self.view_is)) c.requires in
    let merge = merge-free (contents_with c.self.inside c.deref_mut-events.result.now) w h none in
    all-short (contents_with c.self.inside c.deref_mut-events.result.now) w h (asks-not (contents_with c.self.inside c.deref_mut-events.result.now) w h none) c.in-Row.tick c.in-Row.along c.in-Row.across c.in-Row.fired (c.in-Row.ensures.answer w.past merge) ((c.in-Row.ensures.allowed w.past merge).0 tt)

pub grow-requires-clause-in_range : goal.grow-requires-clause-in_range
grow-requires-clause-in_range c =
    let i = c.self.invariant in
    let w = i.history in
    let h = (subst (λ (v : Events). SplitCoreStandsFor (contents_with c.self.inside v) i.history) (sym c.deref_mut-events.ensures.value) i.stands) in
    let none = subst (λ (v : SplitContents). is_some v.ask ≡ false) (sym (ap (contents_with c.self.inside) c.deref_mut-events.ensures.value ∙ c.self.view_is)) c.requires in
    let merge = merge-free (contents_with c.self.inside c.deref_mut-events.result.now) w h none in
    row-in_range (contents_with c.self.inside c.deref_mut-events.result.now) w h (asks-not (contents_with c.self.inside c.deref_mut-events.result.now) w h none) c.in-Row.tick c.in-Row.along c.in-Row.across c.in-Row.fired (c.in-Row.ensures.answer w.past merge) ((c.in-Row.ensures.allowed w.past merge).0 tt)

pub issue-requires : goal.issue-requires
issue-requires c =
    let i = c.self.invariant in
    let w = i.history in
    let h = (subst (λ (v : Events). SplitCoreStandsFor (contents_with c.self.inside v) i.history) (sym c.deref_mut-events.ensures.value) i.stands) in
    let none = subst (λ (v : SplitContents). is_some v.ask ≡ false) (sym (ap (contents_with c.self.inside) c.deref_mut-events.ensures.value ∙ c.self.view_is)) c.requires in
    let merge = merge-free (contents_with c.self.inside c.deref_mut-events.result.now) w h none in
    let along_fits : FitsSigned w32 c.unwrap_or.result = search rules in
    let across_fits : FitsSigned w32 c.unwrap_or-2.result = search rules in
    can-tell (contents_with c.self.inside c.deref_mut-events.result.now) w h (asks-not (contents_with c.self.inside c.deref_mut-events.result.now) w h none) c.in-Row.tick c.in-Row.along c.in-Row.across c.in-Row.fired (c.in-Row.ensures.answer w.past merge) ((c.in-Row.ensures.allowed w.past merge).0 tt)
    c.tick-change.result c.tick-change.new.self (to_z w32 (of_z w32 c.unwrap_or.result)) (to_z w32 (of_z w32 c.unwrap_or-2.result))
    (to_z-of_z w32 c.unwrap_or.result along_fits ∙ c.unwrap_or.ensures) (to_z-of_z w32 c.unwrap_or-2.result across_fits ∙ c.unwrap_or-2.ensures) c.tick-change.ensures.stands c.tick-change.ensures.answer
    c.next.new.self (c.in-Row.ensures.stands w.past merge) c.if-change.false c.grow.new.candidate c.grow.ensures

-- ---- the tick is a time zero
pub invariant_of-self-then-change : goal.invariant_of-self-then-change
invariant_of-self-then-change c =
    let i = c.self.invariant in
    let w = i.history in
    let h = (subst (λ (v : Events). SplitCoreStandsFor (contents_with c.self.inside v) i.history) (sym c.deref_mut-events.ensures.value) i.stands) in
    let none = subst (λ (v : SplitContents). is_some v.ask ≡ false) (sym (ap (contents_with c.self.inside) c.deref_mut-events.ensures.value ∙ c.self.view_is)) c.requires in
    let merge = merge-free (contents_with c.self.inside c.deref_mut-events.result.now) w h none in
    let along_fits : FitsSigned w32 c.unwrap_or.result = search rules in
    let across_fits : FitsSigned w32 c.unwrap_or-2.result = search rules in
    record {
      history = record w { asking = true };
      stands = ask-opens (contents_with c.self.inside c.deref_mut-events.result.now) w h (asks-not (contents_with c.self.inside c.deref_mut-events.result.now) w h none) c.in-Row.tick c.in-Row.along c.in-Row.across c.in-Row.fired (c.in-Row.ensures.answer w.past merge) ((c.in-Row.ensures.allowed w.past merge).0 tt)
          c.tick-change.result c.tick-change.new.self (to_z w32 (of_z w32 c.unwrap_or.result)) (to_z w32 (of_z w32 c.unwrap_or-2.result))
          (to_z-of_z w32 c.unwrap_or.result along_fits ∙ c.unwrap_or.ensures) (to_z-of_z w32 c.unwrap_or-2.result across_fits ∙ c.unwrap_or-2.ensures) c.tick-change.ensures.stands c.tick-change.ensures.answer
          c.next.new.self (c.in-Row.ensures.stands w.past merge) c.if-change.true c.open.new.self c.open.ensures;
      asking_is = sym (ap (λ (a : Option OpenAsk). is_some a) c.open.ensures);
    }

pub returns-then-change-clause-stands : goal.returns-then-change-clause-stands
returns-then-change-clause-stands c = λ w before.
    let h : SplitCoreStandsFor (contents_with c.self.inside c.deref_mut-events.result.now) w = subst (λ (v : SplitContents). SplitCoreStandsFor v w) (sym (ap (contents_with c.self.inside) c.deref_mut-events.ensures.value ∙ c.self.view_is)) before in
    let none = subst (λ (v : SplitContents). is_some v.ask ≡ false) (sym (ap (contents_with c.self.inside) c.deref_mut-events.ensures.value ∙ c.self.view_is)) c.requires in
    let merge = merge-free (contents_with c.self.inside c.deref_mut-events.result.now) w h none in
    let along_fits : FitsSigned w32 c.unwrap_or.result = search rules in
    let across_fits : FitsSigned w32 c.unwrap_or-2.result = search rules in
    ask-opens (contents_with c.self.inside c.deref_mut-events.result.now) w h (asks-not (contents_with c.self.inside c.deref_mut-events.result.now) w h none) c.in-Row.tick c.in-Row.along c.in-Row.across c.in-Row.fired (c.in-Row.ensures.answer w.past merge) ((c.in-Row.ensures.allowed w.past merge).0 tt)
    c.tick-change.result c.tick-change.new.self (to_z w32 (of_z w32 c.unwrap_or.result)) (to_z w32 (of_z w32 c.unwrap_or-2.result))
    (to_z-of_z w32 c.unwrap_or.result along_fits ∙ c.unwrap_or.ensures) (to_z-of_z w32 c.unwrap_or-2.result across_fits ∙ c.unwrap_or-2.ensures) c.tick-change.ensures.stands c.tick-change.ensures.answer
    c.next.new.self (c.in-Row.ensures.stands w.past merge) c.if-change.true c.open.new.self c.open.ensures

pub returns-then-change-clause-answer : goal.returns-then-change-clause-answer
returns-then-change-clause-answer c = λ w before.
    let h : SplitCoreStandsFor (contents_with c.self.inside c.deref_mut-events.result.now) w = subst (λ (v : SplitContents). SplitCoreStandsFor v w) (sym (ap (contents_with c.self.inside) c.deref_mut-events.ensures.value ∙ c.self.view_is)) before in
    let none = subst (λ (v : SplitContents). is_some v.ask ≡ false) (sym (ap (contents_with c.self.inside) c.deref_mut-events.ensures.value ∙ c.self.view_is)) c.requires in
    let merge = merge-free (contents_with c.self.inside c.deref_mut-events.result.now) w h none in
    let along_fits : FitsSigned w32 c.unwrap_or.result = search rules in
    let across_fits : FitsSigned w32 c.unwrap_or-2.result = search rules in
    asks-due (contents_with c.self.inside c.deref_mut-events.result.now) w h (asks-not (contents_with c.self.inside c.deref_mut-events.result.now) w h none) c.in-Row.tick c.in-Row.along c.in-Row.across c.in-Row.fired (c.in-Row.ensures.answer w.past merge) ((c.in-Row.ensures.allowed w.past merge).0 tt)
    c.tick-change.result c.tick-change.new.self (to_z w32 (of_z w32 c.unwrap_or.result)) (to_z w32 (of_z w32 c.unwrap_or-2.result))
    (to_z-of_z w32 c.unwrap_or.result along_fits ∙ c.unwrap_or.ensures) (to_z-of_z w32 c.unwrap_or-2.result across_fits ∙ c.unwrap_or-2.ensures) c.tick-change.ensures.stands c.tick-change.ensures.answer
    c.next.new.self (c.in-Row.ensures.stands w.past merge) c.if-change.true

-- ---- it issues what was told
pub invariant_of-self-2 : goal.invariant_of-self-2
invariant_of-self-2 c =
    let i = c.self.invariant in
    let w = i.history in
    let h = (subst (λ (v : Events). SplitCoreStandsFor (contents_with c.self.inside v) i.history) (sym c.deref_mut-events.ensures.value) i.stands) in
    let none = subst (λ (v : SplitContents). is_some v.ask ≡ false) (sym (ap (contents_with c.self.inside) c.deref_mut-events.ensures.value ∙ c.self.view_is)) c.requires in
    let merge = merge-free (contents_with c.self.inside c.deref_mut-events.result.now) w h none in
    let along_fits : FitsSigned w32 c.unwrap_or.result = search rules in
    let across_fits : FitsSigned w32 c.unwrap_or-2.result = search rules in
    record {
      history = record w { past = after_step w.past Close; asking = false };
      stands = step-stands (contents_with c.self.inside c.deref_mut-events.result.now) w h (asks-not (contents_with c.self.inside c.deref_mut-events.result.now) w h none) c.in-Row.tick c.in-Row.along c.in-Row.across c.in-Row.fired (c.in-Row.ensures.answer w.past merge) ((c.in-Row.ensures.allowed w.past merge).0 tt)
          c.tick-change.result c.tick-change.new.self (to_z w32 (of_z w32 c.unwrap_or.result)) (to_z w32 (of_z w32 c.unwrap_or-2.result))
          (to_z-of_z w32 c.unwrap_or.result along_fits ∙ c.unwrap_or.ensures) (to_z-of_z w32 c.unwrap_or-2.result across_fits ∙ c.unwrap_or-2.ensures) c.tick-change.ensures.stands c.tick-change.ensures.answer
          c.next.new.self (c.in-Row.ensures.stands w.past merge) c.if-change.false c.grow.new.candidate c.issue.new.candidate c.issue.new.link c.issue.new.issued c.grow.ensures (no-ask c.deref_mut-events.result.now.ask none) (c.issue.ensures.candidate, c.issue.ensures.link, c.issue.ensures.issued);
      asking_is = c.self.invariant.asking_is ∙ ap (λ (e : Events). is_some e.ask) (sym c.deref_mut-events.ensures.value);
    }

pub returns-clause-stands : goal.returns-clause-stands
returns-clause-stands c = λ w before.
    let h : SplitCoreStandsFor (contents_with c.self.inside c.deref_mut-events.result.now) w = subst (λ (v : SplitContents). SplitCoreStandsFor v w) (sym (ap (contents_with c.self.inside) c.deref_mut-events.ensures.value ∙ c.self.view_is)) before in
    let none = subst (λ (v : SplitContents). is_some v.ask ≡ false) (sym (ap (contents_with c.self.inside) c.deref_mut-events.ensures.value ∙ c.self.view_is)) c.requires in
    let merge = merge-free (contents_with c.self.inside c.deref_mut-events.result.now) w h none in
    let along_fits : FitsSigned w32 c.unwrap_or.result = search rules in
    let across_fits : FitsSigned w32 c.unwrap_or-2.result = search rules in
    step-stands (contents_with c.self.inside c.deref_mut-events.result.now) w h (asks-not (contents_with c.self.inside c.deref_mut-events.result.now) w h none) c.in-Row.tick c.in-Row.along c.in-Row.across c.in-Row.fired (c.in-Row.ensures.answer w.past merge) ((c.in-Row.ensures.allowed w.past merge).0 tt)
    c.tick-change.result c.tick-change.new.self (to_z w32 (of_z w32 c.unwrap_or.result)) (to_z w32 (of_z w32 c.unwrap_or-2.result))
    (to_z-of_z w32 c.unwrap_or.result along_fits ∙ c.unwrap_or.ensures) (to_z-of_z w32 c.unwrap_or-2.result across_fits ∙ c.unwrap_or-2.ensures) c.tick-change.ensures.stands c.tick-change.ensures.answer
    c.next.new.self (c.in-Row.ensures.stands w.past merge) c.if-change.false c.grow.new.candidate c.issue.new.candidate c.issue.new.link c.issue.new.issued c.grow.ensures (no-ask c.deref_mut-events.result.now.ask none) (c.issue.ensures.candidate, c.issue.ensures.link, c.issue.ensures.issued)

pub returns-clause-commands : goal.returns-clause-commands
returns-clause-commands c = λ w slots before are.
    let h : SplitCoreStandsFor (contents_with c.self.inside c.deref_mut-events.result.now) w = subst (λ (v : SplitContents). SplitCoreStandsFor v w) (sym (ap (contents_with c.self.inside) c.deref_mut-events.ensures.value ∙ c.self.view_is)) before in
    let none = subst (λ (v : SplitContents). is_some v.ask ≡ false) (sym (ap (contents_with c.self.inside) c.deref_mut-events.ensures.value ∙ c.self.view_is)) c.requires in
    let merge = merge-free (contents_with c.self.inside c.deref_mut-events.result.now) w h none in
    let along_fits : FitsSigned w32 c.unwrap_or.result = search rules in
    let across_fits : FitsSigned w32 c.unwrap_or-2.result = search rules in
    step-commands (contents_with c.self.inside c.deref_mut-events.result.now) w h (asks-not (contents_with c.self.inside c.deref_mut-events.result.now) w h none) c.in-Row.tick c.in-Row.along c.in-Row.across c.in-Row.fired (c.in-Row.ensures.answer w.past merge) ((c.in-Row.ensures.allowed w.past merge).0 tt)
    c.tick-change.result c.tick-change.new.self (to_z w32 (of_z w32 c.unwrap_or.result)) (to_z w32 (of_z w32 c.unwrap_or-2.result))
    (to_z-of_z w32 c.unwrap_or.result along_fits ∙ c.unwrap_or.ensures) (to_z-of_z w32 c.unwrap_or-2.result across_fits ∙ c.unwrap_or-2.ensures) c.tick-change.ensures.stands c.tick-change.ensures.answer
    c.next.new.self (c.in-Row.ensures.stands w.past merge) c.if-change.false c.grow.new.candidate c.issue.new.candidate c.issue.new.link c.issue.new.issued c.grow.ensures (no-ask c.deref_mut-events.result.now.ask none) (c.issue.ensures.candidate, c.issue.ensures.link, c.issue.ensures.issued) slots are

pub returns-clause-ticks : goal.returns-clause-ticks
returns-clause-ticks c = λ w slots before are.
    let h : SplitCoreStandsFor (contents_with c.self.inside c.deref_mut-events.result.now) w = subst (λ (v : SplitContents). SplitCoreStandsFor v w) (sym (ap (contents_with c.self.inside) c.deref_mut-events.ensures.value ∙ c.self.view_is)) before in
    let none = subst (λ (v : SplitContents). is_some v.ask ≡ false) (sym (ap (contents_with c.self.inside) c.deref_mut-events.ensures.value ∙ c.self.view_is)) c.requires in
    let merge = merge-free (contents_with c.self.inside c.deref_mut-events.result.now) w h none in
    let along_fits : FitsSigned w32 c.unwrap_or.result = search rules in
    let across_fits : FitsSigned w32 c.unwrap_or-2.result = search rules in
    step-ticks (contents_with c.self.inside c.deref_mut-events.result.now) w h (asks-not (contents_with c.self.inside c.deref_mut-events.result.now) w h none) c.in-Row.tick c.in-Row.along c.in-Row.across c.in-Row.fired (c.in-Row.ensures.answer w.past merge) ((c.in-Row.ensures.allowed w.past merge).0 tt)
    c.tick-change.result c.tick-change.new.self (to_z w32 (of_z w32 c.unwrap_or.result)) (to_z w32 (of_z w32 c.unwrap_or-2.result))
    (to_z-of_z w32 c.unwrap_or.result along_fits ∙ c.unwrap_or.ensures) (to_z-of_z w32 c.unwrap_or-2.result across_fits ∙ c.unwrap_or-2.ensures) c.tick-change.ensures.stands c.tick-change.ensures.answer
    c.next.new.self (c.in-Row.ensures.stands w.past merge) c.if-change.false c.grow.new.candidate c.issue.new.candidate c.issue.new.link c.issue.new.issued c.grow.ensures (no-ask c.deref_mut-events.result.now.ask none) (c.issue.ensures.candidate, c.issue.ensures.link, c.issue.ensures.issued) slots are

pub returns-clause-answer : goal.returns-clause-answer
returns-clause-answer c = λ w before.
    let h : SplitCoreStandsFor (contents_with c.self.inside c.deref_mut-events.result.now) w = subst (λ (v : SplitContents). SplitCoreStandsFor v w) (sym (ap (contents_with c.self.inside) c.deref_mut-events.ensures.value ∙ c.self.view_is)) before in
    let none = subst (λ (v : SplitContents). is_some v.ask ≡ false) (sym (ap (contents_with c.self.inside) c.deref_mut-events.ensures.value ∙ c.self.view_is)) c.requires in
    let merge = merge-free (contents_with c.self.inside c.deref_mut-events.result.now) w h none in
    let along_fits : FitsSigned w32 c.unwrap_or.result = search rules in
    let across_fits : FitsSigned w32 c.unwrap_or-2.result = search rules in
    closes-due (contents_with c.self.inside c.deref_mut-events.result.now) w h (asks-not (contents_with c.self.inside c.deref_mut-events.result.now) w h none) c.in-Row.tick c.in-Row.along c.in-Row.across c.in-Row.fired (c.in-Row.ensures.answer w.past merge) ((c.in-Row.ensures.allowed w.past merge).0 tt)
    c.tick-change.result c.tick-change.new.self (to_z w32 (of_z w32 c.unwrap_or.result)) (to_z w32 (of_z w32 c.unwrap_or-2.result))
    (to_z-of_z w32 c.unwrap_or.result along_fits ∙ c.unwrap_or.ensures) (to_z-of_z w32 c.unwrap_or-2.result across_fits ∙ c.unwrap_or-2.ensures) c.tick-change.ensures.stands c.tick-change.ensures.answer
    c.next.new.self (c.in-Row.ensures.stands w.past merge) c.if-change.false

-- ---- it passes by what is open, and issues nothing
pub invariant_of-self-then-passes_by : goal.invariant_of-self-then-passes_by
invariant_of-self-then-passes_by c =
    let i = c.self.invariant in
    let w = i.history in
    let h = (subst (λ (v : Events). SplitCoreStandsFor (contents_with c.self.inside v) i.history) (sym c.deref_mut-events.ensures.value) i.stands) in
    let none = subst (λ (v : SplitContents). is_some v.ask ≡ false) (sym (ap (contents_with c.self.inside) c.deref_mut-events.ensures.value ∙ c.self.view_is)) c.requires in
    let merge = merge-free (contents_with c.self.inside c.deref_mut-events.result.now) w h none in
    let along_fits : FitsSigned w32 c.unwrap_or.result = search rules in
    let across_fits : FitsSigned w32 c.unwrap_or-2.result = search rules in
    record {
      history = record w { past = after_step w.past Close; asking = false };
      stands = step-stands (contents_with c.self.inside c.deref_mut-events.result.now) w h (asks-not (contents_with c.self.inside c.deref_mut-events.result.now) w h none) c.in-Row.tick c.in-Row.along c.in-Row.across c.in-Row.fired (c.in-Row.ensures.answer w.past merge) ((c.in-Row.ensures.allowed w.past merge).0 tt)
          c.tick-change.result c.tick-change.new.self (to_z w32 (of_z w32 c.unwrap_or.result)) (to_z w32 (of_z w32 c.unwrap_or-2.result))
          (to_z-of_z w32 c.unwrap_or.result along_fits ∙ c.unwrap_or.ensures) (to_z-of_z w32 c.unwrap_or-2.result across_fits ∙ c.unwrap_or-2.ensures) c.tick-change.ensures.stands c.tick-change.ensures.answer
          c.next.new.self (c.in-Row.ensures.stands w.past merge) c.if-change.false c.grow.new.candidate c.grow.new.candidate c.self.inside.link no_issues c.grow.ensures (no-ask c.deref_mut-events.result.now.ask none) (c.passes_by.ensures.0 c.if-passes_by.true c.in-Row.tick c.self.inside.link);
      asking_is = c.self.invariant.asking_is ∙ ap (λ (e : Events). is_some e.ask) (sym c.deref_mut-events.ensures.value);
    }

pub returns-then-passes_by-clause-stands : goal.returns-then-passes_by-clause-stands
returns-then-passes_by-clause-stands c = λ w before.
    let h : SplitCoreStandsFor (contents_with c.self.inside c.deref_mut-events.result.now) w = subst (λ (v : SplitContents). SplitCoreStandsFor v w) (sym (ap (contents_with c.self.inside) c.deref_mut-events.ensures.value ∙ c.self.view_is)) before in
    let none = subst (λ (v : SplitContents). is_some v.ask ≡ false) (sym (ap (contents_with c.self.inside) c.deref_mut-events.ensures.value ∙ c.self.view_is)) c.requires in
    let merge = merge-free (contents_with c.self.inside c.deref_mut-events.result.now) w h none in
    let along_fits : FitsSigned w32 c.unwrap_or.result = search rules in
    let across_fits : FitsSigned w32 c.unwrap_or-2.result = search rules in
    step-stands (contents_with c.self.inside c.deref_mut-events.result.now) w h (asks-not (contents_with c.self.inside c.deref_mut-events.result.now) w h none) c.in-Row.tick c.in-Row.along c.in-Row.across c.in-Row.fired (c.in-Row.ensures.answer w.past merge) ((c.in-Row.ensures.allowed w.past merge).0 tt)
    c.tick-change.result c.tick-change.new.self (to_z w32 (of_z w32 c.unwrap_or.result)) (to_z w32 (of_z w32 c.unwrap_or-2.result))
    (to_z-of_z w32 c.unwrap_or.result along_fits ∙ c.unwrap_or.ensures) (to_z-of_z w32 c.unwrap_or-2.result across_fits ∙ c.unwrap_or-2.ensures) c.tick-change.ensures.stands c.tick-change.ensures.answer
    c.next.new.self (c.in-Row.ensures.stands w.past merge) c.if-change.false c.grow.new.candidate c.grow.new.candidate c.self.inside.link no_issues c.grow.ensures (no-ask c.deref_mut-events.result.now.ask none) (c.passes_by.ensures.0 c.if-passes_by.true c.in-Row.tick c.self.inside.link)

pub returns-then-passes_by-clause-commands : goal.returns-then-passes_by-clause-commands
returns-then-passes_by-clause-commands c = λ w slots before are.
    let h : SplitCoreStandsFor (contents_with c.self.inside c.deref_mut-events.result.now) w = subst (λ (v : SplitContents). SplitCoreStandsFor v w) (sym (ap (contents_with c.self.inside) c.deref_mut-events.ensures.value ∙ c.self.view_is)) before in
    let none = subst (λ (v : SplitContents). is_some v.ask ≡ false) (sym (ap (contents_with c.self.inside) c.deref_mut-events.ensures.value ∙ c.self.view_is)) c.requires in
    let merge = merge-free (contents_with c.self.inside c.deref_mut-events.result.now) w h none in
    let along_fits : FitsSigned w32 c.unwrap_or.result = search rules in
    let across_fits : FitsSigned w32 c.unwrap_or-2.result = search rules in
    step-commands (contents_with c.self.inside c.deref_mut-events.result.now) w h (asks-not (contents_with c.self.inside c.deref_mut-events.result.now) w h none) c.in-Row.tick c.in-Row.along c.in-Row.across c.in-Row.fired (c.in-Row.ensures.answer w.past merge) ((c.in-Row.ensures.allowed w.past merge).0 tt)
    c.tick-change.result c.tick-change.new.self (to_z w32 (of_z w32 c.unwrap_or.result)) (to_z w32 (of_z w32 c.unwrap_or-2.result))
    (to_z-of_z w32 c.unwrap_or.result along_fits ∙ c.unwrap_or.ensures) (to_z-of_z w32 c.unwrap_or-2.result across_fits ∙ c.unwrap_or-2.ensures) c.tick-change.ensures.stands c.tick-change.ensures.answer
    c.next.new.self (c.in-Row.ensures.stands w.past merge) c.if-change.false c.grow.new.candidate c.grow.new.candidate c.self.inside.link no_issues c.grow.ensures (no-ask c.deref_mut-events.result.now.ask none) (c.passes_by.ensures.0 c.if-passes_by.true c.in-Row.tick c.self.inside.link) slots are

pub returns-then-passes_by-clause-ticks : goal.returns-then-passes_by-clause-ticks
returns-then-passes_by-clause-ticks c = λ w slots before are.
    let h : SplitCoreStandsFor (contents_with c.self.inside c.deref_mut-events.result.now) w = subst (λ (v : SplitContents). SplitCoreStandsFor v w) (sym (ap (contents_with c.self.inside) c.deref_mut-events.ensures.value ∙ c.self.view_is)) before in
    let none = subst (λ (v : SplitContents). is_some v.ask ≡ false) (sym (ap (contents_with c.self.inside) c.deref_mut-events.ensures.value ∙ c.self.view_is)) c.requires in
    let merge = merge-free (contents_with c.self.inside c.deref_mut-events.result.now) w h none in
    let along_fits : FitsSigned w32 c.unwrap_or.result = search rules in
    let across_fits : FitsSigned w32 c.unwrap_or-2.result = search rules in
    step-ticks (contents_with c.self.inside c.deref_mut-events.result.now) w h (asks-not (contents_with c.self.inside c.deref_mut-events.result.now) w h none) c.in-Row.tick c.in-Row.along c.in-Row.across c.in-Row.fired (c.in-Row.ensures.answer w.past merge) ((c.in-Row.ensures.allowed w.past merge).0 tt)
    c.tick-change.result c.tick-change.new.self (to_z w32 (of_z w32 c.unwrap_or.result)) (to_z w32 (of_z w32 c.unwrap_or-2.result))
    (to_z-of_z w32 c.unwrap_or.result along_fits ∙ c.unwrap_or.ensures) (to_z-of_z w32 c.unwrap_or-2.result across_fits ∙ c.unwrap_or-2.ensures) c.tick-change.ensures.stands c.tick-change.ensures.answer
    c.next.new.self (c.in-Row.ensures.stands w.past merge) c.if-change.false c.grow.new.candidate c.grow.new.candidate c.self.inside.link no_issues c.grow.ensures (no-ask c.deref_mut-events.result.now.ask none) (c.passes_by.ensures.0 c.if-passes_by.true c.in-Row.tick c.self.inside.link) slots are

pub returns-then-passes_by-clause-answer : goal.returns-then-passes_by-clause-answer
returns-then-passes_by-clause-answer c = λ w before.
    let h : SplitCoreStandsFor (contents_with c.self.inside c.deref_mut-events.result.now) w = subst (λ (v : SplitContents). SplitCoreStandsFor v w) (sym (ap (contents_with c.self.inside) c.deref_mut-events.ensures.value ∙ c.self.view_is)) before in
    let none = subst (λ (v : SplitContents). is_some v.ask ≡ false) (sym (ap (contents_with c.self.inside) c.deref_mut-events.ensures.value ∙ c.self.view_is)) c.requires in
    let merge = merge-free (contents_with c.self.inside c.deref_mut-events.result.now) w h none in
    let along_fits : FitsSigned w32 c.unwrap_or.result = search rules in
    let across_fits : FitsSigned w32 c.unwrap_or-2.result = search rules in
    closes-due (contents_with c.self.inside c.deref_mut-events.result.now) w h (asks-not (contents_with c.self.inside c.deref_mut-events.result.now) w h none) c.in-Row.tick c.in-Row.along c.in-Row.across c.in-Row.fired (c.in-Row.ensures.answer w.past merge) ((c.in-Row.ensures.allowed w.past merge).0 tt)
    c.tick-change.result c.tick-change.new.self (to_z w32 (of_z w32 c.unwrap_or.result)) (to_z w32 (of_z w32 c.unwrap_or-2.result))
    (to_z-of_z w32 c.unwrap_or.result along_fits ∙ c.unwrap_or.ensures) (to_z-of_z w32 c.unwrap_or-2.result across_fits ∙ c.unwrap_or-2.ensures) c.tick-change.ensures.stands c.tick-change.ensures.answer
    c.next.new.self (c.in-Row.ensures.stands w.past merge) c.if-change.false
