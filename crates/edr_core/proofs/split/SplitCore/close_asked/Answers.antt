use Rattle.std.specs.Prelude.{is_some}
use Rattle.std.proofs.Common.{arith, ap, sym, subst, ◌∙◌, ◌+◌, false, Option}
use Rattle.edr_definitions.specs.Schedule.{Close, after_step}
use Rattle.edr_record.specs.Parts.{PrePart}
use Rattle.edr_core.specs.Candidate.{begun_candidate}
use Rattle.edr_core.specs.declared.ask.OpenAsk.{OpenAsk}
use Rattle.edr_core.specs.declared.split.Events.{Events}
use Rattle.edr_core.specs.SplitContents.{SplitContents}
use Rattle.edr_core.specs.SplitFields.{split_contents, contents_with}
use Rattle.edr_core.specs.SplitStandsFor.{SplitCoreStandsFor}
use Rattle.edr_core.proofs.GiveLemmas.{closed-early, asked-is}
use Rattle.edr_core.proofs.TakenLemmas.{of-sensors}
use Rattle.edr_core.proofs.StepLemmas.{lacks-due, key-fits, asked-due, asked-tell, asked-stands, asked-commands, asked-ticks}
use Rattle.edr_core.proofs.split.SplitCore.close_asked.Goals as goal

pub overflow_add-tick : goal.overflow_add-tick
overflow_add-tick c = let h = c.self.invariant in let early = closed-early (split_contents c.self.inside) h.history h.stands in omega (arith, early)

pub returns-in-Err-clause-answer : goal.returns-in-Err-clause-answer
returns-in-Err-clause-answer c = λ w before.
    let h : SplitCoreStandsFor (contents_with c.self.inside c.deref_mut-events.result.now) w = subst (λ (v : SplitContents). SplitCoreStandsFor v w) (sym (ap (contents_with c.self.inside) c.deref_mut-events.ensures.value ∙ c.self.view_is)) before in
    lacks-due (contents_with c.self.inside c.deref_mut-events.result.now) w c.in-Some.ask.now c.in-Err.sensor h c.in-Some.ensures c.in-Err.ensures.missing

pub pre_of-requires-clause-sensors : goal.pre_of-requires-clause-sensors
pre_of-requires-clause-sensors c =
    let i = c.self.invariant in
    of-sensors c.in-Some.ask.now.parts i.history.parts (i.history.past.closed + 1) (asked-is (contents_with c.self.inside c.deref_mut-events.result.now) i.history c.in-Some.ask.now (subst (λ (v : Events). SplitCoreStandsFor (contents_with c.self.inside v) i.history) (sym c.deref_mut-events.ensures.value) i.stands) c.in-Some.ensures).parts

pub pre_of-requires-clause-key : goal.pre_of-requires-clause-key
pre_of-requires-clause-key c =
    let i = c.self.invariant in
    key-fits (contents_with c.self.inside c.deref_mut-events.result.now) i.history c.in-Some.ask.now (subst (λ (v : Events). SplitCoreStandsFor (contents_with c.self.inside v) i.history) (sym c.deref_mut-events.ensures.value) i.stands) c.in-Some.ensures

pub issue-requires : goal.issue-requires
issue-requires c =
    let i = c.self.invariant in
    asked-tell (contents_with c.self.inside c.deref_mut-events.result.now) i.history (subst (λ (v : Events). SplitCoreStandsFor (contents_with c.self.inside v) i.history) (sym c.deref_mut-events.ensures.value) i.stands) c.in-Some.ask.now c.in-Some.ensures c.in-Ok.ensures.made.all c.in-Ok.ensures.made.all_is c.begin.result (c.begin.ensures ∙ ap (λ (x : PrePart). begun_candidate x c.in-Some.ask.now.row) c.in-Ok.ensures.made.pre_is)

pub invariant_of-self : goal.invariant_of-self
invariant_of-self c =
    let i = c.self.invariant in
    record {
      history = i.history;
      stands = subst (λ (v : Events). SplitCoreStandsFor (contents_with c.self.inside v) i.history) (sym c.deref_mut-events.ensures.value) i.stands;
      asking_is = i.asking_is ∙ ap (λ (e : Events). is_some e.ask) (sym c.deref_mut-events.ensures.value);
    }

pub invariant_of-self-2 : goal.invariant_of-self-2
invariant_of-self-2 c =
    let i = c.self.invariant in
    record {
      history = record i.history { past = after_step i.history.past Close; asking = false };
      stands = subst (λ (o : Option OpenAsk). SplitCoreStandsFor (record (contents_with c.self.inside c.deref_mut-events.result.now) { closed = (contents_with c.self.inside c.deref_mut-events.result.now).closed + 1; link = c.issue.new.link; candidate = c.issue.new.candidate; ask = o }) (record i.history { past = after_step i.history.past Close; asking = false })) (sym c.close.ensures)
          (asked-stands (contents_with c.self.inside c.deref_mut-events.result.now) i.history (subst (λ (v : Events). SplitCoreStandsFor (contents_with c.self.inside v) i.history) (sym c.deref_mut-events.ensures.value) i.stands) c.in-Some.ask.now c.in-Some.ensures c.in-Ok.ensures.made.all c.in-Ok.ensures.made.all_is
          c.begin.result c.issue.new.candidate c.issue.new.link c.issue.new.issued (c.begin.ensures ∙ ap (λ (x : PrePart). begun_candidate x c.in-Some.ask.now.row) c.in-Ok.ensures.made.pre_is) (c.issue.ensures.candidate, c.issue.ensures.link, c.issue.ensures.issued));
      asking_is = sym (ap (λ (o : Option OpenAsk). is_some o) c.close.ensures);
    }

pub returns-clause-commands : goal.returns-clause-commands
returns-clause-commands c = λ w slots before are.
    let h : SplitCoreStandsFor (contents_with c.self.inside c.deref_mut-events.result.now) w = subst (λ (v : SplitContents). SplitCoreStandsFor v w) (sym (ap (contents_with c.self.inside) c.deref_mut-events.ensures.value ∙ c.self.view_is)) before in
    asked-commands (contents_with c.self.inside c.deref_mut-events.result.now) w h c.in-Some.ask.now c.in-Some.ensures c.in-Ok.ensures.made.all c.in-Ok.ensures.made.all_is
    c.begin.result c.issue.new.candidate c.issue.new.link c.issue.new.issued (c.begin.ensures ∙ ap (λ (x : PrePart). begun_candidate x c.in-Some.ask.now.row) c.in-Ok.ensures.made.pre_is) (c.issue.ensures.candidate, c.issue.ensures.link, c.issue.ensures.issued) slots are

pub returns-clause-ticks : goal.returns-clause-ticks
returns-clause-ticks c = λ w slots before are.
    let h : SplitCoreStandsFor (contents_with c.self.inside c.deref_mut-events.result.now) w = subst (λ (v : SplitContents). SplitCoreStandsFor v w) (sym (ap (contents_with c.self.inside) c.deref_mut-events.ensures.value ∙ c.self.view_is)) before in
    asked-ticks (contents_with c.self.inside c.deref_mut-events.result.now) w h c.in-Some.ask.now c.in-Some.ensures c.in-Ok.ensures.made.all c.in-Ok.ensures.made.all_is
    c.begin.result c.issue.new.candidate c.issue.new.link c.issue.new.issued (c.begin.ensures ∙ ap (λ (x : PrePart). begun_candidate x c.in-Some.ask.now.row) c.in-Ok.ensures.made.pre_is) (c.issue.ensures.candidate, c.issue.ensures.link, c.issue.ensures.issued) slots are

pub returns-clause-stands : goal.returns-clause-stands
returns-clause-stands c = λ w before.
    let h : SplitCoreStandsFor (contents_with c.self.inside c.deref_mut-events.result.now) w = subst (λ (v : SplitContents). SplitCoreStandsFor v w) (sym (ap (contents_with c.self.inside) c.deref_mut-events.ensures.value ∙ c.self.view_is)) before in
    subst (λ (o : Option OpenAsk). SplitCoreStandsFor (record (contents_with c.self.inside c.deref_mut-events.result.now) { closed = (contents_with c.self.inside c.deref_mut-events.result.now).closed + 1; link = c.issue.new.link; candidate = c.issue.new.candidate; ask = o }) (record w { past = after_step w.past Close; asking = false })) (sym c.close.ensures)
    (asked-stands (contents_with c.self.inside c.deref_mut-events.result.now) w h c.in-Some.ask.now c.in-Some.ensures c.in-Ok.ensures.made.all c.in-Ok.ensures.made.all_is
    c.begin.result c.issue.new.candidate c.issue.new.link c.issue.new.issued (c.begin.ensures ∙ ap (λ (x : PrePart). begun_candidate x c.in-Some.ask.now.row) c.in-Ok.ensures.made.pre_is) (c.issue.ensures.candidate, c.issue.ensures.link, c.issue.ensures.issued))

pub returns-clause-answer : goal.returns-clause-answer
returns-clause-answer c = λ w before.
    let h : SplitCoreStandsFor (contents_with c.self.inside c.deref_mut-events.result.now) w = subst (λ (v : SplitContents). SplitCoreStandsFor v w) (sym (ap (contents_with c.self.inside) c.deref_mut-events.ensures.value ∙ c.self.view_is)) before in
    asked-due (contents_with c.self.inside c.deref_mut-events.result.now) w h c.in-Some.ask.now c.in-Some.ensures c.in-Ok.ensures.made.all c.in-Ok.ensures.made.all_is
