use Rattle.std.proofs.Common.{arith, rules, refl, ap, sym, subst, ◌≡◌, inl, inr, ◌∙◌, ◌+◌, ℕ, Some, None, Option}
use Rattle.std.specs.Prelude.{is_some, IsSome}
use Rattle.edr_items.specs.Sensor.{IsSlow}
use Rattle.edr_capture.specs.SensorPart.{SensorPart}
use Rattle.edr_core.specs.declared.ask.OpenAsk.{OpenAsk}
use Rattle.edr_core.specs.declared.ask.PartRefused.{PartRefused}
use Rattle.edr_core.specs.Ask.{HasTakenThere, IsWhyNotTaken, IsWhyNotThere, part_at}
use Rattle.edr_core.specs.Parts.{part_in}
use Rattle.edr_core.specs.SplitHistory.{History, after_part}
use Rattle.edr_core.specs.SplitAnswers.{part_refusal_of}
use Rattle.edr_core.specs.declared.split.Events.{Events}
use Rattle.edr_core.specs.SplitContents.{SplitContents}
use Rattle.edr_core.specs.SplitFields.{split_contents, contents_with}
use Rattle.edr_core.specs.SplitStandsFor.{SplitCoreStandsFor}
use Rattle.edr_core.proofs.GiveLemmas.{closed-early, split-takes, asked-is, asks-not}
use Rattle.edr_core.proofs.TakenLemmas.{at-taken}
use Rattle.edr_core.proofs.OwnLemmas.{refused-free, refused-not, refused-zero, refused-again}
use Rattle.edr_core.proofs.split.SplitCore.part.Goals as goal

pub overflow_add-asked : goal.overflow_add-asked
overflow_add-asked c = let i = c.self.invariant in let early = closed-early (split_contents c.self.inside) i.history i.stands in omega (arith, early)

-- the part is taken
ask-takes : (c : SplitContents) (w : History) (q : SensorPart) (asked : ℕ) (o : Option OpenAsk) → SplitCoreStandsFor c w → asked ≡ c.closed + 1 → HasTakenThere asked q c.ask o → SplitCoreStandsFor (record c { ask = o }) (after_part q w)
ask-takes c w q asked o h zero took =
    subst (λ (a : Option OpenAsk). SplitCoreStandsFor (record c { ask = a }) (after_part q w)) (sym (took.3 ∙ ap (λ (a : OpenAsk). Some a) took.4.is))
    (split-takes c w took.0 q h took.2 (took.4.zero ∙ zero ∙ ap (λ t. t + 1) h.closed_is))

pub invariant_of-self-2 : goal.invariant_of-self-2
invariant_of-self-2 c =
    let i = c.self.invariant in
    let took = c.in_ok-take.ensures.ok in
    record {
      history = after_part c.args.part i.history;
      stands = ask-takes (contents_with c.self.inside c.deref_mut.result.now) i.history c.args.part (c.self.inside.closed + 1) c.take.new.self (subst (λ (v : Events). SplitCoreStandsFor (contents_with c.self.inside v) i.history) (sym c.deref_mut.ensures.value) i.stands) refl took;
      asking_is = i.asking_is ∙ ap (λ (e : Events). is_some e.ask) (sym c.deref_mut.ensures.value) ∙ ap (λ (a : Option OpenAsk). is_some a) took.2 ∙ sym (ap (λ (a : Option OpenAsk). is_some a) took.3);
    }

pub returns-clause-ok : goal.returns-clause-ok
returns-clause-ok c = λ w before.
    let h : SplitCoreStandsFor (contents_with c.self.inside c.deref_mut.result.now) w = subst (λ (v : SplitContents). SplitCoreStandsFor v w) (sym (ap (contents_with c.self.inside) c.deref_mut.ensures.value ∙ c.self.view_is)) before in
    ask-takes (contents_with c.self.inside c.deref_mut.result.now) w c.args.part (c.self.inside.closed + 1) c.take.new.self h refl c.in_ok-take.ensures.ok

-- the place of the part is free, or was filled, as its sensor's part was taken
at-place : (c : SplitContents) (w : History) (a : OpenAsk) (q : SensorPart) → IsSlow q.sensor → SplitCoreStandsFor c w → c.ask ≡ Some a → part_at q.sensor a.parts ≡ part_in w.parts q.sensor (w.past.closed + 1)
at-place c w a q slow h is = at-taken a.parts w.parts (w.past.closed + 1) q.sensor slow (asked-is c w a h is).parts

pub returns-clause-allowed : goal.returns-clause-allowed
returns-clause-allowed c = λ w before.
    let h : SplitCoreStandsFor (contents_with c.self.inside c.deref_mut.result.now) w = subst (λ (v : SplitContents). SplitCoreStandsFor v w) (sym (ap (contents_with c.self.inside) c.deref_mut.ensures.value ∙ c.self.view_is)) before in
    let q = c.args.part in
    let took = c.in_ok-take.ensures.ok in
    let a = took.0 in
    let free = sym (at-place (contents_with c.self.inside c.deref_mut.result.now) w a q c.take.ensures.slow h took.2) ∙ took.4.free in
    ((λ _. refused-not q w (asked-is (contents_with c.self.inside c.deref_mut.result.now) w a h took.2).asking (took.4.zero ∙ ap (λ t. t + 1) h.closed_is) free), (λ _. refl))

-- what isn't taken is refused for that cause
why-not : (c : SplitContents) (w : History) (a : OpenAsk) (q : SensorPart) (e : PartRefused) → IsSlow q.sensor → SplitCoreStandsFor c w → c.ask ≡ Some a → IsWhyNotTaken (w.past.closed + 1) q a e → part_refusal_of q w ≡ Some e
why-not c w a q e slow h is (inl apart) = refused-zero q w (asked-is c w a h is).asking apart.0 ∙ ap (λ (x : PartRefused). Some x) (sym apart.1)
why-not c w a q e slow h is (inr twice) =
    refused-again q w (asked-is c w a h is).asking twice.0 (subst (λ (o : Option SensorPart). IsSome o) (at-place c w a q slow h is) twice.1)
    ∙ ap (λ (x : PartRefused). Some x) (sym twice.2)

why-there : (c : SplitContents) (w : History) (q : SensorPart) (e : PartRefused) → IsSlow q.sensor → SplitCoreStandsFor c w → IsWhyNotThere (w.past.closed + 1) q c.ask e → part_refusal_of q w ≡ Some e
why-there c w q e slow h why = by_ask c.ask refl why where
  by_ask : (o : Option OpenAsk) → c.ask ≡ o → IsWhyNotThere (w.past.closed + 1) q o e → part_refusal_of q w ≡ Some e
  by_ask None is none = refused-free q w (asks-not c w h (ap (λ (a : Option OpenAsk). is_some a) is)) ∙ ap (λ (x : PartRefused). Some x) (sym none)
  by_ask (Some a) is why = why-not c w a q e slow h is why

pub returns-in_err-take-clause-allowed : goal.returns-in_err-take-clause-allowed
returns-in_err-take-clause-allowed c = λ w before.
    let h : SplitCoreStandsFor (contents_with c.self.inside c.deref_mut.result.now) w = subst (λ (v : SplitContents). SplitCoreStandsFor v w) (sym (ap (contents_with c.self.inside) c.deref_mut.ensures.value ∙ c.self.view_is)) before in
    let q = c.args.part in
    let slow = c.take.ensures.slow in
    let e = c.in_err-take.field-0.0 in
    let why : part_refusal_of q w ≡ Some e = why-there (contents_with c.self.inside c.deref_mut.result.now) w q e slow h (subst (λ t. IsWhyNotThere (t + 1) q c.deref_mut.result.now.ask e) h.closed_is c.in_err-take.ensures.why) in
    let was = c.in_err-take.was in
    let residual = c.from_residual.ensures in
    search rules

pub returns-in_err-take-clause-why : goal.returns-in_err-take-clause-why
returns-in_err-take-clause-why c = λ w before.
    let h : SplitCoreStandsFor (contents_with c.self.inside c.deref_mut.result.now) w = subst (λ (v : SplitContents). SplitCoreStandsFor v w) (sym (ap (contents_with c.self.inside) c.deref_mut.ensures.value ∙ c.self.view_is)) before in
    let q = c.args.part in
    let slow = c.take.ensures.slow in
    let e = c.in_err-take.field-0.0 in
    let why : part_refusal_of q w ≡ Some e = why-there (contents_with c.self.inside c.deref_mut.result.now) w q e slow h (subst (λ t. IsWhyNotThere (t + 1) q c.deref_mut.result.now.ask e) h.closed_is c.in_err-take.ensures.why) in
    let was = c.in_err-take.was in
    let residual = c.from_residual.ensures in
    search rules
