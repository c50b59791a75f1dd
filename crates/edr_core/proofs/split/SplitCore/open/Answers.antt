use Rattle.std.proofs.Common.{arith, ap, subst, sym, ◌∙◌, Option, None}
use Rattle.std.specs.Prelude.{is_some}
use Rattle.edr_core.specs.declared.ask.OpenAsk.{OpenAsk}
use Rattle.edr_core.specs.declared.split.Events.{Events}
use Rattle.edr_core.specs.SplitContents.{SplitContents}
use Rattle.edr_core.specs.SplitHistory.{start_of}
use Rattle.edr_core.specs.SplitStandsFor.{SplitCoreStandsFor}
use Rattle.edr_core.proofs.GiveLemmas.{split-starts}
use Rattle.edr_core.proofs.split.SplitCore.open.Goals as goal

pub invariant_of-result : goal.invariant_of-result
invariant_of-result c =
    let with_events : Events → SplitContents = λ e. record { cycle = c.args.cycle; closed = 0; merge = c.in_ok-new.field-0; detect = e.detect; link = c.new-3.result; candidate = e.candidate; ask = e.ask } in
    record {
      history = start_of c.args.cycle;
      stands = subst (λ (e : Events). SplitCoreStandsFor (with_events e) (start_of c.args.cycle)) (sym c.in_ok-new-2.ensures.ok)
          (subst (λ (o : Option OpenAsk). SplitCoreStandsFor (with_events (record { detect = c.new.result; candidate = None; ask = o })) (start_of c.args.cycle)) (sym c.closed.ensures)
          (split-starts c.args.cycle c.in_ok-new.field-0 c.new.result c.new-3.result c.requires (omega arith) c.in_ok-new.ensures c.new.ensures.stands c.new-3.ensures));
      asking_is = sym (ap (λ (o : Option OpenAsk). is_some o) c.closed.ensures) ∙ ap (λ (e : Events). is_some e.ask) (sym c.in_ok-new-2.ensures.ok);
    }

pub returns : goal.returns
returns c =
    let with_events : Events → SplitContents = λ e. record { cycle = c.args.cycle; closed = 0; merge = c.in_ok-new.field-0; detect = e.detect; link = c.new-3.result; candidate = e.candidate; ask = e.ask } in
    subst (λ (e : Events). SplitCoreStandsFor (with_events e) (start_of c.args.cycle)) (sym c.in_ok-new-2.ensures.ok)
    (subst (λ (o : Option OpenAsk). SplitCoreStandsFor (with_events (record { detect = c.new.result; candidate = None; ask = o })) (start_of c.args.cycle)) (sym c.closed.ensures)
    (split-starts c.args.cycle c.in_ok-new.field-0 c.new.result c.new-3.result c.requires (omega arith) c.in_ok-new.ensures c.new.ensures.stands c.new-3.ensures))
