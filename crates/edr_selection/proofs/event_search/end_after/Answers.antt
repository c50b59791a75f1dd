use Rattle.std.proofs.Common.{arith, sym, ◌∙◌}
use Rattle.edr_definitions.specs.Signals.{signals_of}
use Rattle.edr_definitions.proofs.SelectionLaws.{end_of-is}
use Rattle.edr_selection.proofs.SearchLemmas.{is_end-somewhere}
use Rattle.edr_selection.proofs.event_search.end_after.Goals as goal

pub returns-then-ends-clause-value : goal.returns-then-ends-clause-value
returns-then-ends-clause-value c = end_of-is (signals_of c.args.feeds.now) c.args.zero c.loop-t.t (record {
  from = omega arith;
  holds = sym c.ends.ensures ∙ c.if-ends.true;
  none_before = c.loop-t.invariant.none;
})

pub returns-clause-value : goal.returns-clause-value
returns-clause-value c =
    absurd (is_end-somewhere (signals_of c.args.feeds.now) c.args.zero (record { none = λ u lo hi. c.loop-t.invariant.none u lo (omega arith) }))
