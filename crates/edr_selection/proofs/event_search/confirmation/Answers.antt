use Rattle.std.proofs.Common.{arith, sym, ◌∙◌, ◌+◌}
use Rattle.edr_definitions.specs.Signals.{signals_of}
use Rattle.edr_definitions.specs.Selection.{is_triggered}
use Rattle.edr_selection.proofs.SearchLemmas.{first_tick-found, first_tick-not_found}
use Rattle.edr_selection.proofs.event_search.confirmation.Goals as goal

pub returns-then-triggers : goal.returns-then-triggers
returns-then-triggers c =
    first_tick-found (is_triggered (signals_of c.args.feeds.now) c.args.since) c.args.zero (c.args.end + 1) c.loop-t.t
    (omega arith) c.loop-t-test.true c.loop-t.invariant (sym c.triggers.ensures ∙ c.if-triggers.true)

pub returns : goal.returns
returns c =
    first_tick-not_found (is_triggered (signals_of c.args.feeds.now) c.args.since) c.args.zero (c.args.end + 1) c.loop-t.t
    c.loop-t-test.false c.loop-t.invariant
