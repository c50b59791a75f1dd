use Rattle.edr_definitions.specs.Ticks.{HoldsNowhere}
use Rattle.edr_definitions.specs.Signals.{signals_of}
use Rattle.edr_definitions.specs.Selection.{is_triggered}
use Rattle.edr_selection.proofs.event_search.confirmation.Given as goal

abbrev pub invariant-loop-t : goal.invariant-loop-t
invariant-loop-t l = HoldsNowhere (is_triggered (signals_of l.feeds) l.since) l.zero l.t
