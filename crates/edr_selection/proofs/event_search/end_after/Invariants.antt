use Rattle.edr_definitions.specs.Ticks.{HoldsNowhere}
use Rattle.edr_definitions.specs.Signals.{signals_of}
use Rattle.edr_definitions.specs.Selection.{is_end}
use Rattle.edr_selection.proofs.event_search.end_after.Given as goal

abbrev pub invariant-loop-t : goal.invariant-loop-t
invariant-loop-t l = HoldsNowhere (is_end (signals_of l.feeds) l.zero) l.zero l.t
