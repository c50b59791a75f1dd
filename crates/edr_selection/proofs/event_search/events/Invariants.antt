use Rattle.std.proofs.Common.{◌≡◌, ◌+◌, ◌-◌, ◌≤◌, ◌++◌}
use Rattle.std.specs.Prelude.{map}
use Rattle.edr_record.specs.declared.TheConstants.{LONGEST_WINDOW, RESET}
use Rattle.edr_definitions.specs.Signals.{signals_of}
use Rattle.edr_definitions.specs.Selection.{chain_from, events}
use Rattle.edr_selection.specs.Found.{bounds_of, told_event}
use Rattle.edr_selection.proofs.EventLemmas.{told_of}
use Rattle.edr_selection.proofs.event_search.events.Given as goal

abbrev pub invariant-loop-done : goal.invariant-loop-done
invariant-loop-done l = record {
  near : l.from.after ≤ l.upto + RESET + LONGEST_WINDOW;
  all : map told_event l.found.items ++ told_of l.upto (chain_from (signals_of l.feeds) l.upto (l.upto - l._done) (bounds_of l.from)) ≡ events (signals_of l.feeds) l.upto;
}
