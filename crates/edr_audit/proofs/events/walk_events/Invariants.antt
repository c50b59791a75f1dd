use Rattle.std.proofs.Common.{◌≡◌, take}
use Rattle.std.specs.Prelude.{flat_map}
use Rattle.edr_definitions.specs.Commands.{issues_of}
use Rattle.edr_audit.specs.Branches.{all_past}
use Rattle.edr_selection.specs.Found.{placed_of}
use Rattle.edr_audit.proofs.events.walk_events.Given as goal

-- the walkers are past the events so far
abbrev pub invariant-loop-event : goal.invariant-loop-event
invariant-loop-event l = l.walkers.items ≡ all_past l.issues.telling.report.now l.issues.telling.header l.issues.telling.place l.issues.horizon (flat_map (λ e. issues_of l.feeds 1 (placed_of e)) (take l.event-index l.event-items)) l.fn.walkers.items
