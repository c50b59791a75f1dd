use Rattle.std.proofs.Common.{sym, ap, ◌∙◌}
use Rattle.edr_definitions.specs.Commands.{issues_of}
use Rattle.edr_audit.specs.Branches.{all_past}
use Rattle.edr_selection.specs.Found.{placed_of}
use Rattle.edr_audit.proofs.EventLemmas.{event_past, events_done, nothing_past}
use Rattle.edr_audit.proofs.events.walk_events.Goals as goal

pub loop-event-init : goal.loop-event-init
loop-event-init c = sym (nothing_past c.args.telling.now.report.now c.args.telling.now.header c.args.telling.now.place c.horizon.result c.args.walkers.now.items)

pub loop-event-preserved : goal.loop-event-preserved
loop-event-preserved c =
    event_past c.args.telling.now.report.now c.args.telling.now.header c.args.telling.now.place c.horizon.result (λ e. issues_of c.args.feeds.now 1 (placed_of e)) c.deref-event-items.result.now c.loop-event.event-index _
    c.args.walkers.now.items c.loop-event.walkers.items c.all_parts.new.walkers.items c.loop-event-test.true c.loop-event.invariant
    (c.in_ok-all_parts.ensures ∙ ap (λ is. all_past c.args.telling.now.report.now c.args.telling.now.header c.args.telling.now.place c.horizon.result is c.loop-event.walkers.items) c.parts_of-parts.ensures)

pub returns : goal.returns
returns c =
    events_done c.args.telling.now.report.now c.args.telling.now.header c.args.telling.now.place c.args.feeds.now c.deref-event-items.result.now c.in_ok-events.events.items c.horizon.result c.loop-event.event-index
    c.args.walkers.now.items c.loop-event.walkers.items c.loop-event.invariant c.loop-event-test.false c.deref-event-items.ensures.value c.in_ok-events.ensures.events c.horizon.ensures
