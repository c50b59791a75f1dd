use Rattle.std.proofs.Common.{◌≡◌, ◌++◌, drop, flat_map}
use Rattle.edr_drawing.specs.Page.{event_row, numbered}
use Rattle.edr_drawing.proofs.sheets.put_events.Given as goal

-- what is left gives the rest
abbrev pub invariant-loop-number : goal.invariant-loop-number
invariant-loop-number l =
    l.out.items ++ flat_map event_row (numbered (drop l.number-index l.events)) ≡ l.initial.out.items ++ flat_map event_row (numbered l.events)
