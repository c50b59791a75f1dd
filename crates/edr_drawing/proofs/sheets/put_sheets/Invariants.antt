use Rattle.std.proofs.Common.{◌≡◌, ◌++◌, drop, flat_map}
use Rattle.edr_drawing.specs.Page.{numbered, sheet}
use Rattle.edr_drawing.proofs.sheets.put_sheets.Given as goal

-- what is left gives the rest
abbrev pub invariant-loop-event : goal.invariant-loop-event
invariant-loop-event l =
    l.out.items ++ flat_map (sheet (numbered l.events) l.digest) (numbered (drop l.event-index l.events))
    ≡ l.initial.out.items ++ flat_map (sheet (numbered l.events) l.digest) (numbered l.events)
