use Rattle.std.proofs.Common.{◌≡◌, ◌++◌, ◌+◌, drop, length}
use Rattle.edr_drawing.specs.Page.{events_of, numbered}
use Rattle.edr_drawing.proofs.ListLemmas.{events_from}
use Rattle.edr_drawing.proofs.sheets.events_of.Given as goal

-- what is left gives the rest
abbrev pub invariant-loop-one : goal.invariant-loop-one
invariant-loop-one l = numbered l.events.items ++ events_from (length l.events.items + 1) (drop l.one-index l.found) ≡ events_of l.found
