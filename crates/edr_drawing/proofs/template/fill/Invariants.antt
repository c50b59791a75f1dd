use Rattle.std.proofs.Common.{◌≡◌, ◌++◌, false, drop, map}
use Rattle.edr_drawing.specs.Template.{filled_from, filling_bytes}
use Rattle.edr_drawing.proofs.template.fill.Given as goal

-- what is left gives the rest
abbrev pub invariant-loop-byte : goal.invariant-loop-byte
invariant-loop-byte l =
    l.out.items ++ filled_from (map filling_bytes l.fillings) l.in_hole (drop l.byte-index l.template)
    ≡ l.initial.out.items ++ filled_from (map filling_bytes l.fillings) false l.template
