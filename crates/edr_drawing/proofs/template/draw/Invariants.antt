use Rattle.std.proofs.Common.{◌≡◌, ◌++◌, take}
use Rattle.edr_drawing.specs.Template.{shapes_bytes}
use Rattle.edr_drawing.proofs.template.draw.Given as goal

abbrev pub invariant-loop-shape : goal.invariant-loop-shape
invariant-loop-shape l = l.out.items ≡ l.initial.out.items ++ shapes_bytes (take l.shape-index l.shapes)
