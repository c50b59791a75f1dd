use Rattle.std.proofs.Common.{◌≡◌, ◌++◌, take}
use Rattle.edr_drawing.specs.Page.{damaged_items}
use Rattle.edr_drawing.proofs.sheets.put_damaged.Given as goal

abbrev pub invariant-loop-bank : goal.invariant-loop-bank
invariant-loop-bank l = l.out.items ≡ l.initial.out.items ++ damaged_items (take l.bank-index l.found)
