use Rattle.std.proofs.Common.{◌≡◌, take, false}
use Rattle.std.specs.List.{list_any}
use Rattle.edr_spell.specs.Lines.{is_special}
use Rattle.edr_trace.proofs.fronts.plain_in_front.Given as goal

-- no byte so far is special
abbrev pub invariant-loop-i : goal.invariant-loop-i
invariant-loop-i l = list_any is_special (take l.i l.bytes) ≡ false
