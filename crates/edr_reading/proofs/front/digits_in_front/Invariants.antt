use Rattle.std.proofs.Common.{◌≡◌, take, true}
use Rattle.std.specs.List.{list_all}
use Rattle.edr_text.specs.Numbers.{is_digit}
use Rattle.edr_reading.proofs.front.digits_in_front.Given as goal

-- what was passed are digits
abbrev pub invariant-loop-i : goal.invariant-loop-i
invariant-loop-i l = list_all is_digit (take l.i l.bytes) ≡ true
