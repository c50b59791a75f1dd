use Rattle.std.proofs.Common.{◌≡◌, take, true}
use Rattle.std.specs.List.{list_all}
use Rattle.edr_text.specs.Numbers.{within_u64, value_of, is_digit}
use Rattle.edr_text.specs.Numbers.{StartsAsNumeral}
use Rattle.edr_text.proofs.read_long.Given as goal

abbrev pub invariant-loop-b : goal.invariant-loop-b
invariant-loop-b l = record {
  value : l.value ≡ within_u64 (value_of (take l.b-index l.bytes));
  digits : list_all is_digit (take l.b-index l.bytes) ≡ true;
  front : StartsAsNumeral l.bytes;
}
