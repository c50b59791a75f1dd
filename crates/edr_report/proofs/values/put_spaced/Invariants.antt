use Rattle.std.proofs.Common.{◌≡◌, ◌++◌, string_bytes, map, take}
use Rattle.edr_report.specs.Words.{spaced_words}
use Rattle.edr_report.proofs.values.put_spaced.Given as goal

-- the slots that were passed stand there, parted by one space
abbrev pub invariant-loop-i : goal.invariant-loop-i
invariant-loop-i g l = string_bytes l.out ≡ string_bytes l.initial.out ++ spaced_words (map g.S.Slot.words (take l.i l.slots))
