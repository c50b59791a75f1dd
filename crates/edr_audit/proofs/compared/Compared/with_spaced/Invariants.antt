use Rattle.std.proofs.Common.{◌≡◌, map, take}
use Rattle.edr_report.specs.Words.{spaced_words}
use Rattle.edr_audit.specs.Compared.{compare}
use Rattle.edr_audit.proofs.compared.Compared.with_spaced.Given as goal

-- the slots so far are compared
abbrev pub invariant-loop-i : goal.invariant-loop-i
invariant-loop-i g l = l.text ≡ compare l.report l.fn.self (spaced_words (map g.S.SlotTold.words (take l.i l.slots)))
