use Rattle.std.proofs.Common.{◌≡◌, inl, inr, rules, None}
use Rattle.edr_reading.proofs.EventLemmas.{none-line}
use Rattle.edr_reading.proofs.event.part_line.Goals as goal
use Rattle.edr_reading.proofs.event.part_line.Goals.{in-End, in_default, in_default-crash-via-in-Some+else-not-is_end, in_default-crash-via-in_default-crash}

pub returns-in_default-crash : goal.returns-in_default-crash
returns-in_default-crash c = elim c.in_default-crash.branch [
  | in_default-crash-via-in-Some+else-not-is_end w ↦ elim c.match-matches.branch [
    | in-End v ↦ none-line c.args.line c.args.crash.now c.args.value.now (inl v.in-End.is) c.if-is_word.ensures
    | in_default v ↦ let m = v.matches-is in let n = w.if-not-is_end in cc
  ]
  | in_default-crash-via-in_default-crash w ↦ let none : c.args.crash.now ≡ None = search rules in none-line c.args.line c.args.crash.now c.args.value.now (inr none) c.if-is_word.ensures
]
