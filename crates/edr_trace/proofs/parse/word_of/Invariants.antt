use Rattle.std.proofs.Common.{◌≡◌, bytes_eq, drop}
use Rattle.std.specs.List.{find}
use Rattle.edr_spell.specs.Rows.{spelling_of, words}
use Rattle.edr_trace.proofs.parse.word_of.Given as goal

-- no word so far is the one
abbrev pub invariant-loop-word : goal.invariant-loop-word
invariant-loop-word l = find (λ w. bytes_eq l.bytes (spelling_of w)) (drop l.word-index words) ≡ find (λ w. bytes_eq l.bytes (spelling_of w)) words
