use Rattle.std.proofs.Common.{◌≡◌, ℕ, Bool, true, false, List, ◌++◌, drop}
use Rattle.edr_drawing.specs.Page.{firsts, firsts_words, numbered, others_words}
use Rattle.edr_drawing.proofs.sheets.put_firsts.Given as goal

-- what is told of the events that are left, after one that is named or none
abbrev pub rest : Bool → ℕ → List ℕ → List ℕ
rest false cycle ns = firsts_words cycle ns
rest true cycle ns = others_words cycle ns

abbrev pub invariant-loop-one : goal.invariant-loop-one
invariant-loop-one l =
    l.out.items ++ rest l.is_named l.key.cycle (firsts l.key l.after (numbered (drop l.one-index l.events)))
    ≡ l.initial.out.items ++ firsts_words l.key.cycle (firsts l.key l.after (numbered l.events))
