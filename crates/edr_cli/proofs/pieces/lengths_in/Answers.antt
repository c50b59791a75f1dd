use Rattle.std.proofs.Common.{◌∙◌, sym, ap₂, ◌∷◌, ◌++◌, List, ℕ}
use Rattle.edr_cli.proofs.PieceLemmas.{line_parts, no_line, read_none, read_some}
use Rattle.edr_cli.proofs.pieces.lengths_in.Goals as goal

pub returns-in_err-first-clause-none : goal.returns-in_err-first-clause-none
returns-in_err-first-clause-none c = λ none a b small_a small_b is. no_line a b c.args.line.now (c.parted_by.ensures.none c.in_err-first.was) is

pub returns-in_err-first-2-clause-none : goal.returns-in_err-first-2-clause-none
returns-in_err-first-2-clause-none c = λ none a b small_a small_b is.
    let parts = line_parts a b c.in_ok-first.first.now c.in_ok-first.second.now c.in_ok-first.ensures.first (sym c.in_ok-first.ensures.parts ∙ is) in
    read_none c.in_ok-first.first.now a c.read_u64.result parts.0 small_a c.read_u64.ensures (sym c.ok.ensures.value ∙ c.in_err-first-2.was)

pub returns-in_err-second-clause-none : goal.returns-in_err-second-clause-none
returns-in_err-second-clause-none c = λ none a b small_a small_b is.
    let parts = line_parts a b c.in_ok-first.first.now c.in_ok-first.second.now c.in_ok-first.ensures.first (sym c.in_ok-first.ensures.parts ∙ is) in
    read_none c.in_ok-first.second.now b c.read_u64-2.result parts.1 small_b c.read_u64-2.ensures (sym c.ok-2.ensures.value ∙ c.in_err-second.was)

pub returns-clause-some : goal.returns-clause-some
returns-clause-some c =
    let first = read_some c.in_ok-first.first.now c.in_ok-first-2.first c.read_u64.result c.read_u64.ensures (sym c.ok.ensures.value ∙ c.in_ok-first-2.was) in
    let second = read_some c.in_ok-first.second.now c.in_ok-second.second c.read_u64-2.result c.read_u64-2.ensures (sym c.ok-2.ensures.value ∙ c.in_ok-second.was) in
    c.in_ok-first.ensures.parts ∙ ap₂ (λ (p q : List ℕ). p ++ 32 ∷ q) (sym first) (sym second)
