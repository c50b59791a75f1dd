use Rattle.std.proofs.Common.{arith, ℕ, ◌+◌, ◌≤◌, IsTrue, nat_lt}
use Rattle.std.proofs.lemmas.Bool.Decides.{nat_tests}
use Rattle.edr_merge.proofs.is_before_slow.Goals as goal

told-later : (a b : ℕ) → IsTrue (nat_lt a b) → a + 1 ≤ b
told-later a b told = grind (arith, nat_tests)

later-told : (a b : ℕ) → a + 1 ≤ b → IsTrue (nat_lt a b)
later-told a b later = grind (arith, nat_tests)

pub returns-clause-answer : goal.returns-clause-answer
returns-clause-answer c =
    let least = c.least_slow.ensures (c.args.tick + 1) in
    (λ told. least.0 (told-later c.args.tick c.least_slow.result told), λ below. later-told c.args.tick c.least_slow.result (least.1 below))

pub returns-clause-below : goal.returns-clause-below
returns-clause-below c = (c.least_slow.ensures c.least_slow.result).0 (omega arith)
