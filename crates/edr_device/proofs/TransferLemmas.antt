-- The turns of a whole transfer.
use Rattle.std.specs.Prelude.{◌≡◌, ◌+◌, ◌≤◌, ℕ, List, ◌++◌, length, take, drop, Option}
use Rattle.std.proofs.Common.{◌∙◌, sym, ap, arith, append_assoc}
use Rattle.std.proofs.Math.Seq.{take-add, drop-append-add}
use Rattle.edr_device.specs.Stream.{Appends}
use Rattle.edr_device.specs.Told.{Told}
use Rattle.edr_device.specs.Transfer.{GivesAtMost}
use Rattle.edr_device.proofs.TellingLemmas.{told_again}

-- these bytes were taken from the front
abbrev pub Gives : List ℕ → List ℕ → List ℕ → Type 0
Gives bytes left left' = left ≡ bytes ++ left'

-- after these bytes, at most m more were taken
pub gives_at_most : (m most : ℕ) (v : List ℕ) (x y z : Option (List ℕ)) → length v + m ≤ most → Told (Gives v) x y → Told (GivesAtMost m) y z → Told (GivesAtMost most) x z
gives_at_most m most v x y z within = told_again (Gives v) (GivesAtMost m) (GivesAtMost most)
    (λ a b c p q. (length v + q.0, omega (arith, q.1), q.2 ∙ sym (drop-append-add v b q.0) ∙ ap (λ t. drop (length v + q.0) t) (sym p)))
    x y z

-- after the first `at` bytes, the next n were put
pub appends_more : (at n : ℕ) (bytes : List ℕ) (x y z : Option (List ℕ)) → Told (Appends (take at bytes)) x y → Told (Appends (take n (drop at bytes))) y z → Told (Appends (take (at + n) bytes)) x z
appends_more at n bytes x y z = told_again (Appends (take at bytes)) (Appends (take n (drop at bytes))) (Appends (take (at + n) bytes))
    (λ a b c p q. q ∙ ap (λ t. t ++ take n (drop at bytes)) p ∙ append_assoc a (take at bytes) (take n (drop at bytes)) ∙ ap (λ t. a ++ t) (sym (take-add at n bytes)))
    x y z
