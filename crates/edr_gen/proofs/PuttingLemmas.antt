-- Pieces of a whole, put one after the other.
use Rattle.std.proofs.Common.{arith, ◌≡◌, ◌∙◌, sym, ap, refl, ℕ, ◌+◌, List, [], ◌++◌, length, take, Option, Some, None, append_assoc, length-append}
use Rattle.std.proofs.lemmas.List.{append-nil, take-append-le}
use Rattle.std.proofs.Math.Seq.{take-append-add}
use Rattle.edr_device.specs.Stream.{Appends}
use Rattle.edr_device.specs.Told.{Told}
use Rattle.edr_device.specs.Transfer.{AppendsPart}
use Rattle.edr_device.proofs.TellingLemmas.{told_again}

-- all of the whole but its rest was put
abbrev pub IsPutBut : List ℕ → List ℕ → List ℕ → List ℕ → Type 0
IsPutBut whole rest old new = (done : List ℕ) × (whole ≡ done ++ rest) × (new ≡ old ++ done)

pub put-none : (whole : List ℕ) (x : Option (List ℕ)) → Told (IsPutBut whole whole) x x
put-none whole None = tt
put-none whole (Some a) = ([], refl, sym (append-nil a))

pub put-more : (whole piece rest : List ℕ) (x y z : Option (List ℕ)) → Told (IsPutBut whole (piece ++ rest)) x y → Told (Appends piece) y z → Told (IsPutBut whole rest) x z
put-more whole piece rest = told_again (IsPutBut whole (piece ++ rest)) (Appends piece) (IsPutBut whole rest)
    (λ a b c p q. (p.0 ++ piece, p.1 ∙ sym (append_assoc p.0 piece rest), q ∙ ap (λ t. t ++ piece) p.2 ∙ append_assoc a p.0 piece))

pub put-part : (whole piece rest : List ℕ) (x y z : Option (List ℕ)) → Told (IsPutBut whole (piece ++ rest)) x y → Told (AppendsPart piece) y z → Told (AppendsPart whole) x z
put-part whole piece rest = told_again (IsPutBut whole (piece ++ rest)) (AppendsPart piece) (AppendsPart whole) (λ a b c p q. part a b c p q)
  where
    part : (a b c : List ℕ) → IsPutBut whole (piece ++ rest) a b → AppendsPart piece b c → AppendsPart whole a c
    part a b c p q =
        let len : length whole ≡ length p.0 + (length piece + length rest) = ap length p.1 ∙ length-append p.0 (piece ++ rest) ∙ ap (λ (n : ℕ). length p.0 + n) (length-append piece rest) in
        let front : take (length p.0 + q.0) whole ≡ p.0 ++ take q.0 piece =
        ap (take (length p.0 + q.0)) p.1 ∙ take-append-add p.0 (piece ++ rest) q.0 ∙ ap (λ (t : List ℕ). p.0 ++ t) (take-append-le q.0 piece rest (omega (arith, q.1))) in
        (length p.0 + q.0, omega (arith, q.1, len), q.2 ∙ ap (λ t. t ++ take q.0 piece) p.2 ∙ append_assoc a p.0 (take q.0 piece) ∙ ap (λ t. a ++ t) (sym front))

pub put-all : (whole : List ℕ) (x y : Option (List ℕ)) → Told (IsPutBut whole []) x y → Told (Appends whole) x y
put-all whole None None t = tt
put-all whole (Some a) (Some b) t = t.2 ∙ ap (λ (w : List ℕ). a ++ w) (sym (append-nil t.0) ∙ sym t.1)
put-all whole None (Some b) t = absurd t
put-all whole (Some a) None t = absurd t
