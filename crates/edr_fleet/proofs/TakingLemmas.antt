-- What is given to a reading piece by piece.
use Rattle.std.specs.Prelude.{◌≡◌, ◌≤◌, ℕ, Bool, true, false, List, [], ◌++◌, length, drop, Option, Some, None}
use Rattle.std.proofs.Common.{◌∙◌, sym, ap, append_assoc, append-nil}
use Rattle.std.proofs.Math.Seq.{drop-append_seam}
use Rattle.edr_device.specs.Told.{Told}
use Rattle.edr_device.specs.Transfer.{Carries, GivesAll, GivesAtMost}
use Rattle.edr_device.proofs.TellingLemmas.{told_again}
use Rattle.edr_device.proofs.TransferLemmas.{Gives}
use Rattle.edr_fleet.specs.Reading.{GivesPiece}

pub gives_next : (n : ℕ) (before piece : List ℕ) (x y z : Option (List ℕ)) → Told (Gives before) x y → Told (Carries n [] piece) y z → Told (Gives (before ++ piece)) x z
gives_next n before piece = told_again (Gives before) (Carries n [] piece) (Gives (before ++ piece))
    (λ a b d e h. e ∙ ap (λ (t : List ℕ). before ++ t) h.carried ∙ sym (append_assoc before piece d))

pub gives_most : (most : ℕ) (v : List ℕ) (x y : Option (List ℕ)) → length v ≤ most → Told (Gives v) x y → Told (GivesAtMost most) x y
gives_most most v None None few p = tt
gives_most most v (Some a) (Some b) few p = (length v, few, sym (drop-append_seam v b) ∙ ap (λ (t : List ℕ). drop (length v) t) (sym p))
gives_most most v None (Some b) few p = p
gives_most most v (Some a) None few p = p

-- the end was not looked for
pub gives_on : (piece : List ℕ) (x y : Option (List ℕ)) → Told (Gives piece) x y → Told (GivesPiece piece false) x y
gives_on piece None None p = tt
gives_on piece (Some a) (Some b) p = record { given = p; end = λ e. cc }
gives_on piece None (Some b) p = p
gives_on piece (Some a) None p = p

-- no more came, so none is left
pub gives_end : (n : ℕ) (before piece : List ℕ) (x y z : Option (List ℕ)) → n ≡ 0 → piece ≡ [] → Told (Gives before) x y → Told (Carries n [] piece) y z → Told (GivesPiece before true) x z
gives_end n before piece x y z none empty = told_again (Gives before) (Carries n [] piece) (GivesPiece before true)
    (λ a b d e h. let same : b ≡ d = h.carried ∙ ap (λ (t : List ℕ). t ++ d) empty in
    record { given = e ∙ ap (λ (t : List ℕ). before ++ t) same; end = λ _. sym same ∙ h.end none })
    x y z

-- one more piece came
pub gives_more : (before piece : List ℕ) (e : Bool) (x y z : Option (List ℕ)) → Told (Gives before) x y → Told (GivesPiece piece e) y z → Told (Gives (before ++ piece)) x z
gives_more before piece e = told_again (Gives before) (GivesPiece piece e) (Gives (before ++ piece))
    (λ a b d p q. p ∙ ap (λ (t : List ℕ). before ++ t) q.given ∙ sym (append_assoc before piece d))

-- the last piece came
pub gives_all : (before piece : List ℕ) (e : Bool) (x y z : Option (List ℕ)) → e ≡ true → Told (Gives before) x y → Told (GivesPiece piece e) y z → Told (GivesAll (before ++ piece)) x z
gives_all before piece e x y z last = told_again (Gives before) (GivesPiece piece e) (GivesAll (before ++ piece))
    (λ a b d p q. let none = q.end last in
    (p ∙ ap (λ (t : List ℕ). before ++ t) (q.given ∙ ap (λ (t : List ℕ). piece ++ t) none ∙ append-nil piece), none))
    x y z
