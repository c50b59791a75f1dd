-- What a source gave that gave all its bytes.
use Rattle.std.proofs.Common.{◌≡◌, ◌∙◌, ◌≤◌, ◌+◌, arith, sym, subst, ℕ, List, [], length, drop, Option, Some, None}
use Rattle.std.proofs.lemmas.List.{drop_all}
use Rattle.std.specs.Option.{IfSome}
use Rattle.edr_device.specs.{Told.{Told}, Transfer.{GivesAll, GivesAtMost}}
use Rattle.edr_picture.specs.Pages.{largest_report}

-- what is so of the bytes is so of those that were left, and none is left
pub whole : (is : List ℕ → Type 0) (bytes : List ℕ) (x y : Option (List ℕ)) → Told (GivesAll bytes) x y → is bytes → IfSome x is × IfSome y (λ b. b ≡ [])
whole is bytes None None t p = (tt, tt)
whole is bytes (Some a) (Some b) t p = (subst is (sym t.0) p, t.1)
whole is bytes None (Some b) t p = absurd t
whole is bytes (Some a) None t p = absurd t

-- no more are taken than a report may have
pub few : (bytes : List ℕ) (x y : Option (List ℕ)) → Told (GivesAll bytes) x y → length bytes ≤ largest_report → Told (GivesAtMost (largest_report + 1)) x y
few bytes None None t p = tt
few bytes (Some a) (Some b) t p = (length bytes, omega (arith, p), subst (λ (v : List ℕ). b ≡ drop (length bytes) v) (sym t.0) (t.1 ∙ sym (drop_all (length bytes) bytes (omega arith))))
few bytes None (Some b) t p = absurd t
few bytes (Some a) None t p = absurd t
