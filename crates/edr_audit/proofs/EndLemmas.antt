-- What a walker comes to, by whether a stop was reached.
use Rattle.std.proofs.Common.{◌≡◌, refl, sym, ap, ◌∙◌, ℕ, ◌+◌, ◌<◌, true, false, List, [], ◌∷◌, ◌++◌, length, map, take, get_or, append_assoc}
use Rattle.std.specs.Prelude.{Vec}
use Rattle.std.specs.declared.alloc.Global.{Global}
use Rattle.std.proofs.lemmas.List.{map-append, take_more}
use Rattle.edr_audit.specs.declared.compared.Compared.{Compared}
use Rattle.edr_audit.proofs.WalkLemmas.{map_map}
use Rattle.edr_image.specs.declared.BankView.{BankView}
use Rattle.edr_audit.specs.Walk.{goes_on}
use Rattle.edr_audit.specs.Branches.{WalkerState, branch_with, ends_of_walk, walked}

pub ends_on : (w : WalkerState) (ends : List (List BankView)) → goes_on ends ≡ true → ends_of_walk w ends ≡ branch_with w.number w.off w.walk.banks ∷ []
ends_on w [] e = refl
ends_on w (x ∷ xs) e = cc

pub ends_over : (w : WalkerState) (ends : List (List BankView)) → goes_on ends ≡ false → ends_of_walk w ends ≡ map (branch_with w.number w.cut) ends
ends_over w [] e = cc
ends_over w (x ∷ xs) e = refl

-- the ends of a walker that was stopped, as they are held
pub over_is : (w : WalkerState) (n : ℕ) (cut : Compared) (held given : List (Vec BankView Global)) (ends : List (List BankView)) → n ≡ w.number → cut ≡ w.cut → given ≡ held → map (λ v. v.items) held ≡ ends → ends ≡ w.walk.ends → goes_on ends ≡ false
    → map (λ v. branch_with n cut v.items) given ≡ walked w
over_is w n cut held given ends number text same are of over =
    ap (λ (xs : List (Vec BankView Global)). map (λ v. branch_with n cut v.items) xs) same
    ∙ sym (map_map (branch_with n cut) (λ (v : Vec BankView Global). v.items) held)
    ∙ ap (λ (xs : List (List BankView)). map (branch_with n cut) xs) are
    ∙ ap (λ (m : ℕ). map (branch_with m cut) ends) number
    ∙ ap (λ (t : Compared). map (branch_with w.number t) ends) text
    ∙ sym (ends_over w ends over)
    ∙ ap (ends_of_walk w) of

-- one more is put at the end
pub mapped_more : {A B : Type 0} (f : A → B) (old now new : List B) (xs : List A) (i : ℕ) (d : A) → i < length xs → now ≡ old ++ map f (take i xs) → new ≡ now ++ f (get_or xs i d) ∷ [] → new ≡ old ++ map f (take (i + 1) xs)
mapped_more {B = B} f old now new xs i d below was put =
    put ∙ ap (λ (ys : List B). ys ++ f (get_or xs i d) ∷ []) was ∙ append_assoc old (map f (take i xs)) (f (get_or xs i d) ∷ [])
    ∙ ap (λ (ys : List B). old ++ ys) (sym (map-append f (take i xs) (get_or xs i d ∷ [])) ∙ ap (map f) (sym (take_more xs i d below)))
