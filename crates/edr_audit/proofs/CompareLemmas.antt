-- What is found while a text is printed is its first difference from the report.
use Rattle.std.proofs.Common.{◌≡◌, refl, sym, ap, subst, ◌∙◌, arith, ℕ, suc, ◌+◌, Bool, true, false, cond, ◌&&◌, nat_eq, nat_lt, Option, Some, None, List, [], ◌∷◌, ◌++◌, length, length-append, append_assoc, slice_index}
use Rattle.std.specs.Prelude.{option_map}
use Rattle.std.proofs.lemmas.List.Sums.{fold-append}
use Rattle.std.proofs.lemmas.Bool.Decides.{nat_tests}
use Rattle.edr_audit.specs.declared.compared.Compared.{Compared}
use Rattle.edr_audit.specs.declared.compared.Compared.TheVariants.{Same, Differs}
use Rattle.edr_audit.specs.Compared.{first_difference, compare_byte, compare, difference_in}

pub compare_append : (report : List ℕ) (c : Compared) (a b : List ℕ) → compare report c (a ++ b) ≡ compare report (compare report c a) b
compare_append report c a b = fold-append (compare_byte report) c a b

differs_stays : (report : List ℕ) (n : ℕ) (text : List ℕ) → compare report (Differs n) text ≡ Differs n
differs_stays report n [] = refl
differs_stays report n (b ∷ text) = differs_stays report n text

index_after : (front : List ℕ) (y : ℕ) (ys : List ℕ) → slice_index (front ++ y ∷ ys) (length front) ≡ y
index_after [] y ys = refl
index_after (x ∷ front) y ys = index_after front y ys

some_plus : (n : ℕ) → Some n ≡ Some (n + 0)
some_plus n = ap Some (omega arith)

twice : (n : ℕ) (o : Option ℕ) → option_map (λ k. n + 1 + k) o ≡ option_map (λ k. n + k) (option_map suc o)
twice n None = refl
twice n (Some k) = ap Some (omega arith)

below_after : (front : List ℕ) (y : ℕ) (ys : List ℕ) → nat_lt (length front) (length (front ++ y ∷ ys)) ≡ true
below_after front y ys = let long = length-append front (y ∷ ys) in grind (arith, nat_tests, long)

not_below : (front : List ℕ) → nat_lt (length front) (length (front ++ [])) ≡ false
not_below front = let long = length-append front [] in grind (arith, nat_tests, long)

-- past the bytes that are the same
after_front : (front ys text : List ℕ) → difference_in (front ++ ys) (compare (front ++ ys) (Same (length front)) text) ≡ option_map (λ k. length front + k) (first_difference ys text)
after_front front [] [] = ap (λ t. cond t (Some (length front)) None) (not_below front)
after_front front (y ∷ ys) [] = ap (λ t. cond t (Some (length front)) None) (below_after front y ys) ∙ some_plus (length front)
after_front front [] (b ∷ text) =
    let n = length front in
    let report = front ++ [] in
    let first : compare_byte report (Same n) b ≡ Differs n = ap (λ t. cond (t && nat_eq (slice_index report n) b) (Same (n + 1)) (Differs n)) (not_below front) in
    ap (λ c. difference_in report (compare report c text)) first ∙ ap (difference_in report) (differs_stays report n text) ∙ some_plus n
after_front front (y ∷ ys) (b ∷ text) = by_test (nat_eq y b) refl (after_front (front ++ y ∷ []) ys text) where
  first : compare_byte (front ++ y ∷ ys) (Same (length front)) b ≡ cond (nat_eq y b) (Same (length front + 1)) (Differs (length front))
  first =
      ap (λ t. cond (t && nat_eq (slice_index (front ++ y ∷ ys) (length front)) b) (Same (length front + 1)) (Differs (length front))) (below_after front y ys)
      ∙ ap (λ x. cond (nat_eq x b) (Same (length front + 1)) (Differs (length front))) (index_after front y ys)

  next : difference_in ((front ++ y ∷ []) ++ ys) (compare ((front ++ y ∷ []) ++ ys) (Same (length (front ++ y ∷ []))) text) ≡ option_map (λ k. length (front ++ y ∷ []) + k) (first_difference ys text)
      → difference_in (front ++ y ∷ ys) (compare (front ++ y ∷ ys) (Same (length front + 1)) text) ≡ option_map (λ k. length front + 1 + k) (first_difference ys text)
  next later =
      let long : length (front ++ y ∷ []) ≡ length front + 1 = length-append front (y ∷ []) in
      let whole : (front ++ y ∷ []) ++ ys ≡ front ++ y ∷ ys = append_assoc front (y ∷ []) ys in
      subst (λ r. difference_in r (compare r (Same (length front + 1)) text) ≡ option_map (λ k. length front + 1 + k) (first_difference ys text)) whole
      (subst (λ m. difference_in ((front ++ y ∷ []) ++ ys) (compare ((front ++ y ∷ []) ++ ys) (Same m) text) ≡ option_map (λ k. m + k) (first_difference ys text)) long later)

  by_test : (t : Bool) → nat_eq y b ≡ t
      → difference_in ((front ++ y ∷ []) ++ ys) (compare ((front ++ y ∷ []) ++ ys) (Same (length (front ++ y ∷ []))) text) ≡ option_map (λ k. length (front ++ y ∷ []) + k) (first_difference ys text)
      → difference_in (front ++ y ∷ ys) (compare (front ++ y ∷ ys) (compare_byte (front ++ y ∷ ys) (Same (length front)) b) text) ≡ option_map (λ k. length front + k) (cond (nat_eq y b) (option_map suc (first_difference ys text)) (Some 0))
  by_test true same later =
      ap (λ c. difference_in (front ++ y ∷ ys) (compare (front ++ y ∷ ys) c text)) (first ∙ ap (λ t. cond t (Same (length front + 1)) (Differs (length front))) same) ∙ next later ∙ twice (length front) (first_difference ys text)
      ∙ ap (λ t. option_map (λ k. length front + k) (cond t (option_map suc (first_difference ys text)) (Some 0))) (sym same)
  by_test false other later =
      ap (λ c. difference_in (front ++ y ∷ ys) (compare (front ++ y ∷ ys) c text)) (first ∙ ap (λ t. cond t (Same (length front + 1)) (Differs (length front))) other)
      ∙ ap (difference_in (front ++ y ∷ ys)) (differs_stays (front ++ y ∷ ys) (length front) text) ∙ some_plus (length front)
      ∙ ap (λ t. option_map (λ k. length front + k) (cond t (option_map suc (first_difference ys text)) (Some 0))) (sym other)

zero_plus : (o : Option ℕ) → option_map (λ k. 0 + k) o ≡ o
zero_plus None = refl
zero_plus (Some k) = ap Some (omega arith)

-- from the first byte of a text to its last
pub compared-is : (report text : List ℕ) → difference_in report (compare report (Same 0) text) ≡ first_difference report text
compared-is report text = after_front [] report text ∙ zero_plus (first_difference report text)

-- none is found exactly where the report is the text
pub none-same : (report text : List ℕ) → first_difference report text ≡ None → report ≡ text
none-same [] [] e = refl
none-same [] (y ∷ ys) e = absurd cc
none-same (x ∷ xs) [] e = absurd cc
none-same (x ∷ xs) (y ∷ ys) e = by_test (nat_eq x y) refl (none-same xs ys) e where
  later : (o : Option ℕ) → option_map suc o ≡ None → o ≡ None
  later None e = refl
  later (Some k) e = absurd cc

  by_test : (t : Bool) → nat_eq x y ≡ t → (first_difference xs ys ≡ None → xs ≡ ys) → cond t (option_map suc (first_difference xs ys)) (Some 0) ≡ None → x ∷ xs ≡ y ∷ ys
  by_test true same more e = let first : x ≡ y = grind (arith, same) in rw first (ap (λ zs. y ∷ zs) (more (later (first_difference xs ys) e)))
  by_test false other more e = absurd cc

pub same-none : (text : List ℕ) → first_difference text text ≡ None
same-none [] = refl
same-none (x ∷ xs) = let same : nat_eq x x ≡ true = grind (arith, nat_tests) in rw same (ap (λ o. option_map suc o) (same-none xs))
