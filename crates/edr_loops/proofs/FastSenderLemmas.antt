-- What a fast sensor's sender has sent.
use Rattle.std.proofs.Common.{arith, ◌≡◌, ◌∙◌, ◌≤◌, ◌+◌, ◌++◌, ℕ, List, ap, sym, drop, length, length-take, take}
use Rattle.std.proofs.lemmas.List.{drop-take, take-append-drop, take-take}
use Rattle.edr_items.specs.declared.Item.{Item}

-- where the first items of a list were sent, and then some of the others, first items are sent
pub first_on : (n k m : ℕ) (xs old new : List Item) → old ≡ take n xs → new ≡ old ++ take k (take m (drop n xs)) → k ≤ length (take m (drop n xs)) → new ≡ take (n + k) xs
first_on n k m xs old new first more few =
    let long = length-take m (drop n xs) in
    more ∙ ap (λ ys. ys ++ take k (take m (drop n xs))) first
    ∙ ap (λ ys. take n xs ++ ys) (take-take k m (drop n xs) (omega (arith, few, long)))
    ∙ ap (λ ys. ys ++ take k (drop n xs)) (sym (take-take n (n + k) xs (omega arith)))
    ∙ ap (λ ys. take n (take (n + k) xs) ++ ys) (sym (drop-take n k xs))
    ∙ take-append-drop n (take (n + k) xs)
