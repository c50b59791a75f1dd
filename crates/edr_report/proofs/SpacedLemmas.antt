-- Words that are put one after the other, parted by one space.
use Rattle.std.proofs.Common.{arith, ◌≡◌, ◌∙◌, sym, ap, ℕ, zero, suc, ◌+◌, ◌<◌, ◌≤◌, List, [], ◌∷◌, ◌++◌, length, map, take, get_or, append_assoc, append-nil}
use Rattle.std.proofs.lemmas.List.{map_more, length-map, length-take}
use Rattle.edr_report.specs.Words.{spaced_words}

-- one more word stands after a space, where there are words
spaced-more : (ws : List (List ℕ)) (w : List ℕ) → 0 < length ws → spaced_words (ws ++ w ∷ []) ≡ (spaced_words ws ++ 32 ∷ []) ++ w
spaced-more [] w some = absurd (omega arith)
spaced-more (v ∷ []) w some = sym (append_assoc v (32 ∷ []) w)
spaced-more (v ∷ u ∷ ws) w some =
    ap (λ (bs : List ℕ). v ++ 32 ∷ bs) (spaced-more (u ∷ ws) w (omega arith)) ∙ sym (simp append_assoc)

-- the first word is put
pub spaced-first : {X : Type 0} (f : X → List ℕ) (xs : List X) (i : ℕ) (x : X) (start before same out : List ℕ) →
    i < length xs → i ≤ 0 → x ≡ get_or xs i x → before ≡ start ++ spaced_words (map f (take i xs)) → same ≡ before → out ≡ same ++ f x
    → out ≡ start ++ spaced_words (map f (take (i + 1) xs))
spaced-first f [] i x start before same out in_range first here stood is put = absurd (omega arith)
spaced-first f (y ∷ xs) zero x start before same out in_range first here stood is put =
    put ∙ ap (λ (bs : List ℕ). bs ++ f x) (is ∙ stood ∙ append-nil start) ∙ ap (λ z. start ++ f z) here
spaced-first f (y ∷ xs) (suc i) x start before same out in_range first here stood is put = absurd (omega arith)

-- a later one is put after a space
pub spaced-next : {X : Type 0} (f : X → List ℕ) (xs : List X) (i : ℕ) (x : X) (start before pushed parted out : List ℕ) →
    i < length xs → 0 < i → x ≡ get_or xs i x → before ≡ start ++ spaced_words (map f (take i xs)) → pushed ≡ before ++ 32 ∷ [] → parted ≡ pushed → out ≡ parted ++ f x
    → out ≡ start ++ spaced_words (map f (take (i + 1) xs))
spaced-next f xs i x start before pushed parted out in_range later here stood space is put =
    let ws = map f (take i xs) in
    let some : 0 < length ws = omega (arith, length-map (take i xs) f, length-take i xs) in
    let more : map f (take (i + 1) xs) ≡ ws ++ f x ∷ [] =
    map_more f xs i x in_range ∙ ap (λ z. ws ++ f z ∷ []) (sym here) in
    put
    ∙ ap (λ (bs : List ℕ). bs ++ f x) (is ∙ space ∙ ap (λ (bs : List ℕ). bs ++ 32 ∷ []) stood)
    ∙ simp append_assoc (ap (λ (bs : List ℕ). start ++ bs) (sym (simp append_assoc at (spaced-more ws (f x) some))))
    ∙ ap (λ (vs : List (List ℕ)). start ++ spaced_words vs) (sym more)
