-- A sample that is kept after the oldest one.
use Rattle.std.proofs.Common.{arith, refl, ap, sym, ◌≡◌, ◌∙◌, ℕ, ◌+◌, ◌-◌, ◌<◌, ◌≤◌, ◌⊎◌, inl, inr, true, false, cond, nat_lt, is_some, Option, Some, None, List, [], ◌∷◌, ◌++◌, length, drop, slice_get, length-append, length-drop}
use Rattle.std.proofs.lemmas.Bool.{cases_lt}
use Rattle.std.proofs.lemmas.Bool.Decides.{nat_tests}
use Rattle.circular_buffer.specs.Buffer.{keep_last}
use Rattle.edr_items.specs.declared.Item.{Item}
use Rattle.edr_merge.specs.declared.samples.TheConstants.{ROOM}
use Rattle.edr_merge.specs.Samples.{with_sample}
use Rattle.edr_merge.specs.Oldest.{with_oldest}
use Rattle.edr_merge.proofs.WaitingLemmas.{keep_last-all}

-- the last n are at most n
pub length-keep_last : (n : ℕ) (xs : List Item) → length (keep_last n xs) ≤ n
length-keep_last n xs = let e = length-drop (length xs - n) xs in omega (arith, e)

-- what a ring gives back that took one more item
abbrev pub given_back : ℕ → List Item → Item → Option Item
given_back n xs x = cond (nat_lt (length xs) n) None (slice_get (xs ++ x ∷ []) 0)

back-room : (n : ℕ) (xs : List Item) (x : Item) → length xs < n → given_back n xs x ≡ None
back-room n xs x less = let e : nat_lt (length xs) n ≡ true = grind (arith, nat_tests) in rw e refl

back-full : (n : ℕ) (xs : List Item) (x : Item) → n ≤ length xs → given_back n xs x ≡ slice_get (xs ++ x ∷ []) 0
back-full n xs x full = let e : nat_lt (length xs) n ≡ false = grind (arith, nat_tests) in rw e refl

-- the first of some items and the others
some-first : (xs : List Item) (x : Item) → slice_get (xs ++ x ∷ []) 0 ≡ None → ⊥
some-first [] x h = absurd (cc)
some-first (y ∷ ys) x h = absurd (cc)

first-and_others : (xs : List Item) (x : Item) → slice_get xs 0 ≡ Some x → x ∷ drop 1 xs ≡ xs
first-and_others [] x h = absurd (cc)
first-and_others (y ∷ ys) x h = let e : y ≡ x = cc in ap (λ (z : Item). z ∷ ys) (sym e)

module _ (xs : List Item) (x y : Item) (n : ℕ) (room : n + 1 ≡ ROOM) (within : length xs + 1 ≤ ROOM) where
  -- where it had room, the item is behind the others
  pub kept-with_room : given_back n xs x ≡ None → y ∷ keep_last n (xs ++ x ∷ []) ≡ keep_last ROOM (y ∷ (xs ++ x ∷ []))
  kept-with_room back = by_room (cases_lt (length xs) n) where
    by_room : (length xs < n) ⊎ (n ≤ length xs) → y ∷ keep_last n (xs ++ x ∷ []) ≡ keep_last ROOM (y ∷ (xs ++ x ∷ []))
    by_room (inl less) =
        let l = length-append xs (x ∷ []) in
        ap (λ zs. y ∷ zs) (keep_last-all n (xs ++ x ∷ []) (omega (arith, l))) ∙ sym (keep_last-all ROOM (y ∷ (xs ++ x ∷ [])) (omega (arith, l)))
    by_room (inr full) = absurd (some-first xs x (sym (back-full n xs x full) ∙ back))

  -- where it had none, the next one is the oldest
  pub kept-without_room : (first : Item) → given_back n xs x ≡ Some first → first ∷ keep_last n (xs ++ x ∷ []) ≡ keep_last ROOM (y ∷ (xs ++ x ∷ []))
  kept-without_room first back = by_room (cases_lt (length xs) n) where
    by_room : (length xs < n) ⊎ (n ≤ length xs) → first ∷ keep_last n (xs ++ x ∷ []) ≡ keep_last ROOM (y ∷ (xs ++ x ∷ []))
    by_room (inl less) = let none = sym (back-room n xs x less) ∙ back in absurd (cc)
    by_room (inr full) =
        let l = length-append xs (x ∷ []) in
        let one : length (xs ++ x ∷ []) - n ≡ 1 = omega (arith, l) in
        let more : length (y ∷ (xs ++ x ∷ [])) - ROOM ≡ 1 = omega (arith, l) in
        ap (λ k. first ∷ drop k (xs ++ x ∷ [])) one
        ∙ first-and_others (xs ++ x ∷ []) first (sym (back-full n xs x full) ∙ back)
        ∙ sym (ap (λ k. drop k (y ∷ (xs ++ x ∷ []))) more)

-- a sample that is kept after an oldest one
pub kept-behind : (x : Item) (before : List Item) (o : Option Item) (xs : List Item) → with_oldest o xs ≡ before → is_some x.value ≡ true → is_some o ≡ true → (after : List Item) → ((y : Item) → o ≡ Some y → after ≡ keep_last ROOM (y ∷ (xs ++ x ∷ []))) → after ≡ with_sample x before
kept-behind x before None xs view sample some after h = absurd (cc)
kept-behind x before (Some y) xs view sample some after h =
    h y refl ∙ ap (λ zs. keep_last ROOM (zs ++ x ∷ [])) view ∙ sym (ap (λ b. cond b (keep_last ROOM (before ++ x ∷ [])) before) sample)
