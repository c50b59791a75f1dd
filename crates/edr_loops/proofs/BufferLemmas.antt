-- What lies in a inlet, and what was taken out of it.
use Rattle.std.proofs.Common.{◌≡◌, ◌∙◌, ◌<◌, ◌≤◌, ◌+◌, ◌-◌, ℕ, List, [], ◌∷◌, ◌++◌, length, take, sym, ap, arith, append_assoc, length-append, length-drop, length-take-le, take_all}
use Rattle.std.specs.Prelude.{get_or}
use Rattle.std.proofs.lemmas.List.{take-append-le, get_or-take, drop_more}
use Rattle.edr_items.specs.declared.Item.{Item}
use Rattle.edr_definitions.specs.Schedule.{BeginsWith}
use Rattle.edr_loops.specs.Slices.{between, but_last}

module _ {A : Type 0} where
  between-length : (next end : ℕ) (xs : List A) → end ≤ length xs → length (between next end xs) ≡ end - next
  between-length next end xs le = length-drop next (take end xs) ∙ ap (λ n. n - next) (length-take-le end xs le)

  -- the last ones are known: the others are what stands before them
  front_is : (all front back : List A) (n : ℕ) → all ≡ front ++ back → length back ≡ n → but_last n all ≡ front
  front_is all front back n is long =
      let whole = ap length is ∙ length-append front back in
      let fewer : length all - n ≡ length front = omega (arith, whole, long) in
      ap (λ (xs : List A). take (length all - n) xs) is ∙ take-append-le (length all - n) front back (omega (arith, fewer)) ∙ take_all (length all - n) front (omega (arith, fewer))

  -- the next one of the inlet, and what lies after it
  next_is : (next end : ℕ) (xs : List A) (d : A) → next < end → end ≤ length xs → between next end xs ≡ get_or xs next d ∷ between (next + 1) end xs
  next_is next end xs d lt le =
      let long = length-take-le end xs le in
      drop_more (take end xs) next d (omega (arith, long)) ∙ ap (λ x. x ∷ between (next + 1) end xs) (get_or-take end xs next d lt)

  next-split : (all xs : List A) (next end : ℕ) (d : A) → next < end → end ≤ length xs → all ≡ but_last (end - next) all ++ between next end xs
      → all ≡ (but_last (end - next) all ++ get_or xs next d ∷ []) ++ between (next + 1) end xs
  next-split all xs next end d lt le lie =
      lie ∙ ap (λ ys. but_last (end - next) all ++ ys) (next_is next end xs d lt le) ∙ sym (append_assoc (but_last (end - next) all) (get_or xs next d ∷ []) (between (next + 1) end xs))

  -- the next one is taken
  pub next_taken : (all xs : List A) (next end : ℕ) (d : A) → next < end → end ≤ length xs → all ≡ but_last (end - next) all ++ between next end xs
      → but_last (end - (next + 1)) all ≡ but_last (end - next) all ++ get_or xs next d ∷ []
  next_taken all xs next end d lt le lie =
      front_is all (but_last (end - next) all ++ get_or xs next d ∷ []) (between (next + 1) end xs) (end - (next + 1)) (next-split all xs next end d lt le lie)
      (between-length (next + 1) end xs le)

  pub next_lie : (all xs : List A) (next end : ℕ) (d : A) → next < end → end ≤ length xs → all ≡ but_last (end - next) all ++ between next end xs
      → all ≡ but_last (end - (next + 1)) all ++ between (next + 1) end xs
  next_lie all xs next end d lt le lie =
      next-split all xs next end d lt le lie ∙ ap (λ ys. ys ++ between (next + 1) end xs) (sym (next_taken all xs next end d lt le lie))

-- the next one stands after what is taken
pub next_begins : (all xs : List Item) (next end : ℕ) (d : Item) → next < end → end ≤ length xs → all ≡ but_last (end - next) all ++ between next end xs
    → BeginsWith all (but_last (end - next) all ++ get_or xs next d ∷ [])
next_begins all xs next end d lt le lie = (between (next + 1) end xs, next-split all xs next end d lt le lie)
