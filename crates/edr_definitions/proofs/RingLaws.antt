-- A slot of a ring that keeps the newest samples is the slot of all items.
use Rattle.std.proofs.Common.{arith, refl, ap, sym, ◌≡◌, ◌∙◌, ℕ, zero, suc, ◌+◌, ◌-◌, ◌<◌, ◌≤◌, ◌⊎◌, inl, inr, Bool, true, false, cond, ◌&&◌, nat_le, ℤ, Some, None, Option, List, [], ◌∷◌, ◌++◌, length, drop, filter, slice_index_or}
use Rattle.std.specs.Prelude.{is_some}
use Rattle.std.specs.Option.{option_or}
use Rattle.std.proofs.lemmas.Bool.{cases_lt}
use Rattle.std.proofs.lemmas.List.Elements.{filter-append}
use Rattle.edr_definitions.specs.declared.limits.TheConstants.{LONGEST_AGE}
use Rattle.edr_items.specs.declared.Sensor.{Sensor}
use Rattle.edr_items.specs.declared.Item.{Item}
use Rattle.edr_items.specs.Item.{mark_from, mark_of, IsFeedAfter, IsRising}
use Rattle.edr_items.proofs.FeedLemmas.{refusal_of-rises}
use Rattle.edr_definitions.specs.Parts.{latest_value, slot}
use Rattle.edr_definitions.specs.Rings.{RisesFrom, samples, newest}

-- ---- lists that rise
pub RisesFrom-before : (a b : ℕ) (xs : List Item) → a ≤ b → RisesFrom b xs → RisesFrom a xs
RisesFrom-before a b [] le h = tt
RisesFrom-before a b (x ∷ xs) le h = (omega (arith, h.0), h.1)

pub IsFeedAfter-rises_from : (s : Sensor) (last : ℕ) (xs : List Item) → IsFeedAfter s last xs → RisesFrom last xs
IsFeedAfter-rises_from s last [] h = tt
IsFeedAfter-rises_from s last (x ∷ xs) h = (refusal_of-rises s last x h.0, IsFeedAfter-rises_from s x.moment xs h.2)

-- each item is at least one ms past the one before it
length-below_mark : (last : ℕ) (xs : List Item) → RisesFrom last xs → last + length xs ≤ mark_from last xs
length-below_mark last [] h = omega arith
length-below_mark last (x ∷ xs) h = let rest = length-below_mark x.moment xs h.1 in omega (arith, rest, h.0)

pub filter-rises : (p : Item → Bool) (last : ℕ) (xs : List Item) → RisesFrom last xs → RisesFrom last (filter p xs)
filter-rises p last [] h = tt
filter-rises p last (x ∷ xs) h = by_test (filter-rises p x.moment xs h.1) (p x) where
  by_test : RisesFrom x.moment (filter p xs) → (v : Bool) → RisesFrom last (cond v (x ∷ filter p xs) (filter p xs))
  by_test rest true = (h.0, rest)
  by_test rest false = RisesFrom-before last x.moment (filter p xs) (omega (arith, h.0)) rest

mark-later : (a b : ℕ) (xs : List Item) → a ≤ b → RisesFrom b xs → mark_from a xs ≤ mark_from b xs
mark-later a b [] le h = le
mark-later a b (x ∷ xs) le h = omega arith

pub mark-filter : (p : Item → Bool) (last : ℕ) (xs : List Item) → RisesFrom last xs → mark_from last (filter p xs) ≤ mark_from last xs
mark-filter p last [] h = omega arith
mark-filter p last (x ∷ xs) h = by_test (mark-filter p x.moment xs h.1) (filter-rises p x.moment xs h.1) (p x) where
  by_test : mark_from x.moment (filter p xs) ≤ mark_from x.moment xs → RisesFrom x.moment (filter p xs) → (v : Bool) → mark_from last (cond v (x ∷ filter p xs) (filter p xs)) ≤ mark_from x.moment xs
  by_test rest rises true = rest
  by_test rest rises false = let k = mark-later last x.moment (filter p xs) (omega (arith, h.0)) rises in omega (arith, k, rest)

-- ---- old items
-- an item from before the window does not count
slot-old : (x : Item) (xs : List Item) (t : ℕ) → x.moment + LONGEST_AGE < t → slot (x ∷ xs) t ≡ slot xs t
unfolding slot
slot-old x xs t old =
    let b : (nat_le t (x.moment + LONGEST_AGE) && nat_le x.moment t) ≡ false = too_old x.moment t old in rw b refl where
      too_old : (k t : ℕ) → k + LONGEST_AGE < t → (nat_le t (k + LONGEST_AGE) && nat_le k t) ≡ false
      too_old k t h = grind arith

-- where the newest moment is below t + n - 100, the last n items give the slot of all
pub slot-newest : (n t last : ℕ) (xs : List Item) → RisesFrom last xs → mark_from last xs + LONGEST_AGE < t + n → slot (newest n xs) t ≡ slot xs t
slot-newest n t last [] rises near = let e : 0 - n ≡ 0 = omega arith in ap (λ k. slot (drop k []) t) e
slot-newest n t last (x ∷ xs) rises near = by_length (slot-newest n t x.moment xs rises.1 near) (cases_lt (length xs) n) where
  by_length : slot (newest n xs) t ≡ slot xs t → (length xs < n) ⊎ (n ≤ length xs) → slot (newest n (x ∷ xs)) t ≡ slot (x ∷ xs) t
  by_length rest (inl few) = let e : length (x ∷ xs) - n ≡ 0 = omega arith in ap (λ k. slot (drop k (x ∷ xs)) t) e
  by_length rest (inr many) =
      let e : length (x ∷ xs) - n ≡ suc (length xs - n) = omega arith in
      let grows = length-below_mark x.moment xs rises.1 in
      let old : x.moment + LONGEST_AGE < t = omega (arith, grows, near, many) in
      ap (λ k. slot (drop k (x ∷ xs)) t) e ∙ rest ∙ sym (slot-old x xs t old)

-- ---- items without a value
option_or_none : (r : Option ℤ) → option_or r None ≡ r
option_or_none None = refl
option_or_none (Some v) = refl

-- they add nothing to the last value of those that pass a test
latest_value-samples : (p : Item → Bool) (xs : List Item) → latest_value (filter p (samples xs)) ≡ latest_value (filter p xs)
latest_value-samples p [] = refl
latest_value-samples p (x ∷ xs) = by_value (latest_value-samples p xs) x.value refl where
  kept : latest_value (filter p (samples xs)) ≡ latest_value (filter p xs) → (v : Bool) → latest_value (cond v (x ∷ filter p (samples xs)) (filter p (samples xs))) ≡ latest_value (cond v (x ∷ filter p xs) (filter p xs))
  kept rest true = ap (λ (r : Option ℤ). option_or r x.value) rest
  kept rest false = rest

  dropped : latest_value (filter p (samples xs)) ≡ latest_value (filter p xs) → x.value ≡ None → (v : Bool) → latest_value (filter p (samples xs)) ≡ latest_value (cond v (x ∷ filter p xs) (filter p xs))
  dropped rest none true = rest ∙ sym (option_or_none (latest_value (filter p xs))) ∙ ap (λ (o : Option ℤ). option_or (latest_value (filter p xs)) o) (sym none)
  dropped rest none false = rest

  by_value : latest_value (filter p (samples xs)) ≡ latest_value (filter p xs) → (o : Option ℤ) → x.value ≡ o → latest_value (filter p (samples (x ∷ xs))) ≡ latest_value (filter p (x ∷ xs))
  by_value rest None is = ap (λ (o : Option ℤ). latest_value (filter p (cond (is_some o) (x ∷ samples xs) (samples xs)))) is ∙ dropped rest is (p x)
  by_value rest (Some v) is = ap (λ (o : Option ℤ). latest_value (filter p (cond (is_some o) (x ∷ samples xs) (samples xs)))) is ∙ kept rest (p x)

slot-samples : (xs : List Item) (t : ℕ) → slot (samples xs) t ≡ slot xs t
unfolding slot
slot-samples xs t = latest_value-samples (λ y. nat_le t (y.moment + LONGEST_AGE) && nat_le y.moment t) xs

-- a ring of n of the samples of a list gives the slots of the list
pub slot-captured : (n t : ℕ) (xs : List Item) → RisesFrom 0 (samples xs) → mark_of (samples xs) + LONGEST_AGE < t + n → slot (newest n (samples xs)) t ≡ slot xs t
slot-captured n t xs rises near = slot-newest n t 0 (samples xs) rises near ∙ slot-samples xs t

-- ---- a ring that is given one more item
pub samples-push : (xs : List Item) (x : Item) → samples (xs ++ x ∷ []) ≡ samples xs ++ samples (x ∷ [])
samples-push xs x = filter-append (λ y. is_some y.value) xs (x ∷ [])

pub RisesFrom-push : (last : ℕ) (xs : List Item) (x : Item) → RisesFrom last xs → mark_from last xs < x.moment → RisesFrom last (xs ++ x ∷ [])
RisesFrom-push last [] x rises past = (past, tt)
RisesFrom-push last (y ∷ ys) x rises past = (rises.0, RisesFrom-push y.moment ys x rises.1 past)

-- without its first items the list still rises, and what is left has the same mark
pub RisesFrom-drop : (k last : ℕ) (xs : List Item) → RisesFrom last xs → RisesFrom last (drop k xs)
RisesFrom-drop zero last xs rises = rises
RisesFrom-drop (suc k) last [] rises = tt
RisesFrom-drop (suc k) last (x ∷ xs) rises = RisesFrom-drop k last xs (RisesFrom-before last x.moment xs (omega (arith, rises.0)) rises.1)

mark_from-any : (a b : ℕ) (xs : List Item) → 0 < length xs → mark_from a xs ≡ mark_from b xs
mark_from-any a b [] some = absurd (omega arith)
mark_from-any a b (x ∷ xs) some = refl

pub mark_from-drop : (k last : ℕ) (xs : List Item) → k < length xs → mark_from last (drop k xs) ≡ mark_from last xs
mark_from-drop zero last xs left = refl
mark_from-drop (suc k) last [] left = absurd (omega arith)
mark_from-drop (suc k) last (x ∷ xs) left = mark_from-drop k last xs (omega arith) ∙ mark_from-any last x.moment xs (omega arith)

-- a ring with room for an item has the mark of the whole list
pub mark_of-newest : (n : ℕ) (xs : List Item) → 0 < n → mark_of (newest n xs) ≡ mark_of xs
mark_of-newest n [] room = let e : 0 - n ≡ 0 = omega arith in ap (λ k. mark_of (drop k [])) e
mark_of-newest n (x ∷ xs) room = mark_from-drop (length (x ∷ xs) - n) 0 (x ∷ xs) (omega arith)

-- ---- places in a list that rises
RisesFrom-past : (last : ℕ) (xs : List Item) → RisesFrom last xs → (j : ℕ) (d : Item) → j < length xs → last < (slice_index_or xs j d).moment
RisesFrom-past last [] rises j d lt = absurd (omega arith)
RisesFrom-past last (x ∷ xs) rises zero d lt = rises.0
RisesFrom-past last (x ∷ xs) rises (suc j) d lt = let later = RisesFrom-past x.moment xs rises.1 j d (omega arith) in omega (arith, rises.0, later)

RisesFrom-in_order : (last : ℕ) (xs : List Item) → RisesFrom last xs → (i j : ℕ) (d : Item) → i < j → j < length xs → (slice_index_or xs i d).moment < (slice_index_or xs j d).moment
RisesFrom-in_order last [] rises i j d lt in_list = absurd (omega arith)
RisesFrom-in_order last (x ∷ xs) rises i zero d lt in_list = absurd (omega arith)
RisesFrom-in_order last (x ∷ xs) rises zero (suc j) d lt in_list = RisesFrom-past x.moment xs rises.1 j d (omega arith)
RisesFrom-in_order last (x ∷ xs) rises (suc i) (suc j) d lt in_list = RisesFrom-in_order x.moment xs rises.1 i j d (omega arith) (omega arith)

pub RisesFrom-rising : (last : ℕ) (xs : List Item) → RisesFrom last xs → IsRising xs
RisesFrom-rising last xs rises = record { rises = RisesFrom-in_order last xs rises }
