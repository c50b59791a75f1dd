-- A slot is the value of the latest sample.
use Rattle.std.proofs.Common.{arith, refl, ap, sym, subst, ◌≡◌, ◌∙◌, ℕ, zero, suc, ◌+◌, ◌<◌, ◌≤◌, ◌⊎◌, inl, inr, Bool, true, false, cond, ◌&&◌, nat_le, ℤ, Some, None, Option, List, [], ◌∷◌, length, filter, get_or}
use Rattle.std.specs.Prelude.{Contains}
use Rattle.std.specs.Option.{option_or}
use Rattle.edr_definitions.specs.declared.limits.TheConstants.{LONGEST_AGE}
use Rattle.edr_items.specs.declared.Sensor.{Sensor}
use Rattle.edr_items.specs.declared.Item.{Item}
use Rattle.edr_items.specs.Item.{IsRising, IsFeedAfter, IsFeed}
use Rattle.edr_items.proofs.FeedLemmas.{refusal_of-rises}
use Rattle.edr_definitions.specs.Parts.{latest_value, slot}
use Rattle.edr_definitions.specs.Facts.{IsRecent, IsLatestSample, HasNoSample}
use Rattle.edr_definitions.proofs.TickLaws.{not_both}
use Rattle.edr_definitions.proofs.SumLaws.{IsRising-tail}

-- ---- items of a list
contained : (x y : Item) (xs : List Item) (k : ℕ) → k < length (x ∷ xs) → get_or (x ∷ xs) k y ≡ y → (x ≡ y) ⊎ Contains xs y
contained x y xs zero lt e = inl e
contained x y xs (suc k) lt e = inr (k, omega (arith, lt), e)

-- it is the first, or one of the others
Contains-cases : (x y : Item) (xs : List Item) → Contains (x ∷ xs) y → (x ≡ y) ⊎ Contains xs y
Contains-cases x y xs h = contained x y xs h.0 h.1 h.2

Contains-later : (x y : Item) (xs : List Item) → Contains xs y → Contains (x ∷ xs) y
Contains-later x y xs h = (suc h.0, let lt = h.1 in omega (arith, lt), h.2)

Contains-first : (x : Item) (xs : List Item) → Contains (x ∷ xs) x
Contains-first x xs = (0, omega arith, refl)

-- in a list that rises the first item is earlier than the others
first_earlier : (x y : Item) (xs : List Item) → IsRising (x ∷ xs) → Contains xs y → x.moment < y.moment
first_earlier x y xs rising h =
    let lt = h.1 in
    let e : get_or xs h.0 y ≡ y = h.2 in
    subst (λ (z : Item). x.moment < z.moment) e (rising.rises 0 (suc h.0) y (omega arith) (omega (arith, lt)))

-- two items of one moment are one
same_moment : (x y : Item) (xs : List Item) → IsRising xs → Contains xs x → Contains xs y → x.moment ≡ y.moment → x ≡ y
same_moment x y [] rising p q e = absurd (let lt = p.1 in omega (arith, lt))
same_moment x y (z ∷ zs) rising p q e = by_place (same_moment x y zs (IsRising-tail z zs rising)) (Contains-cases z x zs p) (Contains-cases z y zs q) where
  by_place : (Contains zs x → Contains zs y → x.moment ≡ y.moment → x ≡ y) → (z ≡ x) ⊎ Contains zs x → (z ≡ y) ⊎ Contains zs y → x ≡ y
  by_place later (inl a) (inl b) = sym a ∙ b
  by_place later (inr a) (inr b) = later a b e
  by_place later (inl a) (inr b) = let lt = first_earlier z y zs rising b in let f : z.moment ≡ x.moment = ap (λ (w : Item). w.moment) a in absurd (omega (arith, lt, f, e))
  by_place later (inr a) (inl b) = let lt = first_earlier z x zs rising a in let f : z.moment ≡ y.moment = ap (λ (w : Item). w.moment) b in absurd (omega (arith, lt, f, e))

-- ---- the last value of those that pass a test
neither : (o q : Option ℤ) → option_or o q ≡ None → (o ≡ None) × (q ≡ None)
neither None q h = (refl, h)
neither (Some v) q h = cc

latest_value-none : (p : Item → Bool) (xs : List Item) → latest_value (filter p xs) ≡ None → (y : Item) → Contains xs y → p y ≡ true → y.value ≡ None
latest_value-none p [] h y inside passes = absurd (let lt = inside.1 in omega (arith, lt))
latest_value-none p (x ∷ xs) h y inside passes = by_test (latest_value-none p xs) (p x) refl h (Contains-cases x y xs inside) where
  by_test : (latest_value (filter p xs) ≡ None → (y : Item) → Contains xs y → p y ≡ true → y.value ≡ None) → (b : Bool) → p x ≡ b → latest_value (cond b (x ∷ filter p xs) (filter p xs)) ≡ None → (x ≡ y) ⊎ Contains xs y → y.value ≡ None
  by_test rest true e h (inl same) = subst (λ (z : Item). z.value ≡ None) same (neither (latest_value (filter p xs)) x.value h).1
  by_test rest true e h (inr later) = rest (neither (latest_value (filter p xs)) x.value h).0 y later passes
  by_test rest false e h (inl same) = absurd (not_both (p x) e (subst (λ (z : Item). p z ≡ true) (sym same) passes))
  by_test rest false e h (inr later) = rest h y later passes

no_value : (o : Option ℤ) (w : ℤ) → o ≡ None → o ≡ Some w → ⊥
no_value o w f g = cc

-- v is the value of an item that passes the test, and no later item with a value does
record IsLatest (p : Item → Bool) (xs : List Item) (v : ℤ) : Type 0 where
  item : Item
  in_list : Contains xs item
  passes : p item ≡ true
  value_is : item.value ≡ Some v
  latest : (other : Item) (w : ℤ) → Contains xs other → p other ≡ true → other.value ≡ Some w → other.moment ≤ item.moment

latest_value-some : (p : Item → Bool) (xs : List Item) (v : ℤ) → IsRising xs → latest_value (filter p xs) ≡ Some v → IsLatest p xs v
latest_value-some p [] v rising h = cc
latest_value-some p (x ∷ xs) v rising h = by_test (latest_value-some p xs v (IsRising-tail x xs rising)) (p x) refl h where
  -- the latest of the others is later than the first item
  of_others : IsLatest p xs v → IsLatest p (x ∷ xs) v
  of_others is = record {
    item = is.item;
    in_list = Contains-later x is.item xs is.in_list;
    passes = is.passes;
    value_is = is.value_is;
    latest = λ other w inside passes value. elim (Contains-cases x other xs inside) [
      | inl same ↦ let lt = first_earlier x is.item xs rising is.in_list in let f : x.moment ≡ other.moment = ap (λ (z : Item). z.moment) same in omega (arith, lt, f)
      | inr later ↦ is.latest other w later passes value
    ];
  }

  of_first : p x ≡ true → latest_value (filter p xs) ≡ None → x.value ≡ Some v → IsLatest p (x ∷ xs) v
  of_first passes none value = record {
    item = x;
    in_list = Contains-first x xs;
    passes = passes;
    value_is = value;
    latest = λ other w inside others value. elim (Contains-cases x other xs inside) [
      | inl same ↦ let f : x.moment ≡ other.moment = ap (λ (z : Item). z.moment) same in omega (arith, f)
      | inr later ↦ let no = latest_value-none p xs none other later others in absurd (no_value other.value w no value)
    ];
  }

  by_rest : (o : Option ℤ) → p x ≡ true → latest_value (filter p xs) ≡ o → (latest_value (filter p xs) ≡ Some v → IsLatest p xs v) → option_or o x.value ≡ Some v → IsLatest p (x ∷ xs) v
  by_rest None e none rest h = of_first e none h
  by_rest (Some u) e some rest h = of_others (rest (some ∙ h))

  by_test : (latest_value (filter p xs) ≡ Some v → IsLatest p xs v) → (b : Bool) → p x ≡ b → latest_value (cond b (x ∷ filter p xs) (filter p xs)) ≡ Some v → IsLatest p (x ∷ xs) v
  by_test rest true e h = by_rest (latest_value (filter p xs)) e refl rest h
  by_test rest false e h = of_others (rest h)

-- ---- the slot
recent_is : (t : ℕ) (x : Item) → IsRecent t x → (nat_le t (x.moment + LONGEST_AGE) && nat_le x.moment t) ≡ true
recent_is t x h = let a = h.0 in let b = h.1 in grind (arith, a, b)

recent_means : (t : ℕ) (x : Item) → (nat_le t (x.moment + LONGEST_AGE) && nat_le x.moment t) ≡ true → IsRecent t x
recent_means t x h = (grind (arith, h), grind (arith, h))

pub slot-is_latest : (xs : List Item) (t : ℕ) (v : ℤ) → IsRising xs → slot xs t ≡ Some v → IsLatestSample xs t v
unfolding slot
slot-is_latest xs t v rising h =
    let is = latest_value-some (λ x. nat_le t (x.moment + LONGEST_AGE) && nat_le x.moment t) xs v rising h in
    record {
      item = is.item;
      in_list = is.in_list;
      recent = recent_means t is.item is.passes;
      value_is = is.value_is;
      latest = λ other w inside recent value. is.latest other w inside (recent_is t other recent) value;
    }

pub slot-has_none : (xs : List Item) (t : ℕ) → slot xs t ≡ None → HasNoSample xs t
unfolding slot
slot-has_none xs t h = record { none = λ x inside recent. latest_value-none (λ x. nat_le t (x.moment + LONGEST_AGE) && nat_le x.moment t) xs h x inside (recent_is t x recent) }

-- there is one latest sample
latest_unique : (xs : List Item) (t : ℕ) (v w : ℤ) → IsRising xs → IsLatestSample xs t v → IsLatestSample xs t w → v ≡ w
latest_unique xs t v w rising p q =
    let a = p.latest q.item w q.in_list q.recent q.value_is in
    let b = q.latest p.item v p.in_list p.recent p.value_is in
    let one : p.item ≡ q.item = same_moment p.item q.item xs rising p.in_list q.in_list (omega (arith, a, b)) in
    one_value p.item.value q.item.value v w (ap (λ (x : Item). x.value) one) p.value_is q.value_is where
      one_value : (o r : Option ℤ) (v w : ℤ) → o ≡ r → o ≡ Some v → r ≡ Some w → v ≡ w
      one_value o r v w e f g = cc

pub latest-is_slot : (xs : List Item) (t : ℕ) (v : ℤ) → IsRising xs → IsLatestSample xs t v → slot xs t ≡ Some v
latest-is_slot xs t v rising is = by_slot (slot xs t) refl where
  by_slot : (r : Option ℤ) → slot xs t ≡ r → r ≡ Some v
  by_slot None e = absurd (no_value is.item.value v ((slot-has_none xs t e).none is.item is.in_list is.recent) is.value_is)
  by_slot (Some w) e = ap (λ (u : ℤ). Some u) (latest_unique xs t w v rising (slot-is_latest xs t w rising e) is)

latest_absent : (xs : List Item) → ((x : Item) → Contains xs x → x.value ≡ None) → latest_value xs ≡ None
latest_absent [] none = refl
latest_absent (x ∷ xs) none = nothing (latest_value xs) x.value (latest_absent xs (λ y inside. none y (Contains-later x y xs inside))) (none x (Contains-first x xs)) where
  nothing : (o q : Option ℤ) → o ≡ None → q ≡ None → option_or o q ≡ None
  nothing None q e f = f
  nothing (Some v) q e f = cc

filter_passes : (p : Item → Bool) (xs : List Item) (y : Item) → Contains (filter p xs) y → Contains xs y × (p y ≡ true)
filter_passes p [] y h = absurd (let lt = h.1 in omega (arith, lt))
filter_passes p (x ∷ xs) y h = by_test (filter_passes p xs y) (p x) refl h where
  by_test : (Contains (filter p xs) y → Contains xs y × (p y ≡ true)) → (b : Bool) → p x ≡ b → Contains (cond b (x ∷ filter p xs) (filter p xs)) y → Contains (x ∷ xs) y × (p y ≡ true)
  by_test rest true e h = elim (Contains-cases x y (filter p xs) h) [
    | inl same ↦ (subst (λ (z : Item). Contains (x ∷ xs) z) same (Contains-first x xs), subst (λ (z : Item). p z ≡ true) same e)
    | inr later ↦ let found = rest later in (Contains-later x y xs found.0, found.1)
  ]
  by_test rest false e h = let found = rest h in (Contains-later x y xs found.0, found.1)

pub none-is_slot : (xs : List Item) (t : ℕ) → HasNoSample xs t → slot xs t ≡ None
unfolding slot
none-is_slot xs t is =
    latest_absent (filter (λ x. nat_le t (x.moment + LONGEST_AGE) && nat_le x.moment t) xs)
    (λ y inside. let found = filter_passes (λ x. nat_le t (x.moment + LONGEST_AGE) && nat_le x.moment t) xs y inside in is.none y found.0 (recent_means t y found.1))

-- each item of a feed is past the moment before it
feed_past : (s : Sensor) (last : ℕ) (xs : List Item) → IsFeedAfter s last xs → (x : Item) → Contains xs x → last < x.moment
feed_past s last [] feed x inside = absurd (let lt = inside.1 in omega (arith, lt))
feed_past s last (y ∷ ys) feed x inside = by_place (feed_past s y.moment ys feed.2 x) (Contains-cases y x ys inside) where
  past : last < y.moment
  past = refusal_of-rises s last y feed.0

  by_place : (Contains ys x → y.moment < x.moment) → (y ≡ x) ⊎ Contains ys x → last < x.moment
  by_place rest (inl same) = subst (λ (z : Item). last < z.moment) same past
  by_place rest (inr later) = let h = rest later in let p = past in omega (arith, h, p)

-- a feed has no slot before its cycle
pub slot-before : (s : Sensor) (xs : List Item) → IsFeed s xs → slot xs 0 ≡ None
slot-before s xs feed = none-is_slot xs 0 (record { none = λ x inside recent. absurd (let past = feed_past s 0 xs feed x inside in let near = recent.1 in omega (arith, past, near)) })
