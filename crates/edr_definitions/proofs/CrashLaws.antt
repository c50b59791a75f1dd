-- The crash part that is fed tick by tick is the one of the definition.
use Rattle.std.proofs.Common.{arith, refl, ap, sym, ◌≡◌, ◌≢◌, ◌∙◌, ℕ, zero, suc, ◌+◌, ◌-◌, ◌*◌, ◌/◌, ◌%◌, ◌<◌, ◌≤◌, ◌⊎◌, inl, inr, ℤ, pos, ◌+ℤ◌, Bool, true, false, cond, ◌&&◌, nat_eq, nat_lt, nat_le, Some, None, Option, List, [], ◌∷◌, ◌++◌, map, append_assoc, length, subst}
use Rattle.std.specs.Prelude.{count_by, is_none, option_map, replicate, slice_set, slice_index_or}
use Rattle.std.specs.Option.{option_or}
use Rattle.std.specs.Int.{bit_at}
use Rattle.std.specs.List.{range_with_len}
use Rattle.std.proofs.lemmas.Int.{ints}
use Rattle.std.proofs.lemmas.Bool.{cases_lt}
use Rattle.std.proofs.lemmas.List.Sums.{sum_by-cons}
use Rattle.std.proofs.lemmas.List.FromFn.{map-range_with_len_more, length-map-range_with_len, get_or-map-range_with_len}
use Rattle.std.proofs.Math.Seq.{set-append_seam}
use Rattle.edr_record.specs.Bounds.{most_points, point_count}
use Rattle.edr_definitions.specs.Ticks.{ticks, first_tick, int_sum}
use Rattle.edr_definitions.specs.Signals.{Signals}
use Rattle.edr_definitions.specs.Windows.{change_at, delta_v, size_of_change, squares}
use Rattle.edr_definitions.specs.Selection.{window_of, close_of}
use Rattle.edr_definitions.specs.Search.{tick_if}
use Rattle.edr_definitions.specs.Facts.{IsFirstGreatest}
use Rattle.edr_definitions.specs.Parts.{kmh_of, first_greatest, points, all_points, extreme, missing_count, first_firing, firings, result_at, crash_part}
use Rattle.edr_definitions.specs.OpenCrash.{Peak, ResultPeak, OpenAxis, OpenCrash, edge, points_by, points_to, peak_of, squares_since, result_of, axis_at, crash_at, bit_fires, begin_axis, begin_crash, next_points, higher, higher_result, next_firings, next_axis, next_crash, finish_crash}
use Rattle.edr_definitions.proofs.FactLaws.{nat_le_is}
use Rattle.edr_definitions.proofs.AgreeLaws.{map_agree}
use Rattle.edr_definitions.proofs.TickLaws.{ticks-none, ticks-push}
use Rattle.edr_definitions.proofs.WindowLaws.{delta_v-none}
use Rattle.edr_definitions.proofs.PartLaws.{first_greatest-is}
use Rattle.edr_definitions.proofs.SearchLaws.{first_tick-more, first_tick-one}

-- ---- running sums
int_sum-push : (xs : List ℤ) (x : ℤ) → int_sum (xs ++ x ∷ []) ≡ int_sum xs +ℤ x
int_sum-push [] x = omega (arith, ints)
int_sum-push (y ∷ ys) x = let h = int_sum-push ys x in omega (arith, ints, h)

pub delta_v-push : (axis : ℕ → Option ℤ) (s t : ℕ) → s ≤ t → delta_v axis s (t + 1) ≡ delta_v axis s t +ℤ change_at axis (t + 1)
unfolding delta_v
delta_v-push axis s t h = ap int_sum (ticks-push (s + 1) (t + 1) (omega arith) ℤ (change_at axis)) ∙ int_sum-push (map (change_at axis) (ticks (s + 1) (t + 1))) (change_at axis (t + 1))

-- ---- the first greatest of one tick more
IsFirstGreatest-unique : (f : ℕ → ℕ) (a b t u : ℕ) → IsFirstGreatest f a b t → IsFirstGreatest f a b u → t ≡ u
IsFirstGreatest-unique f a b t u p q =
    let not_before : t < u → ⊥ = λ h. let x = q.first t p.from h in let y = p.greatest u q.from q.below in omega arith in
    let not_after : u < t → ⊥ = λ h. let x = p.first u q.from h in let y = q.greatest t p.from p.below in omega arith in
    omega arith

first_greatest_cases : (f : ℕ → ℕ) (a b g : ℕ) → a < b → IsFirstGreatest f a b g → (v : Bool) → nat_lt (f g) (f b) ≡ v → IsFirstGreatest f a (b + 1) (cond v b g)
first_greatest_cases f a b g some is true here =
    let more : f g < f b = less (f g) (f b) here in
    record {
      from = omega arith;
      below = omega arith;
      greatest = λ u lo hi. at u lo (cases_lt u b) hi more;
      first = λ u lo hi. let x = is.greatest u lo hi in omega arith;
    } where
      less : (x y : ℕ) → nat_lt x y ≡ true → x < y
      less x y h = grind arith

      at : (u : ℕ) → a ≤ u → (u < b) ⊎ (b ≤ u) → u < b + 1 → f g < f b → f u ≤ f b
      at u lo (inl early) hi more = let x = is.greatest u lo early in omega arith
      at u lo (inr last) hi more = let e : u ≡ b = omega arith in let x : f u ≡ f b = ap f e in omega arith
first_greatest_cases f a b g some is false here =
    let from = is.from in let below = is.below in
    record {
      from = omega arith;
      below = omega arith;
      greatest = λ u lo hi. at u lo (cases_lt u b) hi (not_less (f g) (f b) here);
      first = λ u lo hi. is.first u lo hi;
    } where
      not_less : (x y : ℕ) → nat_lt x y ≡ false → y ≤ x
      not_less x y h = grind arith

      at : (u : ℕ) → a ≤ u → (u < b) ⊎ (b ≤ u) → u < b + 1 → f b ≤ f g → f u ≤ f g
      at u lo (inl early) hi less = is.greatest u lo early
      at u lo (inr last) hi less = let e : u ≡ b = omega arith in let x : f u ≡ f b = ap f e in omega arith

pub first_greatest-push : (f : ℕ → ℕ) (a b : ℕ) → a < b → first_greatest f a (b + 1) ≡ cond (nat_lt (f (first_greatest f a b)) (f b)) b (first_greatest f a b)
first_greatest-push f a b some =
    let g = first_greatest f a b in
    let v = nat_lt (f g) (f b) in
    IsFirstGreatest-unique f a (b + 1) (first_greatest f a (b + 1)) (cond v b g) (first_greatest-is f a (b + 1) (omega arith)) (first_greatest_cases f a b g some (first_greatest-is f a b some) v refl)

pub first_greatest-one : (f : ℕ → ℕ) (a : ℕ) → first_greatest f a (a + 1) ≡ a
first_greatest-one f a = let is = first_greatest-is f a (a + 1) (omega arith) in let from = is.from in let below = is.below in omega arith

-- ---- peaks
peak_step : (axis : ℕ → Option ℤ) (z b g : ℕ) (v : Bool) → nat_lt (size_of_change axis z g) (size_of_change axis z b) ≡ v → ◌≡◌ {A = Peak} (record { value = delta_v axis z (cond v b g); at = cond v b g - z }) (cond v (record { value = delta_v axis z b; at = b - z }) (record { value = delta_v axis z g; at = g - z }))
peak_step axis z b g true h = refl
peak_step axis z b g false h = refl

peak_of-push : (axis : ℕ → Option ℤ) (z b : ℕ) → z < b → peak_of axis z (b + 1) ≡ higher (peak_of axis z b) (delta_v axis z b) (b - z)
unfolding peak_of
peak_of-push axis z b some =
    let g = first_greatest (size_of_change axis z) z b in
    let v = nat_lt (size_of_change axis z g) (size_of_change axis z b) in
    ap (λ (t : ℕ). let p : Peak = record { value = delta_v axis z t; at = t - z } in p) (first_greatest-push (size_of_change axis z) z b some)
    ∙ peak_step axis z b g v refl

result_step : (m : Signals) (z b g : ℕ) (v : Bool) → ◌≡◌ {A = ResultPeak} (record { size = squares_since m z (cond v b g); at = cond v b g - z }) (cond v (record { size = squares_since m z b; at = b - z }) (record { size = squares_since m z g; at = g - z }))
result_step m z b g true = refl
result_step m z b g false = refl

result_of-push : (m : Signals) (z b : ℕ) → z < b → result_of m z (b + 1) ≡ higher_result (result_of m z b) (squares_since m z b) (b - z)
unfolding result_of
result_of-push m z b some =
    let g = first_greatest (squares_since m z) z b in
    ap (λ (t : ℕ). let p : ResultPeak = record { size = squares_since m z t; at = t - z } in p) (first_greatest-push (squares_since m z) z b some)
    ∙ result_step m z b g (nat_lt (squares_since m z g) (squares_since m z b))

-- ---- counts
count_push : (p : ℕ → Bool) (n a : ℕ) → count_by p (range_with_len a (n + 1)) ≡ count_by p (range_with_len a n) + cond (p (a + n)) 1 0
count_push p zero a =
    let e : a + 0 ≡ a = omega arith in
    let last : cond {A = ℕ} (p (a + 0)) 1 0 ≡ cond {A = ℕ} (p a) 1 0 = ap (λ k. cond {A = ℕ} (p k) 1 0) e in
    let here : cond {A = ℕ} (p a) 1 0 + 0 ≡ cond (p a) 1 0 = omega arith in
    sum_by-cons (λ u. cond (p u) 1 0) a [] ∙ here ∙ sym last ∙ nothing (cond (p (a + 0)) 1 0) where
      nothing : (k : ℕ) → k ≡ 0 + k
      nothing k = omega arith
count_push p (suc n) a =
    let rest = count_push p n (a + 1) in
    let e : a + 1 + n ≡ a + suc n = omega arith in
    let one_more : suc n + 1 ≡ suc (n + 1) = omega arith in
    let here : count_by p (range_with_len a (suc n + 1)) ≡ cond {A = ℕ} (p a) 1 0 + count_by p (range_with_len (a + 1) (n + 1)) = ap (λ k. count_by p (range_with_len a k)) one_more ∙ sum_by-cons (λ u. cond (p u) 1 0) a (range_with_len (a + 1) (n + 1)) in
    let there : count_by p (range_with_len a (suc n)) ≡ cond {A = ℕ} (p a) 1 0 + count_by p (range_with_len (a + 1) n) = sum_by-cons (λ u. cond (p u) 1 0) a (range_with_len (a + 1) n) in
    let last : cond {A = ℕ} (p (a + 1 + n)) 1 0 ≡ cond {A = ℕ} (p (a + suc n)) 1 0 = ap (λ k. cond {A = ℕ} (p k) 1 0) e in
    omega (arith, rest, here, there, last)

missing-push : (axis : ℕ → Option ℤ) (a b : ℕ) → a ≤ b → missing_count axis a (b + 1) ≡ missing_count axis a b + cond (is_none (axis b)) 1 0
unfolding missing_count
missing-push axis a b h =
    let e : b + 1 - a ≡ b - a + 1 = omega arith in
    let k : a + (b - a) ≡ b = omega arith in
    ap (λ n. count_by (λ t. is_none (axis t)) (range_with_len a n)) e
    ∙ count_push (λ t. is_none (axis t)) (b - a) a
    ∙ ap (λ n. count_by (λ t. is_none (axis t)) (range_with_len a (b - a)) + cond (is_none (axis n)) 1 0) k

missing-none : (axis : ℕ → Option ℤ) (a : ℕ) → missing_count axis a a ≡ 0
unfolding missing_count
missing-none axis a = ap (λ xs. count_by (λ t. is_none (axis t)) xs) (ticks-none a a (omega arith))

-- ---- points
both_true : (a b : Bool) → a ≡ true → b ≡ true → (a && b) ≡ false → ⊥
both_true a b p q h = cc

nat_eq_is : (x y : ℕ) → x ≡ y → nat_eq x y ≡ true
nat_eq_is x y h = grind arith

-- at each tenth tick up to 250 there is one point more, and at no other
pub points_by-more : (d : ℕ) → (nat_eq ((d + 1) % 10) 0 && nat_le (d + 1) 250) ≡ true → (points_by (d + 1) ≡ points_by d + 1) × (points_by d ≡ (d + 1) / 10) × (d + 1 ≤ 250)
points_by-more d h =
    let whole : (d + 1) % 10 ≡ 0 = grind arith in
    let near : d + 1 ≤ 250 = grind arith in
    (omega arith, omega arith, near)

pub points_by-same : (d : ℕ) → (nat_eq ((d + 1) % 10) 0 && nat_le (d + 1) 250) ≡ false → points_by (d + 1) ≡ points_by d
points_by-same d h = elim (cases_lt 250 (d + 1)) [
  | inl far ↦ omega arith
  | inr near ↦
      let part : (d + 1) % 10 ≢ 0 = λ e. both_true (nat_eq ((d + 1) % 10) 0) (nat_le (d + 1) 250) (nat_eq_is ((d + 1) % 10) 0 e) (nat_le_is (d + 1) 250 near) h in
      omega arith
]

pub points_to-next : (axis : ℕ → Option ℤ) (z d : ℕ) → points_to axis z (d + 1) ≡ next_points (points_to axis z d) (delta_v axis z (z + (d + 1))) (d + 1)
unfolding points_to
points_to-next axis z d = by_test (nat_eq ((d + 1) % 10) 0 && nat_le (d + 1) 250) refl where
  -- a list of points with room after it
  padded : ℕ → List ℤ
  padded n = map (λ k. kmh_of (delta_v axis z (z + 10 * k))) (range_with_len 0 n) ++ replicate (most_points - n) (pos 0)

  -- one point more takes the place of the first 0 after them
  one_more : (n : ℕ) (x : ℤ) → n < most_points → kmh_of (delta_v axis z (z + 10 * n)) ≡ x → map (λ k. kmh_of (delta_v axis z (z + 10 * k))) (range_with_len 0 (n + 1)) ++ replicate (most_points - (n + 1)) (pos 0) ≡ slice_set (map (λ k. kmh_of (delta_v axis z (z + 10 * k))) (range_with_len 0 n) ++ replicate (most_points - n) (pos 0)) n x
  one_more n x some is =
      let g = λ (k : ℕ). kmh_of (delta_v axis z (z + 10 * k)) in
      let xs = map g (range_with_len 0 n) in
      let rest = replicate (most_points - (n + 1)) (pos 0) in
      let room : most_points - n ≡ suc (most_points - (n + 1)) = omega arith in
      let count : length xs ≡ n = length-map-range_with_len g 0 n in
      ap (λ ys. ys ++ rest) (map-range_with_len_more g 0 n n (omega arith))
      ∙ append_assoc xs (g n ∷ []) rest
      ∙ ap (λ (v : ℤ). xs ++ v ∷ rest) is
      ∙ sym (set-append_seam xs (pos 0) rest x)
      ∙ ap (λ k. slice_set (xs ++ pos 0 ∷ rest) k x) count
      ∙ ap (λ k. slice_set (xs ++ replicate k (pos 0)) n x) (sym room)

  by_test : (v : Bool) → (nat_eq ((d + 1) % 10) 0 && nat_le (d + 1) 250) ≡ v → map (λ k. kmh_of (delta_v axis z (z + 10 * k))) (range_with_len 0 (points_by (d + 1))) ++ replicate (most_points - points_by (d + 1)) (pos 0) ≡ cond v (slice_set (map (λ k. kmh_of (delta_v axis z (z + 10 * k))) (range_with_len 0 (points_by d)) ++ replicate (most_points - points_by d) (pos 0)) ((d + 1) / 10) (kmh_of (delta_v axis z (z + (d + 1))))) (map (λ k. kmh_of (delta_v axis z (z + 10 * k))) (range_with_len 0 (points_by d)) ++ replicate (most_points - points_by d) (pos 0))
  by_test true h =
      let t = points_by-more d h in
      let more = t.0 in let here = t.1 in let near = t.2 in
      let n = points_by d in
      let last : z + 10 * n ≡ z + (d + 1) = omega arith in
      ap padded more
      ∙ one_more n (kmh_of (delta_v axis z (z + (d + 1)))) (omega arith) (ap (λ k. kmh_of (delta_v axis z k)) last)
      ∙ ap (λ k. slice_set (padded n) k (kmh_of (delta_v axis z (z + (d + 1))))) here
  by_test false h = ap padded (points_by-same d h)

-- ---- first firings
mapped_or : (z x : ℕ) (r : Option ℕ) (v : Bool) → option_map (λ t. t - z) (option_or r (tick_if v x)) ≡ option_or (option_map (λ t. t - z) r) (tick_if v (x - z))
mapped_or z x None true = refl
mapped_or z x None false = refl
mapped_or z x (Some u) v = refl

first_firing-push : (m : Signals) (z t bit : ℕ) → z ≤ t → first_firing m z (t + 1 + 1) bit ≡ option_or (first_firing m z (t + 1) bit) (tick_if (bit_fires (m.fired (t + 1)) bit) (t + 1 - z))
unfolding first_firing
first_firing-push m z t bit h =
    let p = λ (u : ℕ). nat_eq (bit_at (m.fired u) bit) 1 in
    let r = first_tick p z (t + 1) in
    ap (λ (o : Option ℕ). option_map (λ u. u - z) o) (sym (first_tick-more p z t (omega arith) r refl (p (t + 1)) refl))
    ∙ mapped_or z (t + 1) r (p (t + 1))

firings-push : (m : Signals) (z t : ℕ) → z ≤ t → firings m z (t + 1 + 1) ≡ next_firings (firings m z (t + 1)) (m.fired (t + 1)) (t + 1 - z)
unfolding firings
firings-push m z t h =
    let before = first_firing m z (t + 1) in
    let fires = λ (bit : ℕ). tick_if (bit_fires (m.fired (t + 1)) bit) (t + 1 - z) in
    map_agree (first_firing m z (t + 1 + 1)) (λ bit. option_or (slice_index_or (map before (range_with_len 0 8)) bit None) (fires bit)) 8 0
    (λ bit lo hi. first_firing-push m z t bit h ∙ ap (λ (o : Option ℕ). option_or o (fires bit)) (sym (get_or-map-range_with_len before 0 8 bit bit None (omega arith) (omega arith))))

-- ---- up to 300 ms past time zero
windowed : {X : Type 0} (g : ℕ → X) (x : X) (z t : ℕ) → z ≤ t → g (t + 1 + 1) ≡ x → (v : Bool) → nat_le (t + 1 - z) 300 ≡ v → g (edge z (t + 1)) ≡ cond v x (g (edge z t))
windowed g x z t h more true is =
    let near : t + 1 - z ≤ 300 = at_most (t + 1 - z) 300 is in
    let e : edge z (t + 1) ≡ t + 1 + 1 = omega arith in
    ap g e ∙ more where
      at_most : (a b : ℕ) → nat_le a b ≡ true → a ≤ b
      at_most a b h = grind arith
windowed g x z t h more false is =
    let far : 300 < t + 1 - z = over (t + 1 - z) 300 is in
    let e : edge z (t + 1) ≡ edge z t = omega arith in
    ap g e where
      over : (a b : ℕ) → nat_le a b ≡ false → b < a
      over a b h = grind arith

-- within the window the edge is the next tick
windowed_from : {X : Type 0} (g : ℕ → X) (step : X → X) (z t : ℕ) → z ≤ t → g (t + 1 + 1) ≡ step (g (t + 1)) → g (edge z (t + 1)) ≡ cond (nat_le (t + 1 - z) 300) (step (g (edge z t))) (g (edge z t))
windowed_from g step z t h more = by_test (nat_le (t + 1 - z) 300) refl where
  by_test : (v : Bool) → nat_le (t + 1 - z) 300 ≡ v → g (edge z (t + 1)) ≡ cond v (step (g (edge z t))) (g (edge z t))
  by_test true is =
      let near : t + 1 - z ≤ 300 = at_most (t + 1 - z) 300 is in
      let e : edge z t ≡ t + 1 = omega arith in
      windowed g (step (g (t + 1))) z t h more true is ∙ ap (λ k. step (g k)) (sym e) where
        at_most : (a b : ℕ) → nat_le a b ≡ true → a ≤ b
        at_most a b h = grind arith
  by_test false is = windowed g (step (g (t + 1))) z t h more false is

-- ---- all of it
axis_is : (s s' : ℤ) (ps ps' : List ℤ) (k k' : Peak) (n n' : ℕ) → s ≡ s' → ps ≡ ps' → k ≡ k' → n ≡ n' → ◌≡◌ {A = OpenAxis} (record { sum = s; points = ps; peak = k; missing = n }) (record { sum = s'; points = ps'; peak = k'; missing = n' })
axis_is s s' ps ps' k k' n n' e1 e2 e3 e4 = rw (e1, e2, e3, e4) refl

crash_is : (z d d' : ℕ) (x x' y y' : OpenAxis) (r r' : ResultPeak) (fs fs' : List (Option ℕ)) → d ≡ d' → x ≡ x' → y ≡ y' → r ≡ r' → fs ≡ fs' → ◌≡◌ {A = OpenCrash} (record { zero = z; elapsed = d; along = x; across = y; result = r; fired = fs }) (record { zero = z; elapsed = d'; along = x'; across = y'; result = r'; fired = fs' })
crash_is z d d' x x' y y' r r' fs fs' e1 e2 e3 e4 e5 = rw (e1, e2, e3, e4, e5) refl

points_at : (axis : ℕ → Option ℤ) (z t : ℕ) → z ≤ t → points_to axis z (t + 1 - z) ≡ next_points (points_to axis z (t - z)) (delta_v axis z t +ℤ change_at axis (t + 1)) (t + 1 - z)
points_at axis z t h =
    let d : t + 1 - z ≡ t - z + 1 = omega arith in
    let last : z + (t - z + 1) ≡ t + 1 = omega arith in
    ap (points_to axis z) d ∙ points_to-next axis z (t - z)
    ∙ ap (λ k. next_points (points_to axis z (t - z)) (delta_v axis z k) (t - z + 1)) last
    ∙ ap (λ x. next_points (points_to axis z (t - z)) x (t - z + 1)) (delta_v-push axis z t h)
    ∙ ap (λ k. next_points (points_to axis z (t - z)) (delta_v axis z t +ℤ change_at axis (t + 1)) k) (sym d)

peak_at : (axis : ℕ → Option ℤ) (z t : ℕ) → z ≤ t → peak_of axis z (edge z (t + 1)) ≡ cond (nat_le (t + 1 - z) 300) (higher (peak_of axis z (edge z t)) (delta_v axis z t +ℤ change_at axis (t + 1)) (t + 1 - z)) (peak_of axis z (edge z t))
peak_at axis z t h =
    windowed_from (peak_of axis z) (λ p. higher p (delta_v axis z t +ℤ change_at axis (t + 1)) (t + 1 - z)) z t h
    (peak_of-push axis z (t + 1) (omega arith) ∙ ap (λ x. higher (peak_of axis z (t + 1)) x (t + 1 - z)) (delta_v-push axis z t h))

result_at-next : (m : Signals) (z t : ℕ) → z ≤ t → result_of m z (edge z (t + 1)) ≡ cond (nat_le (t + 1 - z) 300) (higher_result (result_of m z (edge z t)) (squares (delta_v m.along z t +ℤ change_at m.along (t + 1)) (delta_v m.across z t +ℤ change_at m.across (t + 1))) (t + 1 - z)) (result_of m z (edge z t))
result_at-next m z t h =
    windowed_from (result_of m z) (λ p. higher_result p (squares (delta_v m.along z t +ℤ change_at m.along (t + 1)) (delta_v m.across z t +ℤ change_at m.across (t + 1))) (t + 1 - z)) z t h
    (result_of-push m z (t + 1) (omega arith)
    ∙ ap (λ x. higher_result (result_of m z (t + 1)) (squares x (delta_v m.across z (t + 1))) (t + 1 - z)) (delta_v-push m.along z t h)
    ∙ ap (λ y. higher_result (result_of m z (t + 1)) (squares (delta_v m.along z t +ℤ change_at m.along (t + 1)) y) (t + 1 - z)) (delta_v-push m.across z t h))

missing_at : (axis : ℕ → Option ℤ) (z t : ℕ) → z ≤ t → missing_count axis (z + 1) (edge z (t + 1)) ≡ cond (nat_le (t + 1 - z) 300) (missing_count axis (z + 1) (edge z t) + cond (is_none (axis (t + 1))) 1 0) (missing_count axis (z + 1) (edge z t))
missing_at axis z t h = windowed_from (missing_count axis (z + 1)) (λ k. k + cond (is_none (axis (t + 1))) 1 0) z t h (missing-push axis (z + 1) (t + 1) (omega arith))

-- one axis with one tick more
axis_at-next : (axis : ℕ → Option ℤ) (z t : ℕ) → z ≤ t → next_axis (axis_at axis z t) (axis (t + 1)) (t + 1 - z) ≡ axis_at axis z (t + 1)
axis_at-next axis z t h =
    let x = delta_v axis z t +ℤ change_at axis (t + 1) in
    let d = t + 1 - z in
    let v = nat_le d 300 in
    sym (axis_is (delta_v axis z (t + 1)) x (points_to axis z d) (next_points (points_to axis z (t - z)) x d)
    (peak_of axis z (edge z (t + 1))) (cond v (higher (peak_of axis z (edge z t)) x d) (peak_of axis z (edge z t)))
    (missing_count axis (z + 1) (edge z (t + 1))) (cond v (missing_count axis (z + 1) (edge z t) + cond (is_none (axis (t + 1))) 1 0) (missing_count axis (z + 1) (edge z t)))
    (delta_v-push axis z t h) (points_at axis z t h) (peak_at axis z t h) (missing_at axis z t h))

-- one tick more
pub crash_at-next : (m : Signals) (z t : ℕ) → z ≤ t → next_crash (crash_at m z t) (m.along (t + 1)) (m.across (t + 1)) (m.fired (t + 1)) ≡ crash_at m z (t + 1)
crash_at-next m z t h =
    let d = t + 1 - z in
    let past : t - z + 1 ≡ d = omega arith in
    let x = next_axis (axis_at m.along z t) (m.along (t + 1)) d in
    let y = next_axis (axis_at m.across z t) (m.across (t + 1)) d in
    rw past (crash_is z d d x (axis_at m.along z (t + 1)) y (axis_at m.across z (t + 1))
    (cond (nat_le d 300) (higher_result (result_of m z (edge z t)) (squares x.sum y.sum) d) (result_of m z (edge z t))) (result_of m z (edge z (t + 1)))
    (next_firings (firings m z (t + 1)) (m.fired (t + 1)) d) (firings m z (t + 1 + 1))
    refl (axis_at-next m.along z t h) (axis_at-next m.across z t h) (sym (result_at-next m z t h)) (sym (firings-push m z t h)))

-- ---- time zero
firing_zero : (z : ℕ) (v : Bool) → option_map (λ t. t - z) (tick_if v z) ≡ tick_if v 0
firing_zero z true = let e : z - z ≡ 0 = omega arith in ap Some e
firing_zero z false = refl

first_firing-zero : (m : Signals) (z bit : ℕ) → tick_if (bit_fires (m.fired z) bit) 0 ≡ first_firing m z (z + 1) bit
unfolding first_firing
first_firing-zero m z bit =
    let p = λ (u : ℕ). nat_eq (bit_at (m.fired u) bit) 1 in
    sym (firing_zero z (p z)) ∙ ap (λ (o : Option ℕ). option_map (λ u. u - z) o) (first_tick-one p z (p z) refl)

map_each : (f g : ℕ → Option ℕ) → ((k : ℕ) → f k ≡ g k) → (ks : List ℕ) → map f ks ≡ map g ks
map_each f g each [] = refl
map_each f g each (k ∷ ks) = ap (λ (o : Option ℕ). o ∷ map f ks) (each k) ∙ ap (λ os. g k ∷ os) (map_each f g each ks)

firings-zero : (m : Signals) (z : ℕ) → map (λ bit. tick_if (bit_fires (m.fired z) bit) 0) (range_with_len 0 8) ≡ firings m z (z + 1)
unfolding firings
firings-zero m z = map_each (λ bit. tick_if (bit_fires (m.fired z) bit) 0) (first_firing m z (z + 1)) (λ bit. first_firing-zero m z bit) (range_with_len 0 8)

points-zero : (axis : ℕ → Option ℤ) (z : ℕ) → replicate most_points (pos 0) ≡ points_to axis z (z - z)
unfolding points_to
points-zero axis z =
    let d : 0 ≡ z - z = omega arith in
    let first : z + 10 * 0 ≡ z = omega arith in
    let none : delta_v axis z (z + 10 * 0) ≡ pos 0 = ap (delta_v axis z) first ∙ delta_v-none axis z z (omega arith) in
    let one : pos 0 ≡ kmh_of (delta_v axis z (z + 10 * 0)) = ap kmh_of (sym none) in
    ap (λ (x : ℤ). x ∷ replicate 25 (pos 0)) one ∙ ap (λ k. map (λ i. kmh_of (delta_v axis z (z + 10 * i))) (range_with_len 0 (points_by k)) ++ replicate (most_points - points_by k) (pos 0)) d

peak-zero : (axis : ℕ → Option ℤ) (z : ℕ) → record { value = pos 0; at = 0 } ≡ peak_of axis z (edge z z)
unfolding peak_of
peak-zero axis z =
    let e : edge z z ≡ z + 1 = omega arith in
    let g : first_greatest (size_of_change axis z) z (edge z z) ≡ z = ap (first_greatest (size_of_change axis z) z) e ∙ first_greatest-one (size_of_change axis z) z in
    let d : 0 ≡ z - z = omega arith in
    ap (λ (x : ℤ). let p : Peak = record { value = x; at = 0 } in p) (sym (delta_v-none axis z z (omega arith)))
    ∙ ap (λ (k : ℕ). let p : Peak = record { value = delta_v axis z z; at = k } in p) d
    ∙ ap (λ (t : ℕ). let p : Peak = record { value = delta_v axis z t; at = t - z } in p) (sym g)

result-zero : (m : Signals) (z : ℕ) → record { size = 0; at = 0 } ≡ result_of m z (edge z z)
unfolding result_of
result-zero m z =
    let e : edge z z ≡ z + 1 = omega arith in
    let g : first_greatest (squares_since m z) z (edge z z) ≡ z = ap (first_greatest (squares_since m z) z) e ∙ first_greatest-one (squares_since m z) z in
    let d : 0 ≡ z - z = omega arith in
    let none : squares_since m z z ≡ 0 = ap (λ x. squares x (delta_v m.across z z)) (delta_v-none m.along z z (omega arith)) ∙ ap (λ y. squares (pos 0) y) (delta_v-none m.across z z (omega arith)) in
    ap (λ (x : ℕ). let p : ResultPeak = record { size = x; at = 0 } in p) (sym none)
    ∙ ap (λ (k : ℕ). let p : ResultPeak = record { size = squares_since m z z; at = k } in p) d
    ∙ ap (λ (t : ℕ). let p : ResultPeak = record { size = squares_since m z t; at = t - z } in p) (sym g)

missing-zero : (axis : ℕ → Option ℤ) (z : ℕ) → 0 ≡ missing_count axis (z + 1) (edge z z)
missing-zero axis z = let e : edge z z ≡ z + 1 = omega arith in sym (ap (missing_count axis (z + 1)) e ∙ missing-none axis (z + 1))

axis_at-zero : (axis : ℕ → Option ℤ) (z : ℕ) → begin_axis ≡ axis_at axis z z
axis_at-zero axis z =
    axis_is (pos 0) (delta_v axis z z) (replicate most_points (pos 0)) (points_to axis z (z - z)) (record { value = pos 0; at = 0 }) (peak_of axis z (edge z z)) 0 (missing_count axis (z + 1) (edge z z))
    (sym (delta_v-none axis z z (omega arith))) (points-zero axis z) (peak-zero axis z) (missing-zero axis z)

-- at time zero
pub crash_at-zero : (m : Signals) (z : ℕ) → begin_crash z (m.fired z) ≡ crash_at m z z
crash_at-zero m z =
    crash_is z 0 (z - z) begin_axis (axis_at m.along z z) begin_axis (axis_at m.across z z) (record { size = 0; at = 0 }) (result_of m z (edge z z))
    (map (λ bit. tick_if (bit_fires (m.fired z) bit) 0) (range_with_len 0 8)) (firings m z (z + 1))
    (omega arith) (axis_at-zero m.along z) (axis_at-zero m.across z) (result-zero m z) (firings-zero m z)

-- ---- signals that agree
crash_at-agree_from : (m n : Signals) (z d : ℕ) → ((u : ℕ) → z ≤ u → u ≤ z + d → m.fired u ≡ n.fired u) → ((u : ℕ) → z < u → u ≤ z + d → m.along u ≡ n.along u) → ((u : ℕ) → z < u → u ≤ z + d → m.across u ≡ n.across u) → crash_at m z (z + d) ≡ crash_at n z (z + d)
crash_at-agree_from m n z zero fired along across =
    let e : z ≡ z + 0 = omega arith in
    let at_zero : crash_at m z z ≡ crash_at n z z = sym (crash_at-zero m z) ∙ ap (begin_crash z) (fired z (omega arith) (omega arith)) ∙ crash_at-zero n z in
    subst (λ t. crash_at m z t ≡ crash_at n z t) e at_zero
crash_at-agree_from m n z (suc d) fired along across =
    let t = z + d in
    let e : t + 1 ≡ z + suc d = omega arith in
    let before : crash_at m z t ≡ crash_at n z t = crash_at-agree_from m n z d (λ u lo hi. fired u lo (omega arith)) (λ u lo hi. along u lo (omega arith)) (λ u lo hi. across u lo (omega arith)) in
    let step : crash_at m z (t + 1) ≡ crash_at n z (t + 1) =
    sym (crash_at-next m z t (omega arith))
    ∙ ap (λ (p : OpenCrash). next_crash p (m.along (t + 1)) (m.across (t + 1)) (m.fired (t + 1))) before
    ∙ ap (λ (x : Option ℤ). next_crash (crash_at n z t) x (m.across (t + 1)) (m.fired (t + 1))) (along (t + 1) (omega arith) (omega arith))
    ∙ ap (λ (y : Option ℤ). next_crash (crash_at n z t) (n.along (t + 1)) y (m.fired (t + 1))) (across (t + 1) (omega arith) (omega arith))
    ∙ ap (λ (k : ℕ). next_crash (crash_at n z t) (n.along (t + 1)) (n.across (t + 1)) k) (fired (t + 1) (omega arith) (omega arith))
    ∙ crash_at-next n z t (omega arith) in
    subst (λ u. crash_at m z u ≡ crash_at n z u) e step

-- an open crash part depends on no sample of time zero or before it, and on none after its tick
pub crash_at-agree : (m n : Signals) (z t : ℕ) → z ≤ t → ((u : ℕ) → z ≤ u → u ≤ t → m.fired u ≡ n.fired u) → ((u : ℕ) → z < u → u ≤ t → m.along u ≡ n.along u) → ((u : ℕ) → z < u → u ≤ t → m.across u ≡ n.across u) → crash_at m z t ≡ crash_at n z t
crash_at-agree m n z t h fired along across =
    let e : z + (t - z) ≡ t = omega arith in
    subst (λ u. crash_at m z u ≡ crash_at n z u) e
    (crash_at-agree_from m n z (t - z) (λ u lo hi. fired u lo (omega arith)) (λ u lo hi. along u lo (omega arith)) (λ u lo hi. across u lo (omega arith)))

-- ---- the close
extreme-is : (axis : ℕ → Option ℤ) (z b : ℕ) → extreme axis z b ≡ record { kmh = kmh_of (peak_of axis z b).value; at = (peak_of axis z b).at }
unfolding extreme peak_of
extreme-is axis z b = refl

result-is : (m : Signals) (z b : ℕ) → result_at m z b ≡ (result_of m z b).at
unfolding result_at result_of
result-is m z b = refl

points-is : (axis : ℕ → Option ℤ) (z e : ℕ) → z ≤ e → all_points axis z e ≡ points_to axis z (close_of z e - z)
unfolding points points_to
points-is axis z e order =
    let same : point_count (e - z) ≡ points_by (close_of z e - z) = omega arith in
    ap (λ k. map (λ i. kmh_of (delta_v axis z (z + 10 * i))) (range_with_len 0 k) ++ replicate (most_points - k) (pos 0)) same

-- at the close that the end gives
pub crash_at-finish : (m : Signals) (z e : ℕ) → z ≤ e → finish_crash (crash_at m z (close_of z e)) e ≡ crash_part m z e
unfolding crash_part
crash_at-finish m z e order =
    let past = z + window_of z e + 1 in
    let k : edge z (close_of z e) ≡ past = omega arith in
    let along = sym (points-is m.along z e order) in
    let across = sym (points-is m.across z e order) in
    let max_along = sym (extreme-is m.along z past) in
    let max_across = sym (extreme-is m.across z past) in
    let result = sym (result-is m z past) in
    rw (k, along, across, max_along, max_across, result) refl
