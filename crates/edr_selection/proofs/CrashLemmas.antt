-- The values of a crash part, as loops over whole windows find them.
use Rattle.std.proofs.Common.{arith, refl, ap, sym, subst, ◌≡◌, ◌≢◌, ◌∙◌, ℕ, ◌+◌, ◌-◌, ◌*◌, ◌<◌, ◌≤◌, ◌⊎◌, inl, inr, cond, ℤ, pos, ◌+ℤ◌, Option, List, ◌++◌, length, get_or, map, unsigned_abs}
use Rattle.std.specs.Prelude.{All, replicate, is_none, count_by, set}
use Rattle.std.specs.List.{range_with_len}
use Rattle.std.proofs.lemmas.Bool.{cases_lt}
use Rattle.std.proofs.lemmas.List.{length-set, length-replicate, get_or-replicate, get_or-append_right, get_or_append_left, get_or-set_other, get_or-set_same, ext_get_or, length-append}
use Rattle.std.proofs.lemmas.List.Elements.{All-from_get_or}
use Rattle.std.proofs.lemmas.List.Sums.{count_by-le-length, sum_by-cons}
use Rattle.std.proofs.lemmas.List.FromFn.{length-range_with_len, length-map-range_with_len, get_or-map-range_with_len}
use Rattle.edr_items.specs.declared.Item.{Item}
use Rattle.edr_items.specs.declared.Sensor.TheVariants.{Along, Across}
use Rattle.edr_items.specs.Item.{IsFeed}
use Rattle.edr_record.specs.declared.TheConstants.{LONGEST_WINDOW, POINT_STEP}
use Rattle.edr_record.specs.declared.Extreme.{Extreme}
use Rattle.edr_record.specs.Parts.{CrashPart}
use Rattle.edr_record.specs.Bounds.{most_points, point_count}
use Rattle.edr_definitions.specs.Ticks.{ticks}
use Rattle.edr_definitions.specs.Signals.{Signals, sample_at}
use Rattle.edr_definitions.specs.Windows.{change_at, delta_v, size_of_change, squares}
use Rattle.edr_definitions.specs.Selection.{window_of, close_of}
use Rattle.edr_definitions.specs.Facts.{IsFirstGreatest}
use Rattle.edr_definitions.specs.Parts.{kmh_of, first_greatest, points, all_points, extreme, result_at, missing_count, firings, crash_part}
use Rattle.edr_definitions.proofs.AgreeLaws.{map_agree}
use Rattle.edr_definitions.proofs.BoundLaws as bounds
use Rattle.edr_definitions.proofs.CrashLaws.{delta_v-push}
use Rattle.edr_definitions.proofs.PartLaws.{first_greatest-is}
use Rattle.edr_definitions.proofs.TickLaws.{ticks-cons, ticks-none}
use Rattle.edr_definitions.proofs.WindowLaws.{delta_v-none}
use Rattle.edr_selection.specs.Sums.{HasSmallSamples, IsSmallChange, sums_from, points_of, extreme_of, resultant_at}

-- ---- the changes since a time zero

-- the changes at the ticks before the place d are there
pub record AreSums (axis : ℕ → Option ℤ) (z d : ℕ) (sums : List ℤ) : Type 0 where
  pub long : length sums ≡ LONGEST_WINDOW + 1
  pub each : (k : ℕ) → k < d → get_or sums k (pos 0) ≡ delta_v axis z (z + k)

pub AreSums-first : (axis : ℕ → Option ℤ) (z : ℕ) (sums : List ℤ) → sums ≡ replicate (LONGEST_WINDOW + 1) (pos 0) → AreSums axis z 1 sums
AreSums-first axis z sums is = record {
  long = ap length is ∙ length-replicate (LONGEST_WINDOW + 1) (pos 0);
  each = λ k lt. let first : k ≡ 0 = omega arith in
      ap (λ xs. get_or xs k (pos 0)) is ∙ get_or-replicate (LONGEST_WINDOW + 1) k (pos 0) (pos 0) (omega arith) ∙ sym (delta_v-none axis z (z + k) (omega arith));
}

-- one more
pub AreSums-next : (axis : ℕ → Option ℤ) (z d : ℕ) (sums : List ℤ) (v : ℤ) → AreSums axis z d sums → 0 < d → d < LONGEST_WINDOW + 1 → v ≡ get_or sums (d - 1) (pos 0) +ℤ change_at axis (z + d) → AreSums axis z (d + 1) (set sums d v)
AreSums-next axis z d sums v are some within is = record {
  long = length-set sums d v ∙ are.long;
  each = λ k lt. by k lt (cases_lt k d);
} where
  here : v ≡ delta_v axis z (z + d)
  here =
      let t = z + (d - 1) in
      let up : t + 1 ≡ z + d = omega arith in
      is ∙ ap (λ s. s +ℤ change_at axis (z + d)) (are.each (d - 1) (omega arith))
      ∙ ap (λ u. delta_v axis z t +ℤ change_at axis u) (sym up)
      ∙ sym (delta_v-push axis z t (omega arith))
      ∙ ap (λ u. delta_v axis z u) up

  by : (k : ℕ) → k < d + 1 → (k < d) ⊎ (d ≤ k) → get_or (set sums d v) k (pos 0) ≡ delta_v axis z (z + k)
  by k lt (inl before) = let other : k ≢ d = omega arith in get_or-set_other sums d k v (pos 0) other ∙ are.each k before
  by k lt (inr from) =
      let same : d ≡ k = omega arith in
      let long = are.long in
      subst (λ j. get_or (set sums d v) j (pos 0) ≡ delta_v axis z (z + j)) same (get_or-set_same sums d v (pos 0) (omega arith) ∙ here)

pub AreSums-all : (axis : ℕ → Option ℤ) (z d : ℕ) (sums : List ℤ) → AreSums axis z d sums → d ≡ LONGEST_WINDOW + 1 → sums ≡ sums_from axis z
unfolding sums_from
AreSums-all axis z d sums are end =
    let at = λ (k : ℕ). delta_v axis z (z + k) in
    let long = are.long in
    ext_get_or (pos 0) sums (map at (range_with_len 0 (LONGEST_WINDOW + 1))) (are.long ∙ sym (length-map-range_with_len at 0 (LONGEST_WINDOW + 1)))
    (λ k lt. are.each k (omega arith) ∙ sym (get_or-map-range_with_len at 0 (LONGEST_WINDOW + 1) k k (pos 0) (omega arith) (omega arith)))

-- what stands in a place
pub sums_from-at : (axis : ℕ → Option ℤ) (z k : ℕ) → k < LONGEST_WINDOW + 1 → get_or (sums_from axis z) k (pos 0) ≡ delta_v axis z (z + k)
unfolding sums_from
sums_from-at axis z k lt = get_or-map-range_with_len (λ (j : ℕ). delta_v axis z (z + j)) 0 (LONGEST_WINDOW + 1) k k (pos 0) lt (omega arith)

-- ---- how large they are

small : (axis : ℕ → Option ℤ) → HasSmallSamples axis → bounds.HasSmallSamples axis
small axis h = record { small = h.small }

pub along-small : (xs : List Item) → IsFeed Along xs → HasSmallSamples (sample_at xs)
along-small xs feed = record { small = (bounds.along-small xs feed).small }

pub across-small : (xs : List Item) → IsFeed Across xs → HasSmallSamples (sample_at xs)
across-small xs feed = record { small = (bounds.across-small xs feed).small }

pub sum-small : (axis : ℕ → Option ℤ) (z k : ℕ) → HasSmallSamples axis → unsigned_abs (delta_v axis z (z + k)) ≤ 100_000 * k
sum-small axis z k h = bounds.size-bound axis (small axis h) k z (z + k) (omega arith)

pub sums_from-small : (axis : ℕ → Option ℤ) (z : ℕ) → HasSmallSamples axis → All IsSmallChange (sums_from axis z)
unfolding sums_from
sums_from-small axis z h = All-from_get_or IsSmallChange (sums_from axis z) (pos 0) (λ k lt.
    let many = length-map-range_with_len (λ (j : ℕ). delta_v axis z (z + j)) 0 (LONGEST_WINDOW + 1) in
    let within : k < LONGEST_WINDOW + 1 = omega arith in
    subst IsSmallChange (sym (sums_from-at axis z k within)) (let s = sum-small axis z k h in omega arith))

-- ---- points

pub point_count-within : (d : ℕ) → point_count d ≤ most_points
point_count-within d = grind arith

-- a point is at most 250 ms past time zero
point_within : (e k : ℕ) → k < point_count e → POINT_STEP * k < LONGEST_WINDOW + 1
point_within e k lt = grind arith

pub points_of-is : (axis : ℕ → Option ℤ) (z e : ℕ) → points_of (sums_from axis z) (point_count (e - z)) ≡ all_points axis z e
unfolding points_of points
points_of-is axis z e =
    ap (λ ps. ps ++ replicate (most_points - point_count (e - z)) (pos 0))
    (map_agree (λ k. kmh_of (get_or (sums_from axis z) (POINT_STEP * k) (pos 0))) (λ k. kmh_of (delta_v axis z (z + POINT_STEP * k))) (point_count (e - z)) 0
    (λ k from lt. ap kmh_of (sums_from-at axis z (POINT_STEP * k) (point_within (e - z) k (omega arith)))))

-- ---- the first greatest

-- there is one
pub IsFirstGreatest-unique : (f : ℕ → ℕ) (a b s t : ℕ) → IsFirstGreatest f a b s → IsFirstGreatest f a b t → s ≡ t
IsFirstGreatest-unique f a b s t first second =
    let not_before : s < t → ⊥ = λ lt. let h = second.first s first.from lt in let g = first.greatest t second.from second.below in omega arith in
    let not_after : t < s → ⊥ = λ lt. let h = first.first t second.from lt in let g = second.greatest s first.from first.below in omega arith in
    omega arith

-- counted from a time zero
pub first_greatest-from : (f g : ℕ → ℕ) (z n at : ℕ) → ((d : ℕ) → d < n → g d ≡ f (z + d)) → IsFirstGreatest g 0 n at → at ≡ first_greatest f z (z + n) - z
first_greatest-from f g z n at same is =
    let some = is.below in
    let there = first_greatest-is f z (z + n) (omega arith) in
    let t = first_greatest f z (z + n) in
    let from = there.from in
    let below = there.below in
    let back : z + (t - z) ≡ t = omega arith in
    let here = same (t - z) (omega arith) ∙ ap f back in
    IsFirstGreatest-unique g 0 n at (t - z) is (record {
      from = omega arith;
      below = omega arith;
      greatest = λ u lo hi. let e = same u hi in let h = there.greatest (z + u) (omega arith) (omega arith) in omega arith;
      first = λ u lo hi. let e = same u (omega arith) in let h = there.first (z + u) (omega arith) (omega arith) in omega arith;
    })

-- one more place
pub IsFirstGreatest-next : (f : ℕ → ℕ) (d best : ℕ) → IsFirstGreatest f 0 d best → f d ≤ f best → IsFirstGreatest f 0 (d + 1) best
IsFirstGreatest-next f d best is less = record {
  from = omega arith;
  below = let h = is.below in omega arith;
  greatest = λ u lo hi. by u hi (cases_lt u d);
  first = is.first;
} where
  by : (u : ℕ) → u < d + 1 → (u < d) ⊎ (d ≤ u) → f u ≤ f best
  by u hi (inl before) = is.greatest u (omega arith) before
  by u hi (inr from) = let same : d ≡ u = omega arith in subst (λ j. f j ≤ f best) same less

pub IsFirstGreatest-more : (f : ℕ → ℕ) (d best : ℕ) → IsFirstGreatest f 0 d best → f best < f d → IsFirstGreatest f 0 (d + 1) d
IsFirstGreatest-more f d best is more = record {
  from = omega arith;
  below = omega arith;
  greatest = λ u lo hi. by u hi (cases_lt u d);
  first = λ u lo hi. let h = is.greatest u lo hi in omega arith;
} where
  by : (u : ℕ) → u < d + 1 → (u < d) ⊎ (d ≤ u) → f u ≤ f d
  by u hi (inl before) = let h = is.greatest u (omega arith) before in omega arith
  by u hi (inr from) = let same : d ≡ u = omega arith in subst (λ j. f j ≤ f d) same (omega arith)

pub IsFirstGreatest-one : (f : ℕ → ℕ) → IsFirstGreatest f 0 1 0
IsFirstGreatest-one f = record {
  from = omega arith;
  below = omega arith;
  greatest = λ u lo hi. let same : 0 ≡ u = omega arith in subst (λ j. f j ≤ f 0) same (omega arith);
  first = λ u lo hi. absurd (omega arith);
}

-- ---- extremes

pub extreme_of-is : (sums : List ℤ) (past at : ℕ) → 0 < past → IsFirstGreatest (λ d. unsigned_abs (get_or sums d (pos 0))) 0 past at → (kmh : ℤ) → kmh ≡ kmh_of (get_or sums at (pos 0)) → ◌≡◌ {A = Extreme} (record { kmh = kmh; at = at }) (extreme_of sums past)
unfolding extreme_of
extreme_of-is sums past at some is kmh kmh_is =
    let same : at ≡ first_greatest (λ d. unsigned_abs (get_or sums d (pos 0))) 0 past = IsFirstGreatest-unique _ 0 past at _ is (first_greatest-is (λ d. unsigned_abs (get_or sums d (pos 0))) 0 past some) in
    rw (kmh_is, sym same) refl

pub extreme_of-sums : (axis : ℕ → Option ℤ) (z n : ℕ) → 0 < n → n ≤ LONGEST_WINDOW + 1 → extreme_of (sums_from axis z) n ≡ extreme axis z (z + n)
unfolding extreme_of extreme
extreme_of-sums axis z n some within =
    let g = λ (d : ℕ). unsigned_abs (get_or (sums_from axis z) d (pos 0)) in
    let f : ℕ → ℕ = size_of_change axis z in
    let at = first_greatest g 0 n in
    let is = first_greatest-is g 0 n some in
    let same : at ≡ first_greatest f z (z + n) - z = first_greatest-from f g z n at (λ d lt. ap unsigned_abs (sums_from-at axis z d (omega arith))) is in
    let t = first_greatest f z (z + n) in
    let there = first_greatest-is f z (z + n) (omega arith) in
    let from = there.from in
    let below = is.below in
    let back : z + at ≡ t = omega arith in
    let value : get_or (sums_from axis z) at (pos 0) ≡ delta_v axis z t = sums_from-at axis z at (omega arith) ∙ ap (delta_v axis z) back in
    extreme_same (kmh_of (get_or (sums_from axis z) at (pos 0))) (kmh_of (delta_v axis z t)) at (t - z) (ap kmh_of value) same
  where
    extreme_same : (k l : ℤ) (a b : ℕ) → k ≡ l → a ≡ b → ◌≡◌ {A = Extreme} (record { kmh = k; at = a }) (record { kmh = l; at = b })
    extreme_same k l a b e g = rw (e, g) refl

squares_same : (x y u v : ℤ) → x ≡ u → y ≡ v → squares x y ≡ squares u v
squares_same x y u v e g = ap (λ a. squares a y) e ∙ ap (λ b. squares u b) g

resultant_same : (m : Signals) (z d : ℕ) (ps qs : List ℤ) → ps ≡ sums_from m.along z → qs ≡ sums_from m.across z → d < LONGEST_WINDOW + 1 → resultant_at ps qs d ≡ squares (delta_v m.along z (z + d)) (delta_v m.across z (z + d))
unfolding resultant_at
resultant_same m z d ps qs e g within =
    squares_same (get_or ps d (pos 0)) (get_or qs d (pos 0)) (delta_v m.along z (z + d)) (delta_v m.across z (z + d))
    (ap (λ xs. get_or xs d (pos 0)) e ∙ sums_from-at m.along z d within)
    (ap (λ xs. get_or xs d (pos 0)) g ∙ sums_from-at m.across z d within)

pub result_at-is : (m : Signals) (z w n at : ℕ) (ps qs : List ℤ) → ps ≡ sums_from m.along z → qs ≡ sums_from m.across z → n ≡ w + 1 → n ≤ LONGEST_WINDOW + 1 → IsFirstGreatest (resultant_at ps qs) 0 n at → at ≡ result_at m z (z + w + 1)
unfolding result_at
result_at-is m z w n at ps qs e g count within is =
    let f = λ (t : ℕ). squares (delta_v m.along z t) (delta_v m.across z t) in
    let end : z + n ≡ z + w + 1 = omega arith in
    first_greatest-from f (resultant_at ps qs) z n at (λ d lt. resultant_same m z d ps qs e g (omega arith)) is
    ∙ ap (λ b. first_greatest f z b - z) end

-- ---- missing samples

-- no tick is left
pub missing_count-none : (axis : ℕ → Option ℤ) (a b : ℕ) → b ≤ a → missing_count axis a b ≡ 0
unfolding missing_count
missing_count-none axis a b h = ap (λ xs. count_by (λ t. is_none (axis t)) xs) (ticks-none a b h)

-- the first tick, and the rest
pub missing_count-cons : (axis : ℕ → Option ℤ) (a b : ℕ) → a < b → missing_count axis a b ≡ cond (is_none (axis a)) 1 0 + missing_count axis (a + 1) b
unfolding missing_count
missing_count-cons axis a b h =
    ap (λ xs. count_by (λ t. is_none (axis t)) xs) (ticks-cons a b h) ∙ sum_by-cons (λ t. cond (is_none (axis t)) 1 0) a (ticks (a + 1) b)

pub missing_count-within : (axis : ℕ → Option ℤ) (a b : ℕ) → missing_count axis a b ≤ b - a
unfolding missing_count
missing_count-within axis a b =
    let h = count_by-le-length (λ t. is_none (axis t)) (ticks a b) in
    let n = length-range_with_len a (b - a) in omega arith

-- ---- points in their places

-- the points before the place k are there, and 0 stands past them
pub record AreFilled (sums : List ℤ) (k : ℕ) (ps : List ℤ) : Type 0 where
  pub long : length ps ≡ most_points
  pub done : (j : ℕ) → j < k → get_or ps j (pos 0) ≡ kmh_of (get_or sums (POINT_STEP * j) (pos 0))
  pub rest : (j : ℕ) → k ≤ j → j < most_points → get_or ps j (pos 0) ≡ pos 0

pub AreFilled-first : (sums ps : List ℤ) → ps ≡ replicate most_points (pos 0) → AreFilled sums 0 ps
AreFilled-first sums ps is = record {
  long = ap length is ∙ length-replicate most_points (pos 0);
  done = λ j lt. absurd (omega arith);
  rest = λ j from lt. ap (λ xs. get_or xs j (pos 0)) is ∙ get_or-replicate most_points j (pos 0) (pos 0) lt;
}

pub AreFilled-next : (sums ps : List ℤ) (k : ℕ) (v : ℤ) → AreFilled sums k ps → k < most_points → v ≡ kmh_of (get_or sums (POINT_STEP * k) (pos 0)) → AreFilled sums (k + 1) (set ps k v)
AreFilled-next sums ps k v are within is = record {
  long = length-set ps k v ∙ are.long;
  done = λ j lt. by j lt (cases_lt j k);
  rest = λ j from lt. let other : j ≢ k = omega arith in get_or-set_other ps k j v (pos 0) other ∙ are.rest j (omega arith) lt;
} where
  by : (j : ℕ) → j < k + 1 → (j < k) ⊎ (k ≤ j) → get_or (set ps k v) j (pos 0) ≡ kmh_of (get_or sums (POINT_STEP * j) (pos 0))
  by j lt (inl before) = let other : j ≢ k = omega arith in get_or-set_other ps k j v (pos 0) other ∙ are.done j before
  by j lt (inr from) =
      let same : k ≡ j = omega arith in
      let long = are.long in
      subst (λ i. get_or (set ps k v) i (pos 0) ≡ kmh_of (get_or sums (POINT_STEP * i) (pos 0))) same (get_or-set_same ps k v (pos 0) (omega arith) ∙ is)

pub AreFilled-all : (sums ps : List ℤ) (count : ℕ) → AreFilled sums count ps → count ≤ most_points → ps ≡ points_of sums count
unfolding points_of
AreFilled-all sums ps count are within =
    let at = λ (k : ℕ). kmh_of (get_or sums (POINT_STEP * k) (pos 0)) in
    let front = map at (range_with_len 0 count) in
    let back : List ℤ = replicate (most_points - count) (pos 0) in
    let many : length front ≡ count = length-map-range_with_len at 0 count in
    let long = are.long in
    ext_get_or (pos 0) ps (front ++ back) (are.long ∙ sym (all_long front back count within many (length-replicate (most_points - count) (pos 0))))
    (λ j lt. by front back many (length-replicate (most_points - count) (pos 0)) j (omega arith) (cases_lt j count))
  where
    all_long : (front back : List ℤ) (n : ℕ) → n ≤ most_points → length front ≡ n → length back ≡ most_points - n → length (front ++ back) ≡ most_points
    all_long front back n le a b = length-append front back ∙ omega arith

    by : (front back : List ℤ) → length front ≡ count → length back ≡ most_points - count → (j : ℕ) → j < most_points → (j < count) ⊎ (count ≤ j) → get_or ps j (pos 0) ≡ get_or (map (λ (k : ℕ). kmh_of (get_or sums (POINT_STEP * k) (pos 0))) (range_with_len 0 count) ++ replicate (most_points - count) (pos 0)) j (pos 0)
    by front back many more j lt (inl before) =
        let at = λ (k : ℕ). kmh_of (get_or sums (POINT_STEP * k) (pos 0)) in
        let n : length (map at (range_with_len 0 count)) ≡ count = length-map-range_with_len at 0 count in
        are.done j before ∙ sym (get_or_append_left (map at (range_with_len 0 count)) (replicate (most_points - count) (pos 0)) (pos 0) j (omega arith) ∙ get_or-map-range_with_len at 0 count j j (pos 0) before (omega arith))
    by front back many more j lt (inr from) =
        let at = λ (k : ℕ). kmh_of (get_or sums (POINT_STEP * k) (pos 0)) in
        let n : length (map at (range_with_len 0 count)) ≡ count = length-map-range_with_len at 0 count in
        are.rest j from lt ∙ sym (get_or-append_right (map at (range_with_len 0 count)) (replicate (most_points - count) (pos 0)) count j (pos 0) n from ∙ get_or-replicate (most_points - count) (j - count) (pos 0) (pos 0) (omega arith))

-- ---- the parts together

pub crash-is : (m : Signals) (z e : ℕ) (ps qs : List ℤ) (x y : Extreme) (at k l : ℕ) (fs : List (Option ℕ)) → ps ≡ all_points m.along z e → qs ≡ all_points m.across z e → x ≡ extreme m.along z (z + window_of z e + 1) → y ≡ extreme m.across z (z + window_of z e + 1) → at ≡ result_at m z (z + window_of z e + 1) → k ≡ missing_count m.along (z + 1) (z + window_of z e + 1) → l ≡ missing_count m.across (z + 1) (z + window_of z e + 1) → fs ≡ firings m z (close_of z e + 1) → ◌≡◌ {A = CrashPart} (record { end = e - z; along = ps; across = qs; max_along = x; max_across = y; result_at = at; missing_along = k; missing_across = l; fired = fs }) (crash_part m z e)
unfolding crash_part
crash-is m z e ps qs x y at k l fs p q g h r i j o = rw (p, q, g, h, r, i, j, o) refl

-- ---- the values of an axis

pub extreme-is : (axis : ℕ → Option ℤ) (z w n : ℕ) (sums : List ℤ) → sums ≡ sums_from axis z → n ≡ w + 1 → n ≤ LONGEST_WINDOW + 1 → extreme_of sums n ≡ extreme axis z (z + w + 1)
extreme-is axis z w n sums is count within =
    let end : z + n ≡ z + w + 1 = omega arith in
    ap (λ xs. extreme_of xs n) is ∙ extreme_of-sums axis z n (omega arith) within ∙ ap (λ b. extreme axis z b) end

pub points-are : (axis : ℕ → Option ℤ) (z e : ℕ) (sums : List ℤ) → sums ≡ sums_from axis z → points_of sums (point_count (e - z)) ≡ all_points axis z e
points-are axis z e sums is = ap (λ xs. points_of xs (point_count (e - z))) is ∙ points_of-is axis z e

pub sums-small : (axis : ℕ → Option ℤ) (z : ℕ) (sums : List ℤ) → HasSmallSamples axis → sums ≡ sums_from axis z → All IsSmallChange sums
sums-small axis z sums h is = subst (λ xs. All IsSmallChange xs) (sym is) (sums_from-small axis z h)
