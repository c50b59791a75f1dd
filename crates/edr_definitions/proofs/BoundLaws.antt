-- The parts of an event of feeds have their fields in their bounds.
use Rattle.std.proofs.Common.{arith, refl, ap, sym, subst, ◌≡◌, ℕ, zero, suc, ◌+◌, ◌-◌, ◌*◌, ◌/◌, ◌≤◌, inl, inr, max, Bool, true, false, cond, nat_eq, nat_le, ◌&&◌, Some, None, Option, ℤ, pos, negsuc, ◌+ℤ◌, List, [], ◌∷◌, ◌++◌, ◌∙◌, map, filter, length, drop, replicate, unsigned_abs, ◌<◌}
use Rattle.std.specs.Prelude.{int_le, All, option_map, slice_get, slice_index_or, unwrap_or, is_none, neg_ℤ, find, option_and_then, IfSome, zip, flat_map}
use Rattle.std.specs.List.{range_with_len}
use Rattle.std.specs.Option.{option_or, option_map_or}
use Rattle.std.specs.Int.{bit_at}
use Rattle.std.proofs.lemmas.List.{length-map, length-append, length-replicate}
use Rattle.std.proofs.lemmas.List.Elements.{All-map, All-append, All-replicate, All-cons, All-filter}
use Rattle.std.proofs.lemmas.Int.{ints}
use Rattle.std.proofs.lemmas.Bool.{cases_lt}
use Rattle.std.proofs.lemmas.List.FromFn.{length-range_with_len, length-map-range_with_len}
use Rattle.std.proofs.lemmas.List.Sums.{count_by-le-length}
use Rattle.std.proofs.Math.Seq.{drop-append_seam}
use Rattle.edr_definitions.specs.declared.limits.TheConstants.{STEPS_OF_KMH}
use Rattle.edr_items.specs.declared.TheConstants.{LATEST_MOMENT}
use Rattle.edr_record.specs.declared.TheConstants.{LONG_SLOTS, LONGEST_PAIR, RESET, SLOT_REACH, SLOT_STEP}
use Rattle.edr_items.specs.declared.Sensor.{Sensor}
use Rattle.edr_items.specs.declared.Sensor.TheVariants.{Along, Across, Speed, Throttle}
use Rattle.edr_items.specs.declared.Item.{Item}
use Rattle.edr_items.specs.declared.ItemRefused.TheVariants as item
use Rattle.edr_items.specs.Sensor.{is_in_range, lowest_of, highest_of}
use Rattle.edr_items.specs.Item.{refusal_of, has_value_in_range, IsFeedAfter, IsFeed}
use Rattle.edr_items.specs.SensorLists.{SensorLists, AreFeeds}
use Rattle.edr_record.specs.declared.Place.{Place}
use Rattle.edr_record.specs.Bounds.{IsPlace, IsUpTo, IsPre, IsChange, ArePoints, IsExtreme, IsCrash, point_count}
use Rattle.edr_record.specs.declared.Place.TheVariants.{First, Second}
use Rattle.edr_record.specs.declared.Command.TheVariants.{Take, Lock, Done}
use Rattle.edr_record.specs.Parts.{PrePart}
use Rattle.edr_definitions.specs.Ticks.{ticks, first_tick}
use Rattle.edr_definitions.specs.Signals.{Signals, sample_at, signals_of}
use Rattle.edr_definitions.specs.Windows.{delta_v, change_at, size_of_change, squares}
use Rattle.edr_definitions.specs.Selection.{window_of, close_of, Event, events}
use Rattle.edr_definitions.specs.Parts.{latest_value, slot, slots_before, numbers, switch, pre_part, kmh_of, points, all_points, extreme, first_greatest, missing_count, first_firing, firings, result_at, crash_part}
use Rattle.edr_definitions.specs.Commands.{Issue, place_after, place_of, places_from, locks_at, lock_of, issues_of, all_issues, issues, commands}
use Rattle.edr_definitions.specs.Facts.{IsEventAfter, AreEventsAfter, IsInBounds}
use Rattle.edr_definitions.proofs.EventLaws.{events-follow}
use Rattle.edr_definitions.proofs.TickLaws.{first_tick-some}
use Rattle.edr_definitions.proofs.WindowLaws.{delta_v-cons, delta_v-none}
use Rattle.edr_definitions.proofs.PartLaws.{first_greatest-below}

-- ---- the values of a feed are in range

accepted_value : (s : Sensor) (x : Item) (last : ℕ) → (late far : Bool) → (good : Bool) → has_value_in_range s x ≡ good → cond late (Some (item.Order last)) (cond far (Some (item.Moment LATEST_MOMENT)) (cond good None (Some (item.Range (lowest_of s) (highest_of s))))) ≡ None → good ≡ true
accepted_value s x last true far good e h = cc
accepted_value s x last false true good e h = cc
accepted_value s x last false false true e h = refl
accepted_value s x last false false false e h = cc

pub in_range : (s : Sensor) (last : ℕ) (x : Item) → refusal_of s last x ≡ None → has_value_in_range s x ≡ true
unfolding refusal_of
in_range s last x h = accepted_value s x last (nat_le x.moment last) (nat_le (LATEST_MOMENT + 1) x.moment) (has_value_in_range s x) refl h

value_in_range : (s : Sensor) (x : Item) (v : ℤ) → has_value_in_range s x ≡ true → x.value ≡ Some v → is_in_range s v ≡ true
value_in_range s x v h e = subst (λ (o : Option ℤ). option_map_or (is_in_range s) o true ≡ true) e h

latest_by_test : (s : Sensor) (x : Item) (xs : List Item) (keep : Bool) (v : ℤ) → has_value_in_range s x ≡ true → ((w : ℤ) → latest_value xs ≡ Some w → is_in_range s w ≡ true) → latest_value (cond keep (x ∷ xs) xs) ≡ Some v → is_in_range s v ≡ true
latest_by_test s x xs false v here later h = later v h
latest_by_test s x xs true v here later h = by_later (latest_value xs) refl h where
  by_later : (o : Option ℤ) → latest_value xs ≡ o → option_or o x.value ≡ Some v → is_in_range s v ≡ true
  by_later None e h = value_in_range s x v here h
  by_later (Some w) e h = later v (e ∙ h)

latest_in_range : (s : Sensor) (last : ℕ) (p : Item → Bool) (xs : List Item) (v : ℤ) → IsFeedAfter s last xs → latest_value (filter p xs) ≡ Some v → is_in_range s v ≡ true
latest_in_range s last p [] v feed h = cc
latest_in_range s last p (x ∷ xs) v feed h =
    latest_by_test s x (filter p xs) (p x) v (in_range s last x feed.0) (λ w e. latest_in_range s x.moment p xs w feed.2 e) h

-- a slot of a feed is in range
slot_in_range : (s : Sensor) (xs : List Item) (t : ℕ) (v : ℤ) → IsFeed s xs → slot xs t ≡ Some v → is_in_range s v ≡ true
unfolding slot
slot_in_range s xs t v feed h = latest_in_range s 0 _ xs v feed h

-- ---- the pre part

number_up_to : (highest : ℕ) (v : ℤ) → int_le (pos 0) v && int_le v (pos highest) ≡ true → unsigned_abs v ≤ highest
number_up_to highest (pos n) h = grind (arith, h)
number_up_to highest (negsuc n) h = cc

slot_up_to : (highest : ℕ) (o : Option ℤ) → ((v : ℤ) → o ≡ Some v → int_le (pos 0) v && int_le v (pos highest) ≡ true) → IsUpTo highest (option_map unsigned_abs o)
slot_up_to highest None h = tt
slot_up_to highest (Some v) h = number_up_to highest v (h v refl)

speeds_up_to : (xs : List Item) (z : ℕ) → IsFeed Speed xs → All (IsUpTo 300) (numbers (slots_before xs z))
unfolding slots_before
speeds_up_to xs z feed =
    All-map (IsUpTo 300) (λ s. option_map unsigned_abs s) (map (λ k. slot xs (z + SLOT_STEP * k - SLOT_REACH)) (range_with_len 0 LONG_SLOTS))
    (All-map (λ o. IsUpTo 300 (option_map unsigned_abs o)) (λ k. slot xs (z + SLOT_STEP * k - SLOT_REACH)) (range_with_len 0 LONG_SLOTS)
    (λ k d within. slot_up_to 300 (slot xs (z + SLOT_STEP * slice_index_or (range_with_len 0 LONG_SLOTS) k d - SLOT_REACH)) (λ v e. slot_in_range Speed xs (z + SLOT_STEP * slice_index_or (range_with_len 0 LONG_SLOTS) k d - SLOT_REACH) v feed e)))

throttles_up_to : (xs : List Item) (z : ℕ) → IsFeed Throttle xs → All (IsUpTo 100) (numbers (slots_before xs z))
unfolding slots_before
throttles_up_to xs z feed =
    All-map (IsUpTo 100) (λ s. option_map unsigned_abs s) (map (λ k. slot xs (z + SLOT_STEP * k - SLOT_REACH)) (range_with_len 0 LONG_SLOTS))
    (All-map (λ o. IsUpTo 100 (option_map unsigned_abs o)) (λ k. slot xs (z + SLOT_STEP * k - SLOT_REACH)) (range_with_len 0 LONG_SLOTS)
    (λ k d within. slot_up_to 100 (slot xs (z + SLOT_STEP * slice_index_or (range_with_len 0 LONG_SLOTS) k d - SLOT_REACH)) (λ v e. slot_in_range Throttle xs (z + SLOT_STEP * slice_index_or (range_with_len 0 LONG_SLOTS) k d - SLOT_REACH) v feed e)))

all_slots : (xs : List Item) (z : ℕ) → length (slots_before xs z) ≡ LONG_SLOTS
unfolding slots_before
all_slots xs z = refl

pub pre_part-is : (f : SensorLists) (n z : ℕ) (place : Place) → AreFeeds f → 1 ≤ n → n ≤ 4_294_967_295 → 1 ≤ z → z ≤ LATEST_MOMENT → IsPlace place → IsPre (pre_part f n place z)
unfolding pre_part
pre_part-is f n z place feeds low high from to is = record {
  cycle_from = low;
  cycle_to = high;
  zero_from = from;
  zero_to = to;
  place = is;
  speeds = length-map (slots_before f.speed z) (λ s. option_map unsigned_abs s) ∙ all_slots f.speed z;
  speed = speeds_up_to f.speed z (feeds Speed);
  throttles = length-map (slots_before f.throttle z) (λ s. option_map unsigned_abs s) ∙ all_slots f.throttle z;
  throttle = throttles_up_to f.throttle z (feeds Throttle);
  brakes = length-map (slots_before f.brake z) switch ∙ all_slots f.brake z;
}

-- ---- changes of speed

-- each sample of the axis has at most 100000 steps
pub record HasSmallSamples (axis : ℕ → Option ℤ) : Type 0 where
  pub small : (t : ℕ) (v : ℤ) → axis t ≡ Some v → unsigned_abs v ≤ 100_000

pub size_of_sum : (x y z : ℤ) → z ≡ x +ℤ y → unsigned_abs z ≤ unsigned_abs x + unsigned_abs y
size_of_sum (pos a) (pos b) (pos c) e = omega (arith, ints, e)
size_of_sum (pos a) (pos b) (negsuc c) e = omega (arith, ints, e)
size_of_sum (pos a) (negsuc b) (pos c) e = omega (arith, ints, e)
size_of_sum (pos a) (negsuc b) (negsuc c) e = omega (arith, ints, e)
size_of_sum (negsuc a) (pos b) (pos c) e = omega (arith, ints, e)
size_of_sum (negsuc a) (pos b) (negsuc c) e = omega (arith, ints, e)
size_of_sum (negsuc a) (negsuc b) (pos c) e = omega (arith, ints, e)
size_of_sum (negsuc a) (negsuc b) (negsuc c) e = omega (arith, ints, e)

pub small_by : (o : Option ℤ) → ((v : ℤ) → o ≡ Some v → unsigned_abs v ≤ 100_000) → unsigned_abs (unwrap_or o (pos 0)) ≤ 100_000
small_by None h = omega arith
small_by (Some v) h = h v refl

-- over n ticks a change has at most 100000 steps for each
pub size-bound : (axis : ℕ → Option ℤ) → HasSmallSamples axis → (n s t : ℕ) → t ≤ s + n → size_of_change axis s t ≤ 100_000 * n
size-bound axis small zero s t near = let e = delta_v-none axis s t (omega (arith, near)) in rw e (omega arith)
size-bound axis small (suc n) s t near = elim (cases_lt s t) [
  | inl later ↦
      let e = delta_v-cons axis s t later in
      let sum = size_of_sum (change_at axis (s + 1)) (delta_v axis (s + 1) t) (delta_v axis s t) e in
      let first = small_by (axis (s + 1)) (small.small (s + 1)) in
      let rest = size-bound axis small n (s + 1) t (omega (arith, near)) in omega (arith, sum, first, rest)
  | inr none ↦ let e = delta_v-none axis s t none in rw e (omega arith)
]

size_of_negative : (k : ℕ) → unsigned_abs (neg_ℤ (pos k)) ≡ k
size_of_negative zero = refl
size_of_negative (suc k) = refl

pub is_change : (z : ℤ) → unsigned_abs z ≤ 30_000_000 → IsChange (kmh_of z)
is_change (pos n) h = omega (arith, h)
is_change (negsuc n) h = let e = size_of_negative ((suc n + STEPS_OF_KMH / 2) / STEPS_OF_KMH) in omega (arith, h, e)

first_of_map : (f : ℕ → ℤ) (n : ℕ) (ys : List ℤ) → 1 ≤ n → slice_get (map f (range_with_len 0 n) ++ ys) 0 ≡ Some (f 0)
first_of_map f zero ys some = absurd (omega (arith, some))
first_of_map f (suc n) ys some = refl

nothing_yet : (axis : ℕ → Option ℤ) (z : ℕ) → kmh_of (delta_v axis z (z + 10 * 0)) ≡ pos 0
nothing_yet axis z = let e = delta_v-none axis z (z + 10 * 0) (omega arith) in ap kmh_of e

few_points : (end : ℕ) → (1 ≤ point_count end) × (point_count end ≤ 26)
few_points end = (omega arith, omega arith)

length_points : (axis : ℕ → Option ℤ) (z e : ℕ) → length (points axis z e) ≡ point_count (e - z)
unfolding points
length_points axis z e = length-map-range_with_len (λ k. kmh_of (delta_v axis z (z + 10 * k))) 0 (point_count (e - z))

point_changes : (axis : ℕ → Option ℤ) (z : ℕ) → HasSmallSamples axis → (n a : ℕ) → a + n ≤ 26 → All IsChange (map (λ k. kmh_of (delta_v axis z (z + 10 * k))) (range_with_len a n))
point_changes axis z small zero a few = λ k d within. absurd (omega (arith, within))
point_changes axis z small (suc n) a few =
    All-cons IsChange (kmh_of (delta_v axis z (z + 10 * a))) _
    (is_change (delta_v axis z (z + 10 * a)) (let b = size-bound axis small 300 z (z + 10 * a) (omega (arith, few)) in omega (arith, b)))
    (point_changes axis z small n (a + 1) (omega (arith, few)))

are_points : (axis : ℕ → Option ℤ) (z e : ℕ) → HasSmallSamples axis → ArePoints (point_count (e - z)) (all_points axis z e)
unfolding points
are_points axis z e small =
    let count = point_count (e - z) in
    let few = few_points (e - z) in
    let long = length_points axis z e in
    let zeros = replicate (26 - count) (pos 0) in
    record {
      room = let parts = length-append (points axis z e) zeros in let rest = length-replicate (26 - count) (pos 0) in omega (arith, parts, rest, long, few.0, few.1);
      first = first_of_map (λ k. kmh_of (delta_v axis z (z + 10 * k))) count zeros few.0 ∙ ap (λ v. Some v) (nothing_yet axis z);
      changes = All-append IsChange (points axis z e) zeros (point_changes axis z small count 0 (let up = few.1 in omega (arith, up))) (All-replicate IsChange (26 - count) (pos 0) (omega arith));
      past = ap (λ n. drop n (points axis z e ++ zeros)) (sym long) ∙ drop-append_seam (points axis z e) zeros;
    }

is_extreme : (axis : ℕ → Option ℤ) (z w : ℕ) → HasSmallSamples axis → w ≤ 300 → IsExtreme w (extreme axis z (z + w + 1))
unfolding extreme
is_extreme axis z w small short =
    let t = first_greatest (size_of_change axis z) z (z + w + 1) in
    let below = first_greatest-below (size_of_change axis z) z (z + w + 1) (omega arith) in
    let size = size-bound axis small 300 z t (omega (arith, below, short)) in
    record { change = is_change (delta_v axis z t) (omega (arith, size)); time = omega (arith, below) }

few_missing : (axis : ℕ → Option ℤ) (z w : ℕ) → missing_count axis (z + 1) (z + w + 1) ≤ w
unfolding missing_count
few_missing axis z w =
    let few = count_by-le-length (λ t. is_none (axis t)) (ticks (z + 1) (z + w + 1)) in
    let long = length-range_with_len (z + 1) (z + w + 1 - (z + 1)) in omega (arith, few, long)

firing_in : (p : ℕ → Bool) (z b last : ℕ) → b ≤ z + last + 1 → (o : Option ℕ) → first_tick p z b ≡ o → IsUpTo last (option_map (λ t. t - z) o)
firing_in p z b last near None e = tt
firing_in p z b last near (Some t) e = let found = first_tick-some p z b t e in let below = found.1 in omega (arith, below, near)

firings_in : (m : Signals) (z b last : ℕ) → b ≤ z + last + 1 → All (IsUpTo last) (firings m z b)
unfolding firings first_firing
firings_in m z b last near =
    All-map (IsUpTo last) (first_firing m z b) (range_with_len 0 8)
    (λ k d within. firing_in (λ t. nat_eq (bit_at (m.fired t) (slice_index_or (range_with_len 0 8) k d)) 1) z b last near (first_tick (λ t. nat_eq (bit_at (m.fired t) (slice_index_or (range_with_len 0 8) k d)) 1) z b) refl)

eight : (m : Signals) (z b : ℕ) → length (firings m z b) ≡ 8
unfolding firings
eight m z b = refl

result_in : (m : Signals) (z w : ℕ) → result_at m z (z + w + 1) ≤ w
unfolding result_at
result_in m z w =
    let below = first_greatest-below (λ t. squares (delta_v m.along z t) (delta_v m.across z t)) z (z + w + 1) (omega arith) in omega (arith, below)

short_window : (z e : ℕ) → window_of z e ≤ 300
short_window z e = omega arith

pub crash_part-is : (m : Signals) (z e : ℕ) → HasSmallSamples m.along → HasSmallSamples m.across → z + 20 ≤ e → e ≤ z + RESET → IsCrash (crash_part m z e)
unfolding crash_part
crash_part-is m z e along across late reset = record {
  end_from = omega (arith, late);
  end_to = omega (arith, reset);
  along = are_points m.along z e along;
  across = are_points m.across z e across;
  max_along = is_extreme m.along z (window_of z e) along (short_window z e);
  max_across = is_extreme m.across z (window_of z e) across (short_window z e);
  result_at = result_in m z (window_of z e);
  missing_along = few_missing m.along z (window_of z e);
  missing_across = few_missing m.across z (window_of z e);
  restraints = eight m z (close_of z e + 1);
  fired = firings_in m z (close_of z e + 1) (max (e - z) (window_of z e)) (omega (arith, late));
}

-- ---- of feeds

sample_by_test : (s : Sensor) (x : Item) (xs : List Item) (p : Item → Bool) (here : Bool) (v : ℤ) → has_value_in_range s x ≡ true → (option_and_then (λ y. y.value) (find p xs) ≡ Some v → is_in_range s v ≡ true) → option_and_then (λ y. y.value) (cond here (Some x) (find p xs)) ≡ Some v → is_in_range s v ≡ true
sample_by_test s x xs p true v good later h = value_in_range s x v good h
sample_by_test s x xs p false v good later h = later h

sample_in_range : (s : Sensor) (last : ℕ) (p : Item → Bool) (xs : List Item) (v : ℤ) → IsFeedAfter s last xs → option_and_then (λ y. y.value) (find p xs) ≡ Some v → is_in_range s v ≡ true
sample_in_range s last p [] v feed h = cc
sample_in_range s last p (x ∷ xs) v feed h =
    sample_by_test s x xs p (p x) v (in_range s last x feed.0) (λ e. sample_in_range s x.moment p xs v feed.2 e) h

size_in_range : (v : ℤ) → int_le (negsuc 99_999) v && int_le v (pos 100_000) ≡ true → unsigned_abs v ≤ 100_000
size_in_range (pos n) h = grind (arith, h)
size_in_range (negsuc n) h = grind (arith, h)

pub along-small : (xs : List Item) → IsFeed Along xs → HasSmallSamples (sample_at xs)
unfolding sample_at
along-small xs feed = record { small = λ t v h. size_in_range v (sample_in_range Along 0 (λ x. nat_eq x.moment t) xs v feed h) }

pub across-small : (xs : List Item) → IsFeed Across xs → HasSmallSamples (sample_at xs)
unfolding sample_at
across-small xs feed = record { small = λ t v h. size_in_range v (sample_in_range Across 0 (λ x. nat_eq x.moment t) xs v feed h) }

-- the crash part of an event of feeds
pub crash_part-in_feeds : (f : SensorLists) (z e : ℕ) → AreFeeds f → z + 20 ≤ e → e ≤ z + RESET → IsCrash (crash_part (signals_of f) z e)
crash_part-in_feeds f z e feeds late reset = crash_part-is (signals_of f) z e (along-small f.along (feeds Along)) (across-small f.across (feeds Across)) late reset

-- ---- of commands
-- the event before one that is past the tick `after`, if there is one, has its time zero by then
abbrev IsBy : ℕ → Option (Place × ℕ) → Type 0
IsBy after s = IfSome s (λ x. x.1 ≤ after)

place_in : (place : Place) (before z : ℕ) → before < z → IsPlace (place_after place before z)
place_in First before z past = by_distance (nat_le (z - before) LONGEST_PAIR) refl where
  by_distance : (b : Bool) → nat_le (z - before) LONGEST_PAIR ≡ b → IsPlace (cond b (Second (z - before)) First)
  by_distance true near = (omega (arith, past), grind (arith, near))
  by_distance false far = tt
place_in (Second d) before z past = tt

place_of-is : (s : Option (Place × ℕ)) (after z : ℕ) → IsBy after s → after < z → IsPlace (place_of s z)
place_of-is None after z by past = tt
place_of-is (Some s) after z by past = place_in s.0 s.1 z (omega (arith, by, past))

module _ (f : SensorLists) (n t : ℕ) (feeds : AreFeeds f) (low : 1 ≤ n) (high : n ≤ 4_294_967_295) (short : t ≤ LATEST_MOMENT) where
  locks_in : (pre : PrePart) (r : Option ℕ) → IsPre pre → All (λ (i : Issue). IsInBounds i.command) (locks_at pre r)
  locks_in pre None is = λ k d within. absurd (omega (arith, within))
  locks_in pre (Some l) is = All-cons (λ (i : Issue). IsInBounds i.command) (record { tick = l; command = Lock pre }) [] is (λ k d within. absurd (omega (arith, within)))

  event_in : (after : ℕ) (e : Event) (place : Place) → IsEventAfter (signals_of f) t after e → IsPlace place → All (λ (i : Issue). IsInBounds i.command) (issues_of f n (e, place))
  unfolding issues_of
  event_in after e place is placed =
      let past = is.zero_is_past in let from = is.confirmed_from_zero in let by = is.confirmed_in_time in
      let P = λ (i : Issue). IsInBounds i.command in
      let z = e.zero_tick in
      let pre : IsPre (pre_part f n place z) = pre_part-is f n z place feeds low high (omega (arith, past)) (omega (arith, from, by, short)) placed in
      let crash : IsCrash (crash_part (signals_of f) z e.end_tick) = crash_part-in_feeds f z e.end_tick feeds is.ends_late is.ends_by_reset in
      let locks = locks_at (pre_part f n place z) (lock_of (signals_of f) z e.end_tick) in
      let done : Issue = record { tick = close_of z e.end_tick; command = Done (crash_part (signals_of f) z e.end_tick) } in
      All-cons P (record { tick = e.confirmed_tick; command = Take (pre_part f n place z) }) (locks ++ done ∷ []) pre
      (All-append P locks (done ∷ []) (locks_in (pre_part f n place z) (lock_of (signals_of f) z e.end_tick) pre)
      (All-cons P done [] crash (λ k d within. absurd (omega (arith, within)))))

  events_in : (after : ℕ) (es : List Event) (s : Option (Place × ℕ)) → AreEventsAfter (signals_of f) t after es → IsBy after s → All (λ (i : Issue). IsInBounds i.command) (flat_map (issues_of f n) (zip es (places_from s (map (λ e. e.zero_tick) es))))
  events_in after [] s h by = λ k d within. absurd (omega (arith, within))
  events_in after (e ∷ es) s h by =
      let here = place_of-is s after e.zero_tick by h.0.zero_is_past in
      let late = h.0.closes_late in
      All-append (λ (i : Issue). IsInBounds i.command) (issues_of f n (e, place_of s e.zero_tick)) (flat_map (issues_of f n) (zip es (places_from (Some (place_of s e.zero_tick, e.zero_tick)) (map (λ e. e.zero_tick) es))))
      (event_in after e (place_of s e.zero_tick) h.0 here)
      (events_in (close_of e.zero_tick e.end_tick) es (Some (place_of s e.zero_tick, e.zero_tick)) h.1 (omega (arith, late)))

  -- each command of a cycle of feeds carries parts in their bounds
  pub commands-in_bounds : All IsInBounds (commands f n t)
  unfolding commands
  commands-in_bounds =
      All-map IsInBounds (λ (i : Issue). i.command) (issues f n t)
      (All-filter (λ (i : Issue). nat_le i.tick t) (λ (i : Issue). IsInBounds i.command) (all_issues f n t)
      (events_in 0 (events (signals_of f) t) None (events-follow (signals_of f) t) tt))
