-- An open crash part stays in its bounds, and a finished one is in those of a crash part.
use Rattle.std.proofs.Common.{arith, refl, ap, sym, subst, ◌≡◌, ◌≢◌, ◌∙◌, ℕ, ◌+◌, ◌-◌, ◌*◌, ◌/◌, ◌%◌, ◌<◌, ◌≤◌, min, max, ℤ, pos, ◌+ℤ◌, Bool, true, false, cond, ◌&&◌, nat_eq, nat_lt, nat_le, Some, None, Option, List, length, drop, length-set, ◌⊎◌, inl, inr}
use Rattle.std.specs.Prelude.{unsigned_abs, unwrap_or, is_none, All, replicate, slice_set, slice_get, slice_index_or}
use Rattle.std.specs.Option.{option_or}
use Rattle.std.specs.List.{range_with_len}
use Rattle.std.proofs.lemmas.List.{drop-set-lt, drop-drop, drop-replicate, get_or-set_other, get_or_past}
use Rattle.std.proofs.lemmas.Bool.{cases_lt}
use Rattle.std.proofs.lemmas.List.Elements.{All-set, All-replicate, All-get_or, All-map}
use Rattle.std.proofs.lemmas.Option.{slice_get-get_or}
use Rattle.edr_record.specs.declared.TheConstants.{RESET}
use Rattle.edr_record.specs.Bounds.{ArePoints, IsChange, IsExtreme, IsUpTo, IsCrash, most_points, point_count, window_from_end}
use Rattle.edr_definitions.specs.Selection.{close_of}
use Rattle.edr_definitions.specs.Parts.{kmh_of}
use Rattle.edr_definitions.specs.Search.{tick_if}
use Rattle.edr_definitions.specs.OpenCrash.{Peak, ResultPeak, OpenAxis, OpenCrash, points_by, begin_axis, begin_crash, next_points, higher, higher_result, next_firings, next_axis, next_crash, finish_crash, bit_fires}
use Rattle.edr_definitions.proofs.BoundLaws.{size_of_sum, small_by, is_change}
use Rattle.edr_definitions.proofs.CrashLaws.{points_by-more, points_by-same}
use Rattle.edr_crashpart.specs.Bounds.{IsInRange, IsOpenAxis, IsOpen}

-- ---- points
first_stays : (ps : List ℤ) (n : ℕ) (v : ℤ) → 0 < n → length ps ≡ most_points → slice_get ps 0 ≡ Some (pos 0) → slice_get (slice_set ps n v) 0 ≡ Some (pos 0)
first_stays ps n v some room first =
    let other : 0 ≢ n = omega arith in
    let long = length-set ps n v in
    slice_get-get_or (slice_set ps n v) 0 v (omega (arith, long, room))
    ∙ ap (λ (x : ℤ). Some x) (get_or-set_other ps n 0 v v other)
    ∙ sym (slice_get-get_or ps 0 v (omega (arith, room)))
    ∙ first

one_point_more : (ps : List ℤ) (n : ℕ) (v : ℤ) → 0 < n → ArePoints n ps → IsChange v → ArePoints (n + 1) (slice_set ps n v)
one_point_more ps n v some is change =
    let rest : most_points - n - 1 ≡ most_points - (n + 1) = omega arith in
    record {
      room = length-set ps n v ∙ is.room;
      first = first_stays ps n v some is.room is.first;
      changes = All-set IsChange ps n v change is.changes;
      past =
          drop-set-lt (n + 1) ps n v (omega arith)
          ∙ sym (drop-drop 1 n ps)
          ∙ ap (drop 1) is.past
          ∙ drop-replicate 1 (most_points - n) (pos 0)
          ∙ ap (λ k. replicate k (pos 0)) rest;
    }

points_next : (d : ℕ) (ps : List ℤ) (x : ℤ) → ArePoints (points_by d) ps → unsigned_abs x ≤ 100_000 * (d + 1) → ArePoints (points_by (d + 1)) (next_points ps x (d + 1))
points_next d ps x is small = by_test (nat_eq ((d + 1) % 10) 0 && nat_le (d + 1) 250) refl where
  by_test : (v : Bool) → (nat_eq ((d + 1) % 10) 0 && nat_le (d + 1) 250) ≡ v → ArePoints (points_by (d + 1)) (cond v (slice_set ps ((d + 1) / 10) (kmh_of x)) ps)
  by_test true h =
      let t = points_by-more d h in
      let more = t.0 in let here = t.1 in let near = t.2 in
      let change = is_change x (omega (arith, small, near)) in
      subst (λ n. ArePoints n (slice_set ps ((d + 1) / 10) (kmh_of x))) (sym more)
      (subst (λ k. ArePoints (points_by d + 1) (slice_set ps k (kmh_of x))) here (one_point_more ps (points_by d) (kmh_of x) (omega arith) is change))
  by_test false h = subst (λ n. ArePoints n ps) (sym (points_by-same d h)) is

-- ---- one axis
record IsPeak (d : ℕ) (p : Peak) : Type 0 where
  value : unsigned_abs p.value ≤ 100_000 * p.at
  at : p.at ≤ min 300 d

peak_next : (d : ℕ) (p : Peak) (x : ℤ) → IsPeak d p → unsigned_abs x ≤ 100_000 * (d + 1) → IsPeak (d + 1) (cond (nat_le (d + 1) 300) (higher p x (d + 1)) p)
peak_next d p x is small = by_window (nat_le (d + 1) 300) refl where
  stays : IsPeak (d + 1) p
  stays = let at = is.at in record { value = is.value; at = omega (arith, at) }

  by_size : d + 1 ≤ 300 → (w : Bool) → IsPeak (d + 1) (cond {A = Peak} w (record { value = x; at = d + 1 }) p)
  by_size near true = record { value = small; at = omega (arith, near) }
  by_size near false = stays

  by_window : (v : Bool) → nat_le (d + 1) 300 ≡ v → IsPeak (d + 1) (cond v (higher p x (d + 1)) p)
  by_window true h = let near : d + 1 ≤ 300 = grind arith in by_size near (nat_lt (unsigned_abs p.value) (unsigned_abs x))
  by_window false h = stays

missing_next : (d n : ℕ) (sample : Option ℤ) → n ≤ min 300 d → cond (nat_le (d + 1) 300) (n + cond (is_none sample) 1 0) n ≤ min 300 (d + 1)
missing_next d n sample few = by_window (nat_le (d + 1) 300) refl where
  by_sample : d + 1 ≤ 300 → (w : Bool) → n + cond w 1 0 ≤ min 300 (d + 1)
  by_sample near true = omega (arith, few, near)
  by_sample near false = omega (arith, few, near)

  by_window : (v : Bool) → nat_le (d + 1) 300 ≡ v → cond v (n + cond (is_none sample) 1 0) n ≤ min 300 (d + 1)
  by_window true h = let near : d + 1 ≤ 300 = grind arith in by_sample near (is_none sample)
  by_window false h = omega (arith, few)

-- the change with one sample more
pub sum-next : (d : ℕ) (x : ℤ) (sample : Option ℤ) → unsigned_abs x ≤ 100_000 * d → IsInRange sample → unsigned_abs (x +ℤ unwrap_or sample (pos 0)) ≤ 100_000 * (d + 1)
sum-next d x sample small in_range =
    let both = size_of_sum x (unwrap_or sample (pos 0)) (x +ℤ unwrap_or sample (pos 0)) refl in
    let one = small_by sample in_range in
    omega (arith, both, one, small)

pub IsOpenAxis-next : (d : ℕ) (a : OpenAxis) (sample : Option ℤ) → IsOpenAxis d a → IsInRange sample → IsOpenAxis (d + 1) (next_axis a sample (d + 1))
IsOpenAxis-next d a sample is in_range =
    let small = sum-next d a.sum sample is.sum in_range in
    let peak = peak_next d a.peak (a.sum +ℤ unwrap_or sample (pos 0)) (record { value = is.peak; at = is.peak_at }) small in
    record {
      sum = small;
      points = points_next d a.points (a.sum +ℤ unwrap_or sample (pos 0)) is.points small;
      peak = peak.value;
      peak_at = peak.at;
      missing = missing_next d a.missing sample is.missing;
    }

pub IsOpenAxis-begin : IsOpenAxis 0 begin_axis
IsOpenAxis-begin = record {
  sum = omega arith;
  points = record { room = refl; first = refl; changes = All-replicate IsChange most_points (pos 0) (omega arith); past = refl };
  peak = omega arith;
  peak_at = omega arith;
  missing = omega arith;
}

-- ---- the whole part
firing_next : (d : ℕ) (first : Option ℕ) (fires : Bool) → IsUpTo d first → IsUpTo (d + 1) (option_or first (tick_if fires (d + 1)))
firing_next d None true is = omega arith
firing_next d None false is = tt
firing_next d (Some t) fires is = omega (arith, is)

firings_next : (d : ℕ) (firsts : List (Option ℕ)) (fired : ℕ) → All (IsUpTo d) firsts → All (IsUpTo (d + 1)) (next_firings firsts fired (d + 1))
firings_next d firsts fired is =
    All-map (IsUpTo (d + 1)) (λ bit. option_or (slice_index_or firsts bit None) (tick_if (bit_fires fired bit) (d + 1))) (range_with_len 0 8)
    (λ k x within. let bit = slice_index_or (range_with_len 0 8) k x in firing_next d (slice_index_or firsts bit None) (bit_fires fired bit) (at_any bit (cases_lt bit (length firsts)))) where
      at_any : (bit : ℕ) → (bit < length firsts) ⊎ (length firsts ≤ bit) → IsUpTo d (slice_index_or firsts bit None)
      at_any bit (inl within) = All-get_or (IsUpTo d) firsts bit None within is
      at_any bit (inr past) = subst (IsUpTo d) (sym (get_or_past firsts bit None past)) tt

result_next : (d : ℕ) (r : ResultPeak) (size : ℕ) → r.at ≤ min 300 d → (cond (nat_le (d + 1) 300) (higher_result r size (d + 1)) r).at ≤ min 300 (d + 1)
result_next d r size is = by_window (nat_le (d + 1) 300) refl where
  by_size : d + 1 ≤ 300 → (w : Bool) → (cond {A = ResultPeak} w (record { size = size; at = d + 1 }) r).at ≤ min 300 (d + 1)
  by_size near true = omega (arith, near)
  by_size near false = omega (arith, is)

  by_window : (v : Bool) → nat_le (d + 1) 300 ≡ v → (cond v (higher_result r size (d + 1)) r).at ≤ min 300 (d + 1)
  by_window true h = let near : d + 1 ≤ 300 = grind arith in by_size near (nat_lt r.size size)
  by_window false h = omega (arith, is)

pub IsOpen-begin : (z fired : ℕ) → IsOpen (begin_crash z fired)
IsOpen-begin z fired = record {
  elapsed = omega arith;
  along = IsOpenAxis-begin;
  across = IsOpenAxis-begin;
  result_at = omega arith;
  restraints = refl;
  fired = All-map (IsUpTo 0) (λ bit. tick_if (bit_fires fired bit) 0) (range_with_len 0 8) (λ k x within. at_zero (bit_fires fired (slice_index_or (range_with_len 0 8) k x)));
} where
  at_zero : (fires : Bool) → IsUpTo 0 (tick_if fires 0)
  at_zero true = omega arith
  at_zero false = tt

pub IsOpen-next : (p : OpenCrash) (along across : Option ℤ) (fired : ℕ) → IsOpen p → p.elapsed < RESET → IsInRange along → IsInRange across → IsOpen (next_crash p along across fired)
IsOpen-next p along across fired is few x_in y_in =
    record {
      elapsed = omega (arith, few);
      along = IsOpenAxis-next p.elapsed p.along along is.along x_in;
      across = IsOpenAxis-next p.elapsed p.across across is.across y_in;
      result_at = result_next p.elapsed p.result _ is.result_at;
      restraints = refl;
      fired = firings_next p.elapsed p.fired fired is.fired;
    }

-- ---- the finished part
record IsClosed (elapsed end : ℕ) : Type 0 where
  points : points_by elapsed ≡ point_count end
  window : min 300 elapsed ≤ window_from_end end
  close : elapsed ≡ max end (window_from_end end)

finished_extreme : (elapsed end : ℕ) (a : OpenAxis) → IsOpenAxis elapsed a → IsClosed elapsed end → IsExtreme (window_from_end end) (record { kmh = kmh_of a.peak.value; at = a.peak.at })
finished_extreme elapsed end a is closed =
    let size = is.peak in let at = is.peak_at in let window = closed.window in
    record { change = is_change a.peak.value (omega (arith, size, at)); time = omega (arith, at, window) }

pub IsCrash-finish : (p : OpenCrash) (e : ℕ) → IsOpen p → p.zero + 20 ≤ e → e ≤ p.zero + RESET → p.zero + p.elapsed ≡ close_of p.zero e → IsCrash (finish_crash p e)
IsCrash-finish p e is from to closed =
    let end = e - p.zero in
    let whole : IsClosed p.elapsed end = record { points = omega arith; window = omega arith; close = omega arith } in
    let window = whole.window in
    record {
      end_from = omega arith;
      end_to = omega arith;
      along = subst (λ n. ArePoints n p.along.points) whole.points is.along.points;
      across = subst (λ n. ArePoints n p.across.points) whole.points is.across.points;
      max_along = finished_extreme p.elapsed end p.along is.along whole;
      max_across = finished_extreme p.elapsed end p.across is.across whole;
      result_at = let at = is.result_at in omega (arith, at, window);
      missing_along = let few = is.along.missing in omega (arith, few, window);
      missing_across = let few = is.across.missing in omega (arith, few, window);
      restraints = is.restraints;
      fired = subst (λ n. All (IsUpTo n) p.fired) whole.close is.fired;
    }
