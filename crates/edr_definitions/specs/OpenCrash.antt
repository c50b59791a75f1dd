-- The crash part while it grows, one tick at a time.
use Rattle.std.specs.Prelude.{◌≡◌, ◌<◌, ◌≤◌, ℕ, ◌+◌, ◌-◌, ◌*◌, ◌/◌, ◌%◌, min, ℤ, pos, ◌+ℤ◌, unsigned_abs, Bool, ◌&&◌, nat_eq, nat_lt, nat_le, if◌then◌else◌, Option, None, unwrap_or, is_none, List, ◌++◌, map, replicate, slice_set, slice_index_or}
use Rattle.std.specs.Option.{option_or}
use Rattle.std.specs.Int.{bit_at}
use Rattle.std.specs.List.{range_with_len}
use Rattle.edr_record.specs.Parts.{CrashPart}
use Rattle.edr_record.specs.declared.TheConstants.{LAST_POINT, LONGEST_WINDOW, POINT_STEP}
use Rattle.edr_record.specs.Bounds.{most_points}
use Rattle.edr_definitions.specs.Signals.{Signals}
use Rattle.edr_definitions.specs.Windows.{delta_v, size_of_change, squares}
use Rattle.edr_definitions.specs.Search.{tick_if}
use Rattle.edr_definitions.specs.Parts.{kmh_of, first_greatest, missing_count, firings}

-- the change of the greatest size so far, and its time from time zero on
pub record Peak : Type 0 where
  pub value : ℤ
  pub at : ℕ

-- the greatest sum of squares so far, and its time
pub record ResultPeak : Type 0 where
  pub size : ℕ
  pub at : ℕ

-- one axis: the change since time zero, its points so far and 0 past them, its peak, and the ticks without a sample
pub record OpenAxis : Type 0 where
  pub sum : ℤ
  pub points : List ℤ
  pub peak : Peak
  pub missing : ℕ

-- an open crash part: its time zero, and what is known of it so many ticks later
pub record OpenCrash : Type 0 where
  pub zero : ℕ
  pub elapsed : ℕ
  pub along : OpenAxis
  pub across : OpenAxis
  pub result : ResultPeak
  pub fired : List (Option ℕ)

-- ---- what it is, of signals
-- the end of the ticks that count for extremes and missing samples: up to 300 ms past z
abbrev pub edge : ℕ → ℕ → ℕ
edge z t = z + min LONGEST_WINDOW (t - z) + 1

-- how many points there are d ticks past time zero
abbrev pub points_by : ℕ → ℕ
points_by d = min LAST_POINT d / POINT_STEP + 1

-- the change since z at every tenth tick of the first d, up to 250 ms, and 0 past them
unfoldable pub points_to : (ℕ → Option ℤ) → ℕ → ℕ → List ℤ
points_to axis z d = map (λ k. kmh_of (delta_v axis z (z + POINT_STEP * k))) (range_with_len 0 (points_by d)) ++ replicate (most_points - points_by d) (pos 0)

-- the greatest size of a change since z over the ticks `z..b`, and where it comes first
unfoldable pub peak_of : (ℕ → Option ℤ) → ℕ → ℕ → Peak
peak_of axis z b = let t = first_greatest (size_of_change axis z) z b in record { value = delta_v axis z t; at = t - z }

-- the sum of the squares of both changes since z
abbrev pub squares_since : Signals → ℕ → ℕ → ℕ
squares_since m z t = squares (delta_v m.along z t) (delta_v m.across z t)

-- the greatest sum of squares over the ticks `z..b`, and where it comes first
unfoldable pub result_of : Signals → ℕ → ℕ → ResultPeak
result_of m z b = let t = first_greatest (squares_since m z) z b in record { size = squares_since m z t; at = t - z }

-- one axis of the open crash part of time zero z at the tick t
abbrev pub axis_at : (ℕ → Option ℤ) → ℕ → ℕ → OpenAxis
axis_at axis z t = record {
  sum = delta_v axis z t;
  points = points_to axis z (t - z);
  peak = peak_of axis z (edge z t);
  missing = missing_count axis (z + 1) (edge z t);
}

-- the open crash part of time zero z at the tick t
abbrev pub crash_at : Signals → ℕ → ℕ → OpenCrash
crash_at m z t = record {
  zero = z;
  elapsed = t - z;
  along = axis_at m.along z t;
  across = axis_at m.across z t;
  result = result_of m z (edge z t);
  fired = firings m z (t + 1);
}

-- ---- how it grows
-- the restraint of a bit fires
abbrev pub bit_fires : ℕ → ℕ → Bool
bit_fires fired bit = nat_eq (bit_at fired bit) 1

-- one axis at time zero
abbrev pub begin_axis : OpenAxis
begin_axis = record {
  sum = pos 0;
  points = replicate most_points (pos 0);
  peak = record { value = pos 0; at = 0 };
  missing = 0;
}

-- at time zero z, where these restraints fire
abbrev pub begin_crash : ℕ → ℕ → OpenCrash
begin_crash z fired = record {
  zero = z;
  elapsed = 0;
  along = begin_axis;
  across = begin_axis;
  result = record { size = 0; at = 0 };
  fired = map (λ bit. tick_if (bit_fires fired bit) 0) (range_with_len 0 8);
}

-- the points with one tick more, d ticks past time zero
abbrev pub next_points : List ℤ → ℤ → ℕ → List ℤ
next_points points sum d = if nat_eq (d % POINT_STEP) 0 && nat_le d LAST_POINT then slice_set points (d / POINT_STEP) (kmh_of sum) else points

-- the peak, or this change where its size is greater
abbrev pub higher : Peak → ℤ → ℕ → Peak
higher p sum d = if nat_lt (unsigned_abs p.value) (unsigned_abs sum) then record { value = sum; at = d } else p

-- the same of a sum of squares
abbrev pub higher_result : ResultPeak → ℕ → ℕ → ResultPeak
higher_result p size d = if nat_lt p.size size then record { size = size; at = d } else p

-- the first firings with one tick more
abbrev pub next_firings : List (Option ℕ) → ℕ → ℕ → List (Option ℕ)
next_firings firsts fired d = map (λ bit. option_or (slice_index_or firsts bit None) (tick_if (bit_fires fired bit) d)) (range_with_len 0 8)

-- one axis with one tick more, with its sample, d ticks past time zero
abbrev pub next_axis : OpenAxis → Option ℤ → ℕ → OpenAxis
next_axis a sample d =
    let x = a.sum +ℤ unwrap_or sample (pos 0) in
    record {
      sum = x;
      points = next_points a.points x d;
      peak = if nat_le d LONGEST_WINDOW then higher a.peak x d else a.peak;
      missing = if nat_le d LONGEST_WINDOW then a.missing + (if is_none sample then 1 else 0) else a.missing;
    }

-- one tick more, with its samples and the restraints that fire
abbrev pub next_crash : OpenCrash → Option ℤ → Option ℤ → ℕ → OpenCrash
next_crash p along across fired =
    let d = p.elapsed + 1 in
    let x = next_axis p.along along d in
    let y = next_axis p.across across d in
    record {
      zero = p.zero;
      elapsed = d;
      along = x;
      across = y;
      result = if nat_le d LONGEST_WINDOW then higher_result p.result (squares x.sum y.sum) d else p.result;
      fired = next_firings p.fired fired d;
    }

-- the crash part, where the end is e and its close has come
abbrev pub finish_crash : OpenCrash → ℕ → CrashPart
finish_crash p e = record {
  end = e - p.zero;
  along = p.along.points;
  across = p.across.points;
  max_along = record { kmh = kmh_of p.along.peak.value; at = p.along.peak.at };
  max_across = record { kmh = kmh_of p.across.peak.value; at = p.across.peak.at };
  result_at = p.result.at;
  missing_along = p.along.missing;
  missing_across = p.across.missing;
  fired = p.fired;
}

-- ---- two signals that are alike

-- they are the same at each tick from z to t
abbrev pub SameFrom : {X : Type 0} → ℕ → ℕ → (ℕ → X) → (ℕ → X) → Type 0
SameFrom z t a b = (u : ℕ) → z ≤ u → u ≤ t → a u ≡ b u

-- they are the same at each tick past z up to t
abbrev pub SameAfter : {X : Type 0} → ℕ → ℕ → (ℕ → X) → (ℕ → X) → Type 0
SameAfter z t a b = (u : ℕ) → z < u → u ≤ t → a u ≡ b u
