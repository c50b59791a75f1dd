-- What whole bytes of a crash part say lies in the bounds of one.
use Rattle.std.proofs.Common.{◌≡◌, inl, inr, refl, sym, ap, ◌∙◌, ℕ, zero, suc, ◌+◌, ◌-◌, ◌*◌, ◌<◌, ◌≤◌, max, ℤ, pos, Option, None, List, [], ◌∷◌, ◌++◌, length, map, drop, replicate, get_or, subst, append_assoc, append-nil, arith}
use Rattle.std.specs.List.{flat_map, range_with_len}
use Rattle.std.proofs.lemmas.Bool.{cases_lt, lt-ltb, le-ltb}
use Rattle.std.proofs.lemmas.Int.{ints}
use Rattle.std.proofs.lemmas.List.{ext_get_or, get_or-replicate, length-drop, length-replicate, get_or-drop}
use Rattle.std.proofs.lemmas.List.Elements.{All-from_get_or}
use Rattle.std.proofs.lemmas.List.FromFn.{length-map-range_with_len, get_or-map-range_with_len}
use Rattle.std.proofs.lemmas.Simd.{map-map}
use Rattle.edr_record.specs.Bounds.{IsCrash, ArePoints, IsChange, IsExtreme, window_from_end, point_count}
use Rattle.edr_record.specs.declared.Extreme.{Extreme}
use Rattle.edr_image.specs.declared.forms.CrashForm.{CrashForm}
use Rattle.edr_image.specs.PartBytes.{NumberField, damage_of_fields, crash_fields_by, crash_damage_by, crash_at, number_at, numbers_at, signed_value, unless, extreme_at, change_field, time_field}
use Rattle.edr_codec.specs.declared.rows.FieldRow.{FieldRow}
use Rattle.edr_codec.specs.Rows.{fields_of}
use Rattle.edr_codec.proofs.RowLemmas.{Lies, RowsLie, rows-lie}
use Rattle.edr_codec.proofs.PieceLemmas.{only_zero}
use Rattle.edr_codec.proofs.PreLemmas.{one_range, two_ranges, in_range, slots-up_to}

-- a number of points is from 1 to 26
pub points-some : (end : ℕ) → 1 ≤ point_count end
points-some end = omega arith

pub points-few : (end : ℕ) → point_count end ≤ 26
points-few end = omega arith

-- ---- the table

abbrev pub change_row : ℕ → FieldRow
change_row count = two_ranges count 2 (0, 3_000) (62_536, 65_535)

abbrev pub time_row : ℕ → ℕ → FieldRow
time_row count last = one_range count 2 (0, last)

-- the rows of the points of an axis, before further ones
abbrev pub axis_rows : ℕ → List FieldRow → List FieldRow
axis_rows count rest = time_row 1 0 ∷ change_row (count - 1) ∷ time_row (26 - count) 0 ∷ rest

-- the rows after both axes
abbrev pub last_rows : CrashForm → ℕ → ℕ → List FieldRow
last_rows form window last =
    change_row 1
    ∷ time_row 1 window
    ∷ change_row 1
    ∷ time_row 4 window
    ∷ two_ranges 8 2 (0, last) (0xffff, 0xffff)
    ∷ one_range form.zeros 1 (0, 0)
    ∷ []

-- the rows of a crash part, by its number of points, its window and its last time
abbrev pub rows_by : CrashForm → ℕ → ℕ → ℕ → List FieldRow
rows_by form count window last = one_range 1 2 (20, 500) ∷ axis_rows count (axis_rows count (last_rows form window last))

abbrev pub crash_table : CrashForm → ℕ → List FieldRow
crash_table form end = rows_by form (point_count end) (window_from_end end) (max end (window_from_end end))

-- the points of both axes, whichever way they are put together
regrouped : (first : NumberField) (changes past middle last : List NumberField)
    → changes ++ (past ++ (first ∷ (changes ++ (past ++ (middle ++ last))))) ≡ (((changes ++ past) ++ (first ∷ (changes ++ past))) ++ middle) ++ last
regrouped first changes past middle last = simp append_assoc

pub crash_table-fields : (form : CrashForm) (end : ℕ) → flat_map fields_of (crash_table form end) ≡ crash_fields_by form end
crash_table-fields form end =
    let window = window_from_end end in
    let time = time_field window in
    let last : NumberField = record { size = 2; ranges = (0, max end window) ∷ (0xffff, 0xffff) ∷ [] } in
    let changes = replicate (point_count end - 1) change_field in
    let past = replicate (26 - point_count end) (time_field 0) in
    let middle = change_field ∷ time ∷ change_field ∷ time ∷ time ∷ time ∷ time ∷ replicate 8 last in
    let behind : List NumberField = replicate form.zeros (record { size = 1; ranges = (0, 0) ∷ [] }) in
    ap (λ (fs : List NumberField). (record { size = 2; ranges = (20, 500) ∷ [] }) ∷ time_field 0 ∷ fs)
    (ap (λ (xs : List NumberField). changes ++ (past ++ (time_field 0 ∷ (changes ++ (past ++ (middle ++ xs)))))) (append-nil behind) ∙ regrouped (time_field 0) changes past middle behind)

-- the damage of a crash part is that of the fields that its end gives
pub crash_damage-is : (form : CrashForm) (bytes : List ℕ) (end : ℕ) (fs : List NumberField) → end ≡ number_at bytes 0 2 → fs ≡ crash_fields_by form end → crash_damage_by form bytes 0 ≡ damage_of_fields bytes 0 fs
unfolding crash_damage_by
crash_damage-is form bytes end fs end_is are = ap (λ (e : ℕ). damage_of_fields bytes 0 (crash_fields_by form e)) (sym end_is) ∙ ap (λ (x : List NumberField). damage_of_fields bytes 0 x) (sym are)

-- whole bytes fit the table
pub crash-lie : (form : CrashForm) (bytes : List ℕ) → crash_damage_by form bytes 0 ≡ None → RowsLie bytes 0 (crash_table form (number_at bytes 0 2))
unfolding crash_damage_by
crash-lie form bytes whole =
    let end = number_at bytes 0 2 in
    rows-lie bytes 0 (crash_table form end) refl
    (subst (λ (fs : List NumberField). damage_of_fields bytes 0 fs ≡ None) (sym (crash_table-fields form end)) whole)

-- ---- what the numbers are

abbrev pub change_ranges : List (ℕ × ℕ)
change_ranges = (0, 3_000) ∷ (62_536, 65_535) ∷ []

-- the numbers of the points of an axis, which begin at a place
pub record PointsLie (bytes : List ℕ) (at count : ℕ) : Type 0 where
  pub first : Lies ((0, 0) ∷ []) (number_at bytes at 2)
  pub changes : (k : ℕ) → 1 ≤ k → k < count → Lies change_ranges (number_at bytes (at + 2 * k) 2)
  pub past : (k : ℕ) → count ≤ k → k < 26 → Lies ((0, 0) ∷ []) (number_at bytes (at + 2 * k) 2)

-- the numbers after both axes
pub record LastLie (form : CrashForm) (bytes : List ℕ) (window last : ℕ) : Type 0 where
  pub max_along : Lies change_ranges (number_at bytes 106 2)
  pub max_along_at : Lies ((0, window) ∷ []) (number_at bytes 108 2)
  pub max_across : Lies change_ranges (number_at bytes 110 2)
  pub times : (k : ℕ) → k < 4 → Lies ((0, window) ∷ []) (number_at bytes (112 + 2 * k) 2)
  pub fired : (k : ℕ) → k < 8 → Lies ((0, last) ∷ (0xffff, 0xffff) ∷ []) (number_at bytes (120 + 2 * k) 2)
  pub zeros : (k : ℕ) → k < form.zeros → Lies ((0, 0) ∷ []) (number_at bytes (136 + 1 * k) 1)

-- the numbers of a crash part
pub record CrashLies (form : CrashForm) (bytes : List ℕ) (end : ℕ) : Type 0 where
  pub end_lies : Lies ((20, 500) ∷ []) (number_at bytes 0 2)
  pub along : PointsLie bytes 2 (point_count end)
  pub across : PointsLie bytes 54 (point_count end)
  pub last : LastLie form bytes (window_from_end end) (max end (window_from_end end))

moved : (ranges : List (ℕ × ℕ)) (bytes : List ℕ) (p q : ℕ) → p ≡ q → Lies ranges (number_at bytes p 2) → Lies ranges (number_at bytes q 2)
moved ranges bytes p q same lies = subst (λ (x : ℕ). Lies ranges (number_at bytes x 2)) same lies

axis-lies : (bytes : List ℕ) (at count : ℕ) (rest : List FieldRow) → 1 ≤ count → count ≤ 26 → RowsLie bytes at (axis_rows count rest) → PointsLie bytes at count × RowsLie bytes (at + 52) rest
axis-lies bytes at count rest some few lie = (
  record {
    first = moved ((0, 0) ∷ []) bytes (at + 2 * 0) at (omega arith) (lie.0 0 (omega arith));
    changes = λ k from below. moved change_ranges bytes (at + 2 * 1 + 2 * (k - 1)) (at + 2 * k) (omega arith) (lie.1.0 (k - 1) (omega arith));
    past = λ k from below. moved ((0, 0) ∷ []) bytes (at + 2 * 1 + 2 * (count - 1) + 2 * (k - count)) (at + 2 * k) (omega arith) (lie.1.1.0 (k - count) (omega arith));
  },
  subst (λ (x : ℕ). RowsLie bytes x rest) (let e : at + 2 * 1 + 2 * (count - 1) + 2 * (26 - count) ≡ at + 52 = omega arith in e) lie.1.1.1,
)

pub crash-lies : (form : CrashForm) (bytes : List ℕ) (end : ℕ) → RowsLie bytes 0 (crash_table form end) → CrashLies form bytes end
crash-lies form bytes end lie =
    let count = point_count end in
    let last = last_rows form (window_from_end end) (max end (window_from_end end)) in
    let along = axis-lies bytes 2 count (axis_rows count last) (points-some end) (points-few end) lie.1 in
    let across = axis-lies bytes 54 count last (points-some end) (points-few end) along.1 in
    let rest = across.1 in
    record {
      end_lies = lie.0 0 (omega arith);
      along = along.0;
      across = across.0;
      last = record {
        max_along = rest.0 0 (omega arith);
        max_along_at = rest.1.0 0 (omega arith);
        max_across = rest.1.1.0 0 (omega arith);
        times = rest.1.1.1.0;
        fired = rest.1.1.1.1.0;
        zeros = rest.1.1.1.1.1.0;
      };
    }

-- ---- the bounds

-- a number of a change is one of at most 3000 km/h
pub signed-change : (n : ℕ) → Lies change_ranges n → IsChange (signed_value n)
signed-change n (inl up) = rw (lt-ltb n 32_768 (omega arith)) up.1
signed-change n (inr (inl down)) = rw (le-ltb n 32_768 (omega arith)) (omega (arith, ints))
signed-change n (inr (inr none)) = absurd none

-- a point of an axis
point-is : (bytes : List ℕ) (at count k : ℕ) → PointsLie bytes at count → k < 26 → IsChange (signed_value (number_at bytes (at + 2 * k) 2))
point-is bytes at count zero lie below =
    let none : number_at bytes (at + 2 * 0) 2 ≡ 0 = only_zero (number_at bytes (at + 2 * 0) 2) (moved ((0, 0) ∷ []) bytes at (at + 2 * 0) (omega arith) lie.first) in
    rw none (omega arith)
point-is bytes at count (suc k) lie below = elim (cases_lt (suc k) count) [
  | inl here ↦ signed-change (number_at bytes (at + 2 * suc k) 2) (lie.changes (suc k) (omega arith) here)
  | inr past ↦ (let none = only_zero (number_at bytes (at + 2 * suc k) 2) (lie.past (suc k) past below) in rw none (omega arith))
]

-- values that are 0 from a place on
past-zeros : (f : ℕ → ℤ) (n from : ℕ) → ((k : ℕ) → from ≤ k → k < n → f k ≡ pos 0) → drop from (map f (range_with_len 0 n)) ≡ replicate (n - from) (pos 0)
past-zeros f n from are =
    let all = map f (range_with_len 0 n) in
    let long = length-map-range_with_len f 0 n in
    let size : length (drop from all) ≡ n - from = omega (arith, length-drop from all) in
    ext_get_or (pos 0) (drop from all) (replicate (n - from) (pos 0)) (size ∙ sym (length-replicate (n - from) (pos 0))) (λ k below.
    let within : k < n - from = omega arith in
    get_or-drop from all k (pos 0)
    ∙ get_or-map-range_with_len f 0 n (from + k) (from + k) (pos 0) (omega arith) (omega arith)
    ∙ are (from + k) (omega arith) (omega arith)
    ∙ sym (get_or-replicate (n - from) k (pos 0) (pos 0) within))

points-are : (bytes : List ℕ) (at count : ℕ) → count ≤ 26 → PointsLie bytes at count → ArePoints count (map signed_value (numbers_at bytes at 2 26))
points-are bytes at count few lie =
    let value = λ (k : ℕ). signed_value (number_at bytes (at + 2 * k) 2) in
    let points = map value (range_with_len 0 26) in
    let same : map signed_value (numbers_at bytes at 2 26) ≡ points = map-map signed_value (λ (k : ℕ). number_at bytes (at + 2 * k) 2) (range_with_len 0 26) in
    let read : (k : ℕ) → k < 26 → get_or points k (pos 0) ≡ value k = λ k below. get_or-map-range_with_len value 0 26 k k (pos 0) below (omega arith) in
    let first : number_at bytes (at + 2 * 0) 2 ≡ 0 = only_zero (number_at bytes (at + 2 * 0) 2) (moved ((0, 0) ∷ []) bytes at (at + 2 * 0) (omega arith) lie.first) in
    rw same record {
      room = refl;
      first = rw first refl;
      changes = All-from_get_or IsChange points (pos 0) (λ k below. rw (read k below) (point-is bytes at count k lie below));
      past = past-zeros value 26 count (λ k from below. let none = only_zero (number_at bytes (at + 2 * k) 2) (lie.past k from below) in rw none refl);
    }

extreme-is : (bytes : List ℕ) (at window : ℕ) → Lies change_ranges (number_at bytes at 2) → Lies ((0, window) ∷ []) (number_at bytes (at + 2) 2)
    → IsExtreme window (record { kmh = signed_value (number_at bytes at 2); at = number_at bytes (at + 2) 2 })
extreme-is bytes at window change time = record { change = signed-change (number_at bytes at 2) change; time = (in_range 0 window (number_at bytes (at + 2) 2) time).1 }

pub crash_at-is : (form : CrashForm) (bytes : List ℕ) → crash_damage_by form bytes 0 ≡ None → IsCrash (crash_at bytes 0)
unfolding crash_at
crash_at-is form bytes whole =
    let end = number_at bytes 0 2 in
    let window = window_from_end end in
    let lies = crash-lies form bytes end (crash-lie form bytes whole) in
    let times = in_range 20 500 end lies.end_lies in
    record {
      end_from = times.0;
      end_to = times.1;
      along = points-are bytes 2 (point_count end) (points-few end) lies.along;
      across = points-are bytes 54 (point_count end) (points-few end) lies.across;
      max_along = extreme-is bytes 106 window lies.last.max_along lies.last.max_along_at;
      max_across = extreme-is bytes 110 window lies.last.max_across (lies.last.times 0 (omega arith));
      result_at = (in_range 0 window (number_at bytes 114 2) (lies.last.times 1 (omega arith))).1;
      missing_along = (in_range 0 window (number_at bytes 116 2) (lies.last.times 2 (omega arith))).1;
      missing_across = (in_range 0 window (number_at bytes 118 2) (lies.last.times 3 (omega arith))).1;
      restraints = refl;
      fired = slots-up_to (max end window) 0xffff bytes 120 2 8 lies.last.fired;
    }

-- the values that are read, each at its place, are the crash part
pub crash_at-parts : (bytes : List ℕ) (end : ℕ) (along across : List ℤ) (max_along max_across : Extreme) (result_at missing_along missing_across : ℕ) (fired : List (Option ℕ))
    → end ≡ number_at bytes 0 2
    → along ≡ map signed_value (numbers_at bytes 2 2 26)
    → across ≡ map signed_value (numbers_at bytes 54 2 26)
    → max_along ≡ extreme_at bytes 106
    → max_across ≡ extreme_at bytes 110
    → result_at ≡ number_at bytes 114 2
    → missing_along ≡ number_at bytes 116 2
    → missing_across ≡ number_at bytes 118 2
    → fired ≡ map (unless 0xffff) (numbers_at bytes 120 2 8)
    → record { end = end; along = along; across = across; max_along = max_along; max_across = max_across; result_at = result_at; missing_along = missing_along; missing_across = missing_across; fired = fired } ≡ crash_at bytes 0
unfolding crash_at
crash_at-parts bytes end along across max_along max_across result_at missing_along missing_across fired e1 e2 e3 e4 e5 e6 e7 e8 e9 = cc
