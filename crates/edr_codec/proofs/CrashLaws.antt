-- A crash part that was put is read back, and one that is read is put back as the same bytes.
use Rattle.std.proofs.Common.{◌≡◌, inl, refl, sym, ap, ap₂, ◌∙◌, ℕ, zero, suc, ◌+◌, ◌-◌, ◌*◌, ◌<◌, ◌≤◌, max, ℤ, pos, None, List, [], ◌∷◌, ◌++◌, length, take, replicate, get_or, subst, append_assoc, append-nil, arith}
use Rattle.std.proofs.lemmas.List.{get_or-drop, get_or-replicate}
use Rattle.std.proofs.lemmas.Option.{get_or_from_slice_get}
use Rattle.std.specs.List.{flat_map}
use Rattle.byteorder.specs.Endian.{big_bytes}
use Rattle.byteorder.specs.Numbers.{big_from-lt}
use Rattle.edr_record.specs.Parts.{CrashPart}
use Rattle.edr_record.specs.Bounds.{IsCrash, ArePoints, IsChange, window_from_end, point_count}
use Rattle.edr_record.specs.declared.Extreme.{Extreme}
use Rattle.edr_image.specs.declared.forms.CrashForm.{CrashForm}
use Rattle.edr_image.specs.PartBytes.{NumberField, damage_of_fields, crash_damage_by, crash_at, crash_bytes_by, number_at, signed_value, unless, extreme_at, signed_bytes, slot_bytes, extreme_bytes, crash_size}
use Rattle.edr_codec.specs.declared.rows.FieldRow.{FieldRow}
use Rattle.edr_codec.proofs.RowLemmas.{AreBytes, Lies, RowsLie, rows-whole}
use Rattle.edr_codec.proofs.NumberLemmas.{number-stands, number-put}
use Rattle.edr_codec.proofs.PieceLemmas
use Rattle.edr_codec.proofs.PreLemmas.{in_range}
use Rattle.edr_codec.proofs.CrashLemmas.{crash_table, crash_table-fields, axis_rows, last_rows, change_ranges, PointsLie, CrashLies, crash-lie, crash-lies, points-some, points-few, crash_at-is, crash_at-parts}
use Rattle.edr_codec.proofs.PutLemmas.{crash-put}

-- ---- what is read is put back

signed-piece : (bytes : List ℕ) (at : ℕ) → AreBytes bytes → signed_bytes (signed_value (number_at bytes at 2)) ≡ big_bytes 2 (number_at bytes at 2)
signed-piece bytes at are = ap (big_bytes 2) (PieceLemmas.signed-number (number_at bytes at 2) (big_from-lt at 2 bytes are))

extreme-stands : (bytes : List ℕ) (at : ℕ) → AreBytes bytes → at + 4 ≤ length bytes → take (at + 2 + 2) bytes ≡ take at bytes ++ extreme_bytes (record { kmh = signed_value (number_at bytes at 2); at = number_at bytes (at + 2) 2 })
extreme-stands bytes at are room =
    let first : List ℕ = big_bytes 2 (number_at bytes at 2) in
    let later : List ℕ = big_bytes 2 (number_at bytes (at + 2) 2) in
    number-stands bytes (at + 2) 2 are (omega arith)
    ∙ ap (λ (xs : List ℕ). xs ++ later) (number-stands bytes at 2 are (omega arith))
    ∙ append_assoc (take at bytes) first later
    ∙ ap (λ (xs : List ℕ). take at bytes ++ (xs ++ later)) (sym (signed-piece bytes at are))

pub crash-written : (form : CrashForm) (bytes : List ℕ) → length bytes ≡ crash_size form → AreBytes bytes → crash_damage_by form bytes 0 ≡ None → bytes ≡ crash_bytes_by form (crash_at bytes 0)
unfolding crash_at
crash-written form bytes long are whole =
    let end = number_at bytes 0 2 in
    let lies = crash-lies form bytes end (crash-lie form bytes whole) in
    let ends = in_range 20 500 end lies.end_lies in
    let last : max end (window_from_end end) < 0xffff = omega arith in
    crash-put form (crash_at bytes 0) bytes bytes bytes bytes bytes bytes bytes bytes bytes bytes (crash_at-is form bytes whole) long
    (number-stands bytes 0 2 are (omega arith))
    (PieceLemmas.values-stand bytes 2 2 26 signed_value signed_bytes are (omega arith) (λ k below. signed-piece bytes (2 + 2 * k) are))
    (PieceLemmas.values-stand bytes 54 2 26 signed_value signed_bytes are (omega arith) (λ k below. signed-piece bytes (54 + 2 * k) are))
    (extreme-stands bytes 106 are (omega arith))
    (extreme-stands bytes 110 are (omega arith))
    (number-stands bytes 114 2 are (omega arith))
    (number-stands bytes 116 2 are (omega arith))
    (number-stands bytes 118 2 are (omega arith))
    (PieceLemmas.values-stand bytes 120 2 8 (unless 0xffff) (slot_bytes 2) are (omega arith)
    (λ k below. PieceLemmas.slot-number 2 (max end (window_from_end end)) 0xffff (number_at bytes (120 + 2 * k) 2) last refl (lies.last.fired k below)))
    (subst (λ (n : ℕ). take (136 + n) bytes ≡ take 136 bytes ++ replicate form.zeros 0) (let e : 1 * form.zeros ≡ form.zeros = omega arith in e) (PieceLemmas.zeros-stand bytes 136 form.zeros are (omega arith) lies.last.zeros))

-- ---- what is put is read back

-- the numbers of the fields of a crash part
pub record CrashNumbers (form : CrashForm) (bytes : List ℕ) (c : CrashPart) : Type 0 where
  pub end_number : number_at bytes 0 2 ≡ c.end
  pub along : (k : ℕ) → k < 26 → number_at bytes (2 + 2 * k) 2 ≡ PieceLemmas.change_code (get_or c.along k (pos 0))
  pub across : (k : ℕ) → k < 26 → number_at bytes (54 + 2 * k) 2 ≡ PieceLemmas.change_code (get_or c.across k (pos 0))
  pub max_along : number_at bytes 106 2 ≡ PieceLemmas.change_code c.max_along.kmh
  pub max_along_at : number_at bytes 108 2 ≡ c.max_along.at
  pub max_across : number_at bytes 110 2 ≡ PieceLemmas.change_code c.max_across.kmh
  pub max_across_at : number_at bytes 112 2 ≡ c.max_across.at
  pub result_at : number_at bytes 114 2 ≡ c.result_at
  pub missing_along : number_at bytes 116 2 ≡ c.missing_along
  pub missing_across : number_at bytes 118 2 ≡ c.missing_across
  pub fired : (k : ℕ) → k < 8 → number_at bytes (120 + 2 * k) 2 ≡ PieceLemmas.slot_code 0xffff (get_or c.fired k None)
  pub zeros : (k : ℕ) → k < form.zeros → number_at bytes (136 + 1 * k) 1 ≡ 0

-- pieces one after the other, whichever way they are put together
nested : (a b c d e f g h i j : List ℕ) → ((((((((a ++ b) ++ c) ++ d) ++ e) ++ f) ++ g) ++ h) ++ i) ++ j ≡ a ++ (b ++ (c ++ (d ++ (e ++ (f ++ (g ++ (h ++ (i ++ j))))))))
nested a b c d e f g h i j = simp append_assoc

pub crash-numbers : (form : CrashForm) (bytes : List ℕ) (c : CrashPart) → IsCrash c → bytes ≡ crash_bytes_by form c → CrashNumbers form bytes c
unfolding crash_bytes_by
crash-numbers form bytes c is put =
    let window = window_from_end c.end in
    let small : window ≤ 300 = omega arith in
    let ends = is.end_to in
    let number = λ (n : ℕ). big_bytes 2 n in
    let along : List ℕ = flat_map signed_bytes c.along in
    let across : List ℕ = flat_map signed_bytes c.across in
    let fired : List ℕ = flat_map (slot_bytes 2) c.fired in
    let zeros : List ℕ = replicate form.zeros 0 in
    let along_coded = PieceLemmas.changes-coded c.along is.along.changes in
    let across_coded = PieceLemmas.changes-coded c.across is.across.changes in
    let fired_coded = PieceLemmas.slots-coded 2 (max c.end window) 0xffff c.fired (omega arith) (omega arith) refl is.fired in
    let r120 : List ℕ = fired ++ zeros in
    let r118 : List ℕ = number c.missing_across ++ r120 in
    let r116 : List ℕ = number c.missing_along ++ r118 in
    let r114 : List ℕ = number c.result_at ++ r116 in
    let r112 : List ℕ = number c.max_across.at ++ r114 in
    let r110 : List ℕ = signed_bytes c.max_across.kmh ++ r112 in
    let r108 : List ℕ = number c.max_along.at ++ r110 in
    let r106 : List ℕ = signed_bytes c.max_along.kmh ++ r108 in
    let s0 : bytes ≡ number c.end ++ (along ++ (across ++ r106)) =
    put ∙ nested (number c.end) along across (extreme_bytes c.max_along) (extreme_bytes c.max_across) (number c.result_at) (number c.missing_along) (number c.missing_across) fired zeros in
    let s2 = PieceLemmas.past-piece bytes (number c.end) (along ++ (across ++ r106)) 0 2 s0 refl in
    let s54 = PieceLemmas.past-piece bytes along (across ++ r106) 2 52 s2 (PieceLemmas.length-pieces 2 signed_bytes PieceLemmas.change_code c.along along_coded ∙ ap (λ (n : ℕ). 2 * n) is.along.room) in
    let s106 = PieceLemmas.past-piece bytes across r106 54 52 s54 (PieceLemmas.length-pieces 2 signed_bytes PieceLemmas.change_code c.across across_coded ∙ ap (λ (n : ℕ). 2 * n) is.across.room) in
    let s108 = PieceLemmas.past-piece bytes (signed_bytes c.max_along.kmh) r108 106 2 s106 refl in
    let s110 = PieceLemmas.past-piece bytes (number c.max_along.at) r110 108 2 s108 refl in
    let s112 = PieceLemmas.past-piece bytes (signed_bytes c.max_across.kmh) r112 110 2 s110 refl in
    let s114 = PieceLemmas.past-piece bytes (number c.max_across.at) r114 112 2 s112 refl in
    let s116 = PieceLemmas.past-piece bytes (number c.result_at) r116 114 2 s114 refl in
    let s118 = PieceLemmas.past-piece bytes (number c.missing_along) r118 116 2 s116 refl in
    let s120 = PieceLemmas.past-piece bytes (number c.missing_across) r120 118 2 s118 refl in
    let s136 = PieceLemmas.past-piece bytes fired zeros 120 16 s120 (PieceLemmas.length-pieces 2 (slot_bytes 2) (PieceLemmas.slot_code 0xffff) c.fired fired_coded ∙ ap (λ (n : ℕ). 2 * n) is.restraints) in
    record {
      end_number = number-put bytes (along ++ (across ++ r106)) 0 2 c.end s0 (omega arith);
      along = λ k below. PieceLemmas.numbers-put bytes (across ++ r106) 2 2 signed_bytes PieceLemmas.change_code c.along along_coded s2 k (pos 0) (let h = is.along.room in omega arith);
      across = λ k below. PieceLemmas.numbers-put bytes r106 54 2 signed_bytes PieceLemmas.change_code c.across across_coded s54 k (pos 0) (let h = is.across.room in omega arith);
      max_along = number-put bytes r108 106 2 (PieceLemmas.change_code c.max_along.kmh) s106 (PieceLemmas.change-coded c.max_along.kmh is.max_along.change).fits;
      max_along_at = number-put bytes r110 108 2 c.max_along.at s108 (let h = is.max_along.time in omega arith);
      max_across = number-put bytes r112 110 2 (PieceLemmas.change_code c.max_across.kmh) s110 (PieceLemmas.change-coded c.max_across.kmh is.max_across.change).fits;
      max_across_at = number-put bytes r114 112 2 c.max_across.at s112 (let h = is.max_across.time in omega arith);
      result_at = number-put bytes r116 114 2 c.result_at s114 (let h = is.result_at in omega arith);
      missing_along = number-put bytes r118 116 2 c.missing_along s116 (let h = is.missing_along in omega arith);
      missing_across = number-put bytes r120 118 2 c.missing_across s118 (let h = is.missing_across in omega arith);
      fired = λ k below. PieceLemmas.numbers-put bytes zeros 120 2 (slot_bytes 2) (PieceLemmas.slot_code 0xffff) c.fired fired_coded s120 k None (let h = is.restraints in omega arith);
      zeros = PieceLemmas.zeros-put bytes [] 136 form.zeros (s136 ∙ sym (append-nil zeros));
    }

-- ---- the numbers lie in their ranges, and say the part

points-lie : (bytes : List ℕ) (at count : ℕ) (points : List ℤ) → count ≤ 26 → ArePoints count points → ((k : ℕ) → k < 26 → number_at bytes (at + 2 * k) 2 ≡ PieceLemmas.change_code (get_or points k (pos 0)))
    → PointsLie bytes at count
points-lie bytes at count points few are put = record {
  first =
      (let e : at ≡ at + 2 * 0 = omega arith in
      let none : get_or points 0 (pos 0) ≡ pos 0 = get_or_from_slice_get points 0 (pos 0) (pos 0) are.first in
      PieceLemmas.lies-at ((0, 0) ∷ []) (number_at bytes at 2) 0 (ap (λ (i : ℕ). number_at bytes i 2) e ∙ put 0 (omega arith) ∙ ap PieceLemmas.change_code none) PieceLemmas.lies-zero);
  changes = λ k from below.
      (PieceLemmas.lies-at change_ranges (number_at bytes (at + 2 * k) 2) (PieceLemmas.change_code (get_or points k (pos 0))) (put k (omega arith))
      (PieceLemmas.change-lies (get_or points k (pos 0)) (are.changes k (pos 0) (let h = are.room in omega arith))));
  past = λ k from below.
      (let none : get_or points k (pos 0) ≡ pos 0 =
      (let e : k ≡ count + (k - count) = omega arith in
      ap (λ (i : ℕ). get_or points i (pos 0)) e
      ∙ sym (get_or-drop count points (k - count) (pos 0))
      ∙ ap (λ (zs : List ℤ). get_or zs (k - count) (pos 0)) are.past
      ∙ get_or-replicate (26 - count) (k - count) (pos 0) (pos 0) (omega arith)) in
      PieceLemmas.lies-at ((0, 0) ∷ []) (number_at bytes (at + 2 * k) 2) 0 (put k below ∙ ap PieceLemmas.change_code none) PieceLemmas.lies-zero);
}

time-lies : (bytes : List ℕ) (at last n : ℕ) → number_at bytes at 2 ≡ n → n ≤ last → Lies ((0, last) ∷ []) (number_at bytes at 2)
time-lies bytes at last n is small = PieceLemmas.lies-at ((0, last) ∷ []) (number_at bytes at 2) n is (inl (omega arith, small))

change-lies-at : (bytes : List ℕ) (at : ℕ) (z : ℤ) → number_at bytes at 2 ≡ PieceLemmas.change_code z → IsChange z → Lies change_ranges (number_at bytes at 2)
change-lies-at bytes at z is small = PieceLemmas.lies-at change_ranges (number_at bytes at 2) (PieceLemmas.change_code z) is (PieceLemmas.change-lies z small)

-- the four times after the greatest change across
times-lie : (form : CrashForm) (bytes : List ℕ) (c : CrashPart) (window : ℕ) → CrashNumbers form bytes c → c.max_across.at ≤ window → c.result_at ≤ window → c.missing_along ≤ window → c.missing_across ≤ window
    → (k : ℕ) → k < 4 → Lies ((0, window) ∷ []) (number_at bytes (112 + 2 * k) 2)
times-lie form bytes c window are a b d e zero below = time-lies bytes 112 window c.max_across.at are.max_across_at a
times-lie form bytes c window are a b d e (suc zero) below = time-lies bytes 114 window c.result_at are.result_at b
times-lie form bytes c window are a b d e (suc (suc zero)) below = time-lies bytes 116 window c.missing_along are.missing_along d
times-lie form bytes c window are a b d e (suc (suc (suc zero))) below = time-lies bytes 118 window c.missing_across are.missing_across e
times-lie form bytes c window are a b d e (suc (suc (suc (suc k)))) below = absurd (omega arith)

numbers-lie : (form : CrashForm) (bytes : List ℕ) (c : CrashPart) → IsCrash c → CrashNumbers form bytes c → CrashLies form bytes c.end
numbers-lie form bytes c is are =
    let window = window_from_end c.end in
    let last = max c.end window in
    record {
      end_lies = PieceLemmas.lies-at ((20, 500) ∷ []) (number_at bytes 0 2) c.end are.end_number (inl (is.end_from, is.end_to));
      along = points-lie bytes 2 (point_count c.end) c.along (points-few c.end) is.along are.along;
      across = points-lie bytes 54 (point_count c.end) c.across (points-few c.end) is.across are.across;
      last = record {
        max_along = change-lies-at bytes 106 c.max_along.kmh are.max_along is.max_along.change;
        max_along_at = time-lies bytes 108 window c.max_along.at are.max_along_at is.max_along.time;
        max_across = change-lies-at bytes 110 c.max_across.kmh are.max_across is.max_across.change;
        times = times-lie form bytes c window are is.max_across.time is.result_at is.missing_along is.missing_across;
        fired = λ k below. PieceLemmas.lies-at ((0, last) ∷ (0xffff, 0xffff) ∷ []) (number_at bytes (120 + 2 * k) 2) (PieceLemmas.slot_code 0xffff (get_or c.fired k None)) (are.fired k below)
            (PieceLemmas.slot-lies last 0xffff (get_or c.fired k None) (is.fired k None (let h = is.restraints in omega arith)));
        zeros = λ k below. PieceLemmas.lies-at ((0, 0) ∷ []) (number_at bytes (136 + 1 * k) 1) 0 (are.zeros k below) PieceLemmas.lies-zero;
      };
    }

one-row : (ranges : List (ℕ × ℕ)) (bytes : List ℕ) (at : ℕ) → Lies ranges (number_at bytes at 2) → (k : ℕ) → k < 1 → Lies ranges (number_at bytes (at + 2 * k) 2)
one-row ranges bytes at lies = PieceLemmas.only_one (λ k. Lies ranges (number_at bytes (at + 2 * k) 2))
    (subst (λ (i : ℕ). Lies ranges (number_at bytes i 2)) (let e : at ≡ at + 2 * 0 = omega arith in e) lies)

axis-rows : (bytes : List ℕ) (at count : ℕ) (rest : List FieldRow) → 1 ≤ count → count ≤ 26 → PointsLie bytes at count → RowsLie bytes (at + 52) rest → RowsLie bytes at (axis_rows count rest)
axis-rows bytes at count rest some few lie later =
    let here = λ (ranges : List (ℕ × ℕ)) (p q : ℕ) (same : p ≡ q) (lies : Lies ranges (number_at bytes p 2)). subst (λ (i : ℕ). Lies ranges (number_at bytes i 2)) same lies in (
      one-row ((0, 0) ∷ []) bytes at lie.first,
      (
        (λ k below. here change_ranges (at + 2 * (k + 1)) (at + 2 * 1 + 2 * k) (omega arith) (lie.changes (k + 1) (omega arith) (omega arith))),
        (
          (λ k below. here ((0, 0) ∷ []) (at + 2 * (count + k)) (at + 2 * 1 + 2 * (count - 1) + 2 * k) (omega arith) (lie.past (count + k) (omega arith) (omega arith))),
          subst (λ (x : ℕ). RowsLie bytes x rest) (let e : at + 52 ≡ at + 2 * 1 + 2 * (count - 1) + 2 * (26 - count) = omega arith in e) later,
        ),
      ),
    )

crash-rows : (form : CrashForm) (bytes : List ℕ) (end : ℕ) → CrashLies form bytes end → RowsLie bytes 0 (crash_table form end)
crash-rows form bytes end lies =
    let count = point_count end in
    let window = window_from_end end in
    let last = last_rows form window (max end window) in
    let rest : RowsLie bytes 106 last = (
      one-row change_ranges bytes 106 lies.last.max_along,
      (
        one-row ((0, window) ∷ []) bytes 108 lies.last.max_along_at,
        (
          one-row change_ranges bytes 110 lies.last.max_across,
          (lies.last.times, (lies.last.fired, (lies.last.zeros, tt))),
        ),
      ),
    ) in (
      one-row ((20, 500) ∷ []) bytes 0 lies.end_lies,
      axis-rows bytes 2 count (axis_rows count last) (points-some end) (points-few end) lies.along
          (axis-rows bytes 54 count last (points-some end) (points-few end) lies.across rest),
    )

pub crash-numbers_say : (form : CrashForm) (bytes : List ℕ) (c : CrashPart) → IsCrash c → CrashNumbers form bytes c → crash_at bytes 0 ≡ c
crash-numbers_say form bytes c is are =
    let extreme = λ (at : ℕ) (x : Extreme) (change : IsChange x.kmh) (kmh : number_at bytes at 2 ≡ PieceLemmas.change_code x.kmh) (time : number_at bytes (at + 2) 2 ≡ x.at).
    (let same : extreme_at bytes at ≡ x = ap₂ (λ (z : ℤ) (n : ℕ). let y : Extreme = record { kmh = z; at = n } in y) (ap signed_value kmh ∙ PieceLemmas.change-back x.kmh change) time in same) in
    let points = λ (at count : ℕ) (zs : List ℤ) (points_are : ArePoints count zs) (put : (k : ℕ) → k < 26 → number_at bytes (at + 2 * k) 2 ≡ PieceLemmas.change_code (get_or zs k (pos 0))).
    PieceLemmas.values-back bytes at 2 26 signed_value PieceLemmas.change_code (pos 0) zs points_are.room put
    (λ k below. PieceLemmas.change-back (get_or zs k (pos 0)) (points_are.changes k (pos 0) (let h = points_are.room in omega arith))) in
    let window = window_from_end c.end in
    let last : max c.end window < 0xffff = let ends = is.end_to in omega arith in
    sym (crash_at-parts bytes c.end c.along c.across c.max_along c.max_across c.result_at c.missing_along c.missing_across c.fired
    (sym are.end_number)
    (sym (points 2 (point_count c.end) c.along is.along are.along))
    (sym (points 54 (point_count c.end) c.across is.across are.across))
    (sym (extreme 106 c.max_along is.max_along.change are.max_along are.max_along_at))
    (sym (extreme 110 c.max_across is.max_across.change are.max_across are.max_across_at))
    (sym are.result_at)
    (sym are.missing_along)
    (sym are.missing_across)
    (sym (PieceLemmas.values-back bytes 120 2 8 (unless 0xffff) (PieceLemmas.slot_code 0xffff) None c.fired is.restraints are.fired
    (λ k below. PieceLemmas.slot-back (max c.end window) 0xffff last (get_or c.fired k None) (is.fired k None (let h = is.restraints in omega arith))))))

-- the bytes of a crash part are 320
pub crash_bytes-of : (form : CrashForm) (c : CrashPart) → IsCrash c → PieceLemmas.AreBytesOf (crash_size form) (crash_bytes_by form c)
unfolding crash_bytes_by
crash_bytes-of form c is =
    let ends = is.end_to in
    let points = λ (zs : List ℤ) (count : ℕ) (are : ArePoints count zs). PieceLemmas.bytes-pieces 2 26 signed_bytes PieceLemmas.change_code zs (PieceLemmas.changes-coded zs are.changes) are.room in
    let fired = PieceLemmas.bytes-pieces 2 8 (slot_bytes 2) (PieceLemmas.slot_code 0xffff) c.fired (PieceLemmas.slots-coded 2 (max c.end (window_from_end c.end)) 0xffff c.fired (omega arith) (omega arith) refl is.fired) is.restraints in
    let extreme = λ (x : Extreme). PieceLemmas.bytes-append (PieceLemmas.bytes-number 2 (PieceLemmas.change_code x.kmh)) (PieceLemmas.bytes-number 2 x.at) in
    PieceLemmas.bytes-append (PieceLemmas.bytes-append (PieceLemmas.bytes-append (PieceLemmas.bytes-append (PieceLemmas.bytes-append (PieceLemmas.bytes-append (PieceLemmas.bytes-append (PieceLemmas.bytes-append (PieceLemmas.bytes-append
    (PieceLemmas.bytes-number 2 c.end) (points c.along (point_count c.end) is.along)) (points c.across (point_count c.end) is.across)) (extreme c.max_along)) (extreme c.max_across))
    (PieceLemmas.bytes-number 2 c.result_at)) (PieceLemmas.bytes-number 2 c.missing_along)) (PieceLemmas.bytes-number 2 c.missing_across)) fired) (PieceLemmas.bytes-zeros form.zeros)

-- what is read from the bytes of a crash part is this part
pub crash-read_back : (form : CrashForm) (c : CrashPart) → IsCrash c → (length (crash_bytes_by form c) ≡ crash_size form) × (crash_damage_by form (crash_bytes_by form c) 0 ≡ None) × (crash_at (crash_bytes_by form c) 0 ≡ c)
unfolding crash_damage_by
crash-read_back form c is =
    let bytes = crash_bytes_by form c in
    let of = crash_bytes-of form c is in
    let numbers = crash-numbers form bytes c is refl in
    let end = number_at bytes 0 2 in
    let lies = subst (λ (n : ℕ). CrashLies form bytes n) (sym numbers.end_number) (numbers-lie form bytes c is numbers) in
    let whole = rows-whole bytes 0 (crash_table form end) (PieceLemmas.small-bytes bytes of.small) (crash-rows form bytes end lies) in (
      of.long,
      subst (λ (fs : List NumberField). damage_of_fields bytes 0 fs ≡ None) (crash_table-fields form end) whole,
      crash-numbers_say form bytes c is numbers,
    )
