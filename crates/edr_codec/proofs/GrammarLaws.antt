-- The damage of the parts means that the bytes before it begin a part, and those up to and with it don't.
use Rattle.std.proofs.Common.{◌≡◌, ◌↔◌, inl, refl, None, sym, ap, ap₂, ◌∙◌, ℕ, zero, suc, ◌+◌, ◌*◌, ◌^◌, ◌<◌, ◌≤◌, max, Bool, true, false, Some, List, [], ◌∷◌, ◌++◌, length, replicate, slice_index, nat_eq, arith}
use Rattle.std.specs.List.{flat_map}
use Rattle.edr_record.specs.Bounds.{IsCrash, window_from_end, point_count}
use Rattle.edr_image.specs.declared.forms.CrashForm.{CrashForm}
use Rattle.edr_image.specs.declared.forms.PreForm.{PreForm}
use Rattle.edr_image.specs.PartBytes.{NumberField, field, damage_of_fields, pre_size, slots_of, profile_byte, IsPreForm, IsPreBy, pre_fields_by, pre_damage_by, pre_at_by, pre_bytes_by, BeginsPreBy, crash_size, crash_fields_by, crash_damage_by, crash_at, crash_bytes_by, BeginsCrashBy, number_at, IsDamagedAt}
use Rattle.edr_codec.specs.declared.rows.FieldRow.{FieldRow}
use Rattle.edr_codec.specs.Rows.{ranges_of, fields_of, row_size}
use Rattle.edr_codec.proofs.FieldLemmas.{fields_size, fields_size-replicate}
use Rattle.edr_codec.proofs.RowLemmas.{Lies, can_be_in-lies}
use Rattle.edr_codec.proofs.PieceLemmas.{AreSmall, small-bytes}
use Rattle.edr_codec.proofs.DamageLemmas.{AreFilled, IsFilled, FieldsFilled}
use Rattle.edr_codec.proofs.MeaningLemmas.{IsTable, IsGrammar, table_damage, table-within, table-same, table-complete, damage-means, means-damage}
use Rattle.edr_codec.proofs.PreLemmas.{by-profile, profile-by, profile-is, pre_rest, pre_table-fields, pre-profile, after_range, pre_at-is}
use Rattle.edr_codec.proofs.CrashLemmas.{axis_rows, last_rows, crash_table-fields, crash_at-is, points-some, points-few}
use Rattle.edr_codec.proofs.PreLaws.{pre-read_back, pre-written}
use Rattle.edr_codec.proofs.CrashLaws.{crash-read_back, crash-written}

-- ---- tables whose fields have values

-- a field with some number of its size
filled : (size : ℕ) (ranges : List (ℕ × ℕ)) (n : ℕ) → AreFilled ranges → n < 256 ^ size → Lies ranges n → IsFilled (field size ranges)
filled size ranges n are fits lies = record {
  ranges = are;
  some = can_be_in-lies ranges 0 size n (omega arith) (let e : (0 + 1) * 256 ^ size ≡ 256 ^ size = omega arith in omega arith) lies;
}

abbrev RowsFilled : List FieldRow → Type 0
RowsFilled [] = Unit {0}
RowsFilled (r ∷ rs) = IsFilled (field r.size (ranges_of r)) × RowsFilled rs

filled-append : (xs ys : List NumberField) → FieldsFilled xs → FieldsFilled ys → FieldsFilled (xs ++ ys)
filled-append [] ys a b = b
filled-append (x ∷ xs) ys a b = (a.0, filled-append xs ys a.1 b)

filled-replicate : (n : ℕ) (f : NumberField) → IsFilled f → FieldsFilled (replicate n f)
filled-replicate zero f is = tt
filled-replicate (suc n) f is = (is, filled-replicate n f is)

rows-filled : (rows : List FieldRow) → RowsFilled rows → FieldsFilled (flat_map fields_of rows)
rows-filled [] are = tt
rows-filled (r ∷ rs) are = filled-append (fields_of r) (flat_map fields_of rs) (filled-replicate r.count (field r.size (ranges_of r)) are.0) (rows-filled rs are.1)

-- how many bytes rows have
abbrev rows_size : List FieldRow → ℕ
rows_size [] = 0
rows_size (r ∷ rs) = row_size r + rows_size rs

fields_size-append : (xs ys : List NumberField) → fields_size (xs ++ ys) ≡ fields_size xs + fields_size ys
fields_size-append [] ys = omega arith
fields_size-append (x ∷ xs) ys = let ih = fields_size-append xs ys in omega arith

fields_size-rows : (rows : List FieldRow) → fields_size (flat_map fields_of rows) ≡ rows_size rows
fields_size-rows [] = refl
fields_size-rows (r ∷ rs) =
    fields_size-append (fields_of r) (flat_map fields_of rs)
    ∙ ap₂ (λ (m n : ℕ). m + n) (fields_size-replicate r.count (field r.size (ranges_of r))) (fields_size-rows rs)

-- ---- the pre part

abbrev pre_head : PreForm → List NumberField
pre_head form = field 4 ((1, 4_294_967_295) ∷ []) ∷ field 4 ((1, 86_400_000) ∷ []) ∷ field 1 ((1, 2) ∷ []) ∷ field 1 ((form.short.byte, form.long.byte) ∷ []) ∷ []

abbrev pre_tail : PreForm → List ℕ → List NumberField
pre_tail form b = flat_map fields_of (pre_rest form (slots_of form (slice_index b 9)) (nat_eq (slice_index b 8) 1))

one_filled : (size low high : ℕ) → low ≤ high → low < 256 ^ size → IsFilled (field size ((low, high) ∷ []))
one_filled size low high up fits = filled size ((low, high) ∷ []) low (up, tt) fits (inl (omega arith, up))

two_filled : (size low high low2 high2 : ℕ) → low ≤ high → low2 ≤ high2 → low < 256 ^ size → IsFilled (field size ((low, high) ∷ (low2, high2) ∷ []))
two_filled size low high low2 high2 up up2 fits = filled size ((low, high) ∷ (low2, high2) ∷ []) low (up, (up2, tt)) fits (inl (omega arith, up))

after-filled : (is_first : Bool) → IsFilled (field 2 (after_range is_first ∷ []))
after-filled true = one_filled 2 0 0 (omega arith) (omega arith)
after-filled false = one_filled 2 1 5_000 (omega arith) (omega arith)

rest-filled : (form : PreForm) (n : ℕ) (is_first : Bool) → RowsFilled (pre_rest form n is_first)
rest-filled form n is_first =
    let gap = one_filled 1 0 0 (omega arith) (omega arith) in
    let switch = two_filled 1 0 1 0xff 0xff (omega arith) (omega arith) (omega arith) in (
      after-filled is_first,
      (
        two_filled 2 0 300 0xffff 0xffff (omega arith) (omega arith) (omega arith),
        (gap, (two_filled 1 0 100 0xff 0xff (omega arith) (omega arith) (omega arith), (gap, (switch, (gap, (switch, (gap, tt))))))),
      ),
    )

pre_tail-size : (form : PreForm) (n : ℕ) (is_first : Bool) → n ≤ form.room → fields_size (flat_map fields_of (pre_rest form n is_first)) ≡ 4 + 4 * form.room + form.zeros
pre_tail-size form n is_first fits = fields_size-rows (pre_rest form n is_first) ∙ sizes (after_range is_first) where
  sizes : (after : ℕ × ℕ) → rows_size (pre_rest form n is_first) ≡ 4 + 4 * form.room + form.zeros
  sizes after = omega arith

pub pre_fields-size : (form : PreForm) (place profile : ℕ) → IsPreForm form → fields_size (pre_fields_by form place profile) ≡ pre_size form
pre_fields-size form place profile is =
    sym (ap fields_size (pre_table-fields form place profile))
    ∙ ap (λ (n : ℕ). 4 + (4 + (1 + (1 + n)))) (pre_tail-size form (slots_of form profile) (nat_eq place 1) (is.room profile))
    ∙ (let e : 4 + (4 + (1 + (1 + (4 + 4 * form.room + form.zeros)))) ≡ pre_size form = omega arith in e)

pre-is_table : (form : PreForm) → IsPreForm form → IsTable (pre_size form) (pre_head form) (pre_tail form)
pre-is_table form is = record {
  head_filled = (
    one_filled 4 1 4_294_967_295 (omega arith) (omega arith),
    (
      one_filled 4 1 86_400_000 (omega arith) (omega arith),
      (
        one_filled 1 1 2 (omega arith) (omega arith),
        (filled 1 ((form.short.byte, form.long.byte) ∷ []) form.short.byte (is.order, tt) (let low = is.order in let top = is.byte in omega arith) (inl (omega arith, is.order)), tt),
      ),
    ),
  );
  tail_filled = λ b.
      (let n = slots_of form (slice_index b 9) in
      let is_first = nat_eq (slice_index b 8) 1 in
      rows-filled (pre_rest form n is_first) (rest-filled form n is_first));
  told = λ b c same. ap₂ (λ (place profile : ℕ). flat_map fields_of (pre_rest form (slots_of form profile) (nat_eq place 1))) (same 8 (omega arith)) (same 9 (omega arith));
  sizes = λ b.
      ap (λ (n : ℕ). fields_size (pre_head form) + n) (pre_tail-size form (slots_of form (slice_index b 9)) (nat_eq (slice_index b 8) 1) (is.room (slice_index b 9)))
      ∙ (let e : 10 + (4 + 4 * form.room + form.zeros) ≡ pre_size form = omega arith in e);
}

pre_damage-table : (form : PreForm) (b : List ℕ) → pre_damage_by form b 0 ≡ table_damage (pre_head form) (pre_tail form) b
unfolding pre_damage_by
pre_damage-table form b = ap (λ (fs : List NumberField). damage_of_fields b 0 fs) (sym (pre_table-fields form (slice_index b 8) (slice_index b 9)))

-- what whole bytes say is in its bounds
pub pre_at-in_bounds : (form : PreForm) (b : List ℕ) → IsPreForm form → pre_damage_by form b 0 ≡ None → IsPreBy form (pre_at_by form b 0)
unfolding pre_at_by
pre_at-in_bounds form b is whole =
    let profile = slice_index b 9 in
    let within = pre-profile form b is whole in
    by-profile form (slots_of form profile) (pre_at_by form b 0) (profile-is form profile is within.0 within.1) (pre_at-is form b is whole)

pre-is_grammar : (form : PreForm) → IsPreForm form → IsGrammar (pre_size form) (IsPreBy form) (pre_bytes_by form) (λ b. pre_at_by form b 0) (table_damage (pre_head form) (pre_tail form))
pre-is_grammar form is = record {
  same = λ b c k damaged same. table-same (pre_size form) (pre_head form) (pre_tail form) b c k (pre-is_table form is) damaged same;
  complete = λ b k long small damaged. table-complete (pre_size form) (pre_head form) (pre_tail form) (pre_size form) b k (pre-is_table form is) long small damaged (omega arith);
  read_back = λ p by. sym (pre_damage-table form (pre_bytes_by form p)) ∙ (pre-read_back form (slots_of form (profile_byte form p.profile)) p by.bounds (profile-by form p is by)).1;
  written = λ b long small whole.
      (let whole' = pre_damage-table form b ∙ whole in
      (pre_at-in_bounds form b is whole', sym (pre-written form b is long (small-bytes b small) whole')));
}

pub pre_damage-means : (form : PreForm) → IsPreForm form → (b : List ℕ) (k : ℕ) → length b ≡ pre_size form → AreSmall b → (pre_damage_by form b 0 ≡ Some k) ↔ IsDamagedAt (BeginsPreBy form b) k
pre_damage-means form is b k long small = (
  (λ damaged. damage-means (pre_size form) (IsPreBy form) (pre_bytes_by form) (λ x. pre_at_by form x 0) (table_damage (pre_head form) (pre_tail form)) b k (pre-is_grammar form is) long small (sym (pre_damage-table form b) ∙ damaged)),
  (λ means. pre_damage-table form b ∙ means-damage (pre_size form) (IsPreBy form) (pre_bytes_by form) (λ x. pre_at_by form x 0) (table_damage (pre_head form) (pre_tail form)) b k (pre-is_grammar form is) long small means),
)

-- ---- the crash part

abbrev crash_head : List NumberField
crash_head = field 2 ((20, 500) ∷ []) ∷ []

abbrev crash_rest : CrashForm → ℕ → List FieldRow
crash_rest form end = axis_rows (point_count end) (axis_rows (point_count end) (last_rows form (window_from_end end) (max end (window_from_end end))))

abbrev crash_tail : CrashForm → List ℕ → List NumberField
crash_tail form b = flat_map fields_of (crash_rest form (number_at b 0 2))

change-filled : IsFilled (field 2 ((0, 3_000) ∷ (62_536, 65_535) ∷ []))
change-filled = two_filled 2 0 3_000 62_536 65_535 (omega arith) (omega arith) (omega arith)

time-filled : (last : ℕ) → IsFilled (field 2 ((0, last) ∷ []))
time-filled last = one_filled 2 0 last (omega arith) (omega arith)

axis-filled : (count : ℕ) (rest : List FieldRow) → RowsFilled rest → RowsFilled (axis_rows count rest)
axis-filled count rest are = (time-filled 0, (change-filled, (time-filled 0, are)))

last-filled : (form : CrashForm) (window last : ℕ) → RowsFilled (last_rows form window last)
last-filled form window last = (
  change-filled,
  (
    time-filled window,
    (
      change-filled,
      (
        time-filled window,
        (
          two_filled 2 0 last 0xffff 0xffff (omega arith) (omega arith) (omega arith),
          (one_filled 1 0 0 (omega arith) (omega arith), tt),
        ),
      ),
    ),
  ),
)

crash_tail-size : (form : CrashForm) (end : ℕ) → fields_size (flat_map fields_of (crash_rest form end)) ≡ 134 + form.zeros
crash_tail-size form end =
    let some = points-some end in
    let few = points-few end in
    fields_size-rows (crash_rest form end) ∙ sizes (point_count end) (window_from_end end) (max end (window_from_end end)) some few where
      sizes : (count window last : ℕ) → 1 ≤ count → count ≤ 26 → rows_size (axis_rows count (axis_rows count (last_rows form window last))) ≡ 134 + form.zeros
      sizes count window last some few = omega arith

pub crash_fields-size : (form : CrashForm) (end : ℕ) → fields_size (crash_fields_by form end) ≡ crash_size form
crash_fields-size form end = sym (ap fields_size (crash_table-fields form end)) ∙ ap (λ (n : ℕ). 2 + n) (crash_tail-size form end) ∙ (let e : 2 + (134 + form.zeros) ≡ crash_size form = omega arith in e)

crash-is_table : (form : CrashForm) → IsTable (crash_size form) crash_head (crash_tail form)
crash-is_table form = record {
  head_filled = (one_filled 2 20 500 (omega arith) (omega arith), tt);
  tail_filled = λ b.
      (let end = number_at b 0 2 in
      let count = point_count end in
      let window = window_from_end end in
      let last = last_rows form window (max end window) in
      rows-filled (crash_rest form end) (axis-filled count (axis_rows count last) (axis-filled count last (last-filled form window (max end window)))));
  told = λ b c same.
      ap (λ (n : ℕ). flat_map fields_of (crash_rest form n)) (let e : number_at b 0 2 ≡ number_at c 0 2 = ap₂ (λ (x y : ℕ). x * 256 + (y * 1 + 0)) (same 0 (omega arith)) (same 1 (omega arith)) in e);
  sizes = λ b. ap (λ (n : ℕ). fields_size crash_head + n) (crash_tail-size form (number_at b 0 2)) ∙ (let e : 2 + (134 + form.zeros) ≡ crash_size form = omega arith in e);
}

crash_damage-table : (form : CrashForm) (b : List ℕ) → crash_damage_by form b 0 ≡ table_damage crash_head (crash_tail form) b
unfolding crash_damage_by
crash_damage-table form b = ap (λ (fs : List NumberField). damage_of_fields b 0 fs) (sym (crash_table-fields form (number_at b 0 2)))

crash-is_grammar : (form : CrashForm) → IsGrammar (crash_size form) IsCrash (crash_bytes_by form) (λ b. crash_at b 0) (table_damage crash_head (crash_tail form))
crash-is_grammar form = record {
  same = λ b c k damaged same. table-same (crash_size form) crash_head (crash_tail form) b c k (crash-is_table form) damaged same;
  complete = λ b k long small damaged. table-complete (crash_size form) crash_head (crash_tail form) (crash_size form) b k (crash-is_table form) long small damaged (omega arith);
  read_back = λ p is. sym (crash_damage-table form (crash_bytes_by form p)) ∙ (crash-read_back form p is).1;
  written = λ b long small whole.
      (let whole' = crash_damage-table form b ∙ whole in
      (crash_at-is form b whole', sym (crash-written form b long (small-bytes b small) whole')));
}

pub crash_damage-means : (form : CrashForm) (b : List ℕ) (k : ℕ) → length b ≡ crash_size form → AreSmall b → (crash_damage_by form b 0 ≡ Some k) ↔ IsDamagedAt (BeginsCrashBy form b) k
crash_damage-means form b k long small = (
  (λ damaged. damage-means (crash_size form) IsCrash (crash_bytes_by form) (λ x. crash_at x 0) (table_damage crash_head (crash_tail form)) b k (crash-is_grammar form) long small (sym (crash_damage-table form b) ∙ damaged)),
  (λ means. crash_damage-table form b ∙ means-damage (crash_size form) IsCrash (crash_bytes_by form) (λ x. crash_at x 0) (table_damage crash_head (crash_tail form)) b k (crash-is_grammar form) long small means),
)

-- ---- where damage may lie

pub pre_damage-within : (form : PreForm) → IsPreForm form → (b : List ℕ) (k : ℕ) → pre_damage_by form b 0 ≡ Some k → k < pre_size form
pre_damage-within form is b k damaged = table-within (pre_size form) (pre_head form) (pre_tail form) b k (pre-is_table form is) (sym (pre_damage-table form b) ∙ damaged)

pub crash_damage-within : (form : CrashForm) (b : List ℕ) (k : ℕ) → crash_damage_by form b 0 ≡ Some k → k < crash_size form
crash_damage-within form b k damaged = table-within (crash_size form) crash_head (crash_tail form) b k (crash-is_table form) (sym (crash_damage-table form b) ∙ damaged)
