-- What whole bytes of a pre part say lies in the bounds of one.
use Rattle.std.proofs.Common.{◌≡◌, inl, inr, refl, sym, ap, ◌∙◌, ℕ, ◌+◌, ◌-◌, ◌*◌, ◌<◌, ◌≤◌, Bool, true, false, Option, Some, None, List, [], ◌∷◌, ◌++◌, length, map, replicate, slice_index, nat_eq, if◌then◌else◌, subst, append_assoc, append-nil, eq-eqb, arith}
use Rattle.std.specs.Prelude.{All}
use Rattle.std.specs.List.{flat_map, range_with_len}
use Rattle.std.proofs.lemmas.Bool.{cases_Bool}
use Rattle.std.proofs.lemmas.List.Elements.{All-map, All-from_get_or}
use Rattle.std.proofs.lemmas.List.FromFn.{length-map-range_with_len, get_or-map-range_with_len}
use Rattle.std.proofs.lemmas.Simd.{map-map}
use Rattle.edr_record.specs.Bounds.{IsPre, IsPreWithSlots, IsPlace, IsUpTo, slots_in}
use Rattle.edr_record.specs.Fields.{profile_of_slots, speed_of, throttle_of, brake_of, slots_with}
use Rattle.edr_record.specs.Parts.{PrePart}
use Rattle.edr_record.specs.declared.Place.{Place}
use Rattle.edr_record.specs.declared.Place.TheVariants.{First, Second}
use Rattle.edr_record.specs.declared.Profile.{Profile}
use Rattle.edr_record.specs.declared.Profile.TheVariants.{Short, Long}
use Rattle.edr_record.specs.declared.Slots.{Slots}
use Rattle.edr_image.specs.declared.forms.PreForm.{PreForm}
use Rattle.edr_image.specs.PartBytes.{NumberField, damage_of_fields, slots_of, profile_from, profile_byte, throttle_at, brake_at, belt_at, lamp_at, end_at, IsPreForm, HasProfile, HasSlots, IsPreBy, pre_fields_by, pre_damage_by, pre_at_by, number_at, numbers_at, unless, switch_from, switch_field}
use Rattle.edr_codec.specs.declared.rows.FieldRow.{FieldRow}
use Rattle.edr_codec.specs.Rows.{fields_of}
use Rattle.edr_codec.proofs.RowLemmas.{Lies, RowsLie, rows-lie}

-- fields whose numbers lie in one range, and in one of two
abbrev pub one_range : ℕ → ℕ → ℕ × ℕ → FieldRow
one_range count size values = record { count = count; size = size; values = values; others = None }

abbrev pub two_ranges : ℕ → ℕ → ℕ × ℕ → ℕ × ℕ → FieldRow
two_ranges count size values others = record { count = count; size = size; values = values; others = Some others }

-- ---- the table

-- the range of the time to the first event
abbrev pub after_range : Bool → ℕ × ℕ
after_range is_first = if is_first then (0, 0) else (1, 5_000)

-- the rows after the profile byte, with n slots in each list, by whether the event is the first of a crash
abbrev pub pre_rest : PreForm → ℕ → Bool → List FieldRow
pre_rest form n is_first =
    one_range 1 2 (after_range is_first)
    ∷ two_ranges n 2 (0, 300) (0xffff, 0xffff)
    ∷ one_range (2 * (form.room - n)) 1 (0, 0)
    ∷ two_ranges n 1 (0, 100) (0xff, 0xff)
    ∷ one_range (form.room - n) 1 (0, 0)
    ∷ two_ranges n 1 (0, 1) (0xff, 0xff)
    ∷ one_range (form.room - n) 1 (0, 0)
    ∷ two_ranges 2 1 (0, 1) (0xff, 0xff)
    ∷ one_range form.zeros 1 (0, 0)
    ∷ []

-- the rows of a pre part
abbrev pub pre_table : PreForm → ℕ → Bool → List FieldRow
pre_table form n is_first =
    one_range 1 4 (1, 4_294_967_295)
    ∷ one_range 1 4 (1, 86_400_000)
    ∷ one_range 1 1 (1, 2)
    ∷ one_range 1 1 (form.short.byte, form.long.byte)
    ∷ pre_rest form n is_first

-- the fields after the time to the first event, whichever way they are put together
regrouped : (a b c d e f g h : List NumberField) → a ++ (b ++ (c ++ (d ++ (e ++ (f ++ (g ++ (h ++ []))))))) ≡ (((((a ++ b) ++ c) ++ d) ++ e) ++ f) ++ (g ++ h)
regrouped a b c d e f g h = simp (append_assoc, append-nil)

pub pre_table-fields : (form : PreForm) (place profile : ℕ) → flat_map fields_of (pre_table form (slots_of form profile) (nat_eq place 1)) ≡ pre_fields_by form place profile
pre_table-fields form place profile =
    let n = slots_of form profile in
    let one = λ (size : ℕ) (values : ℕ × ℕ). (let f : NumberField = record { size = size; ranges = values ∷ [] } in f) in
    let two = λ (size : ℕ) (values others : ℕ × ℕ). (let f : NumberField = record { size = size; ranges = values ∷ others ∷ [] } in f) in
    ap (λ (fs : List NumberField). one 4 (1, 4_294_967_295) ∷ one 4 (1, 86_400_000) ∷ one 1 (1, 2) ∷ one 1 (form.short.byte, form.long.byte) ∷ one 2 (after_range (nat_eq place 1)) ∷ fs)
    (regrouped (replicate n (two 2 (0, 300) (0xffff, 0xffff))) (replicate (2 * (form.room - n)) (one 1 (0, 0))) (replicate n (two 1 (0, 100) (0xff, 0xff))) (replicate (form.room - n) (one 1 (0, 0)))
    (replicate n switch_field) (replicate (form.room - n) (one 1 (0, 0))) (switch_field ∷ switch_field ∷ []) (replicate form.zeros (one 1 (0, 0))))

-- whole bytes fit the table
pub pre-lie : (form : PreForm) (bytes : List ℕ) → pre_damage_by form bytes 0 ≡ None → RowsLie bytes 0 (pre_table form (slots_of form (slice_index bytes 9)) (nat_eq (slice_index bytes 8) 1))
unfolding pre_damage_by
pre-lie form bytes whole =
    let place = slice_index bytes 8 in
    let profile = slice_index bytes 9 in
    rows-lie bytes 0 (pre_table form (slots_of form profile) (nat_eq place 1)) refl
    (subst (λ (fs : List NumberField). damage_of_fields bytes 0 fs ≡ None) (sym (pre_table-fields form place profile)) whole)

-- ---- what the numbers are

abbrev pub switch_ranges : List (ℕ × ℕ)
switch_ranges = (0, 1) ∷ (0xff, 0xff) ∷ []

-- so many numbers of a size, one after the other, lie in ranges
abbrev pub AllLie : List (ℕ × ℕ) → List ℕ → ℕ → ℕ → ℕ → Type 0
AllLie ranges bytes at size n = (k : ℕ) → k < n → Lies ranges (number_at bytes (at + size * k) size)

-- the numbers of a pre part with n slots in each list
pub record PreLies (form : PreForm) (n : ℕ) (is_first : Bool) (bytes : List ℕ) : Type 0 where
  pub cycle : AllLie ((1, 4_294_967_295) ∷ []) bytes 0 4 1
  pub zero_tick : AllLie ((1, 86_400_000) ∷ []) bytes 4 4 1
  pub place : AllLie ((1, 2) ∷ []) bytes 8 1 1
  pub profile : AllLie ((form.short.byte, form.long.byte) ∷ []) bytes 9 1 1
  pub after : AllLie (after_range is_first ∷ []) bytes 10 2 1
  pub speed : AllLie ((0, 300) ∷ (0xffff, 0xffff) ∷ []) bytes 12 2 n
  pub past_speed : AllLie ((0, 0) ∷ []) bytes (12 + 2 * n) 1 (2 * (form.room - n))
  pub throttle : AllLie ((0, 100) ∷ (0xff, 0xff) ∷ []) bytes (throttle_at form) 1 n
  pub past_throttle : AllLie ((0, 0) ∷ []) bytes (throttle_at form + n) 1 (form.room - n)
  pub brake : AllLie switch_ranges bytes (brake_at form) 1 n
  pub past_brake : AllLie ((0, 0) ∷ []) bytes (brake_at form + n) 1 (form.room - n)
  pub switches : AllLie switch_ranges bytes (belt_at form) 1 2
  pub zeros : AllLie ((0, 0) ∷ []) bytes (end_at form) 1 form.zeros

moved : (ranges : List (ℕ × ℕ)) (bytes : List ℕ) (size n p q : ℕ) → p ≡ q → AllLie ranges bytes p size n → AllLie ranges bytes q size n
moved ranges bytes size n p q same lie = subst (λ (x : ℕ). AllLie ranges bytes x size n) same lie

pub pre-lies : (form : PreForm) (n : ℕ) (is_first : Bool) (bytes : List ℕ) → n ≤ form.room → RowsLie bytes 0 (pre_table form n is_first) → PreLies form n is_first bytes
pre-lies form n is_first bytes fits lie =
    let slots : List (ℕ × ℕ) = (0, 100) ∷ (0xff, 0xff) ∷ [] in
    let none : List (ℕ × ℕ) = (0, 0) ∷ [] in
    let rest = form.room - n in
    let lists = lie.1.1.1.1.1 in record {
      cycle = lie.0;
      zero_tick = lie.1.0;
      place = lie.1.1.0;
      profile = lie.1.1.1.0;
      after = lie.1.1.1.1.0;
      speed = lists.0;
      past_speed = lists.1.0;
      throttle = moved slots bytes 1 n (12 + 2 * n + 1 * (2 * rest)) (throttle_at form) (omega arith) lists.1.1.0;
      past_throttle = moved none bytes 1 rest (12 + 2 * n + 1 * (2 * rest) + 1 * n) (throttle_at form + n) (omega arith) lists.1.1.1.0;
      brake = moved switch_ranges bytes 1 n (12 + 2 * n + 1 * (2 * rest) + 1 * n + 1 * rest) (brake_at form) (omega arith) lists.1.1.1.1.0;
      past_brake = moved none bytes 1 rest (12 + 2 * n + 1 * (2 * rest) + 1 * n + 1 * rest + 1 * n) (brake_at form + n) (omega arith) lists.1.1.1.1.1.0;
      switches = moved switch_ranges bytes 1 2 (12 + 2 * n + 1 * (2 * rest) + 1 * n + 1 * rest + 1 * n + 1 * rest) (belt_at form) (omega arith) lists.1.1.1.1.1.1.0;
      zeros = moved none bytes 1 form.zeros (12 + 2 * n + 1 * (2 * rest) + 1 * n + 1 * rest + 1 * n + 1 * rest + 1 * 2) (end_at form) (omega arith) lists.1.1.1.1.1.1.1.0;
    }

pub pre-rows : (form : PreForm) (n : ℕ) (is_first : Bool) (bytes : List ℕ) → n ≤ form.room → PreLies form n is_first bytes → RowsLie bytes 0 (pre_table form n is_first)
pre-rows form n is_first bytes fits lies =
    let slots : List (ℕ × ℕ) = (0, 100) ∷ (0xff, 0xff) ∷ [] in
    let none : List (ℕ × ℕ) = (0, 0) ∷ [] in
    let rest = form.room - n in (
      lies.cycle,
      (
        lies.zero_tick,
        (
          lies.place,
          (
            lies.profile,
            (
              lies.after,
              (
                lies.speed,
                (
                  lies.past_speed,
                  (
                    moved slots bytes 1 n (throttle_at form) (12 + 2 * n + 1 * (2 * rest)) (omega arith) lies.throttle,
                    (
                      moved none bytes 1 rest (throttle_at form + n) (12 + 2 * n + 1 * (2 * rest) + 1 * n) (omega arith) lies.past_throttle,
                      (
                        moved switch_ranges bytes 1 n (brake_at form) (12 + 2 * n + 1 * (2 * rest) + 1 * n + 1 * rest) (omega arith) lies.brake,
                        (
                          moved none bytes 1 rest (brake_at form + n) (12 + 2 * n + 1 * (2 * rest) + 1 * n + 1 * rest + 1 * n) (omega arith) lies.past_brake,
                          (
                            moved switch_ranges bytes 1 2 (belt_at form) (12 + 2 * n + 1 * (2 * rest) + 1 * n + 1 * rest + 1 * n + 1 * rest) (omega arith) lies.switches,
                            (moved none bytes 1 form.zeros (end_at form) (12 + 2 * n + 1 * (2 * rest) + 1 * n + 1 * rest + 1 * n + 1 * rest + 1 * 2) (omega arith) lies.zeros, tt),
                          ),
                        ),
                      ),
                    ),
                  ),
                ),
              ),
            ),
          ),
        ),
      ),
    )

-- ---- the bounds

-- a number in the only range
pub in_range : (low high n : ℕ) → Lies ((low, high) ∷ []) n → (low ≤ n) × (n ≤ high)
in_range low high n (inl within) = within
in_range low high n (inr none) = absurd none

unless-up_to : (highest absent n : ℕ) → Lies ((0, highest) ∷ (absent, absent) ∷ []) n → IsUpTo highest (unless absent n)
unless-up_to highest absent n (inl here) = elim (cases_Bool (nat_eq n absent)) [ inl e ↦ rw e tt | inr e ↦ rw e here.1 ]
unless-up_to highest absent n (inr (inl there)) = rw (eq-eqb n absent (omega arith)) tt
unless-up_to highest absent n (inr (inr none)) = absurd none

-- slots or times that are absent, or at most a number
pub slots-up_to : (highest absent : ℕ) (bytes : List ℕ) (at size n : ℕ)
    → ((k : ℕ) → k < n → Lies ((0, highest) ∷ (absent, absent) ∷ []) (number_at bytes (at + size * k) size))
    → All (IsUpTo highest) (map (unless absent) (numbers_at bytes at size n))
slots-up_to highest absent bytes at size n lie =
    let number = λ (k : ℕ). number_at bytes (at + size * k) size in
    All-map (IsUpTo highest) (unless absent) (numbers_at bytes at size n)
    (All-from_get_or (λ (x : ℕ). IsUpTo highest (unless absent x)) (numbers_at bytes at size n) 0 (λ k within.
    let below : k < n = rw (length-map-range_with_len number 0 n) at within in
    rw (get_or-map-range_with_len number 0 n k k 0 below (omega arith)) (unless-up_to highest absent (number k) (lie k below))))

-- how many values are read
pub values-many : {X : Type 0} (bytes : List ℕ) (at size n : ℕ) (value : ℕ → X) → length (map value (numbers_at bytes at size n)) ≡ n
values-many bytes at size n value =
    let number = λ (k : ℕ). number_at bytes (at + size * k) size in
    ap length (map-map value number (range_with_len 0 n)) ∙ length-map-range_with_len (λ (k : ℕ). value (number k)) 0 n

-- parts of a profile of the form have n slots in each list, and are told by their profile byte
pub record IsProfile (form : PreForm) (n : ℕ) (profile : Profile) : Type 0 where
  pub fits : n ≤ form.room
  pub from : form.short.byte ≤ profile_byte form profile
  pub to : profile_byte form profile ≤ form.long.byte
  pub byte : profile_byte form profile < 256
  pub back : slots_of form (profile_byte form profile) ≡ n
  pub told : HasProfile form profile

-- the profile of bytes
pub profile-is : (form : PreForm) (profile : ℕ) → IsPreForm form → form.short.byte ≤ profile → profile ≤ form.long.byte → IsProfile form (slots_of form profile) (profile_from form profile)
profile-is form profile is low high =
    let told : profile_byte form (profile_from form profile) ≡ profile = is.told profile low high in
    let top = is.byte in
    record {
      fits = is.room profile;
      from = subst (λ (b : ℕ). form.short.byte ≤ b) (sym told) low;
      to = subst (λ (b : ℕ). b ≤ form.long.byte) (sym told) high;
      byte = subst (λ (b : ℕ). b < 256) (sym told) (omega arith);
      back = ap (slots_of form) told;
      told = ap (profile_from form) told;
    }

byte-from : (form : PreForm) (profile : Profile) → IsPreForm form → form.short.byte ≤ profile_byte form profile
byte-from form Short is = omega arith
byte-from form Long is = is.order

byte-to : (form : PreForm) (profile : Profile) → IsPreForm form → profile_byte form profile ≤ form.long.byte
byte-to form Short is = is.order
byte-to form Long is = omega arith

-- a profile by its byte
pub profile-has : (form : PreForm) (profile : Profile) → IsPreForm form → HasProfile form profile → IsProfile form (slots_of form (profile_byte form profile)) profile
profile-has form profile is has =
    subst (λ (p : Profile). IsProfile form (slots_of form (profile_byte form profile)) p) has
    (profile-is form (profile_byte form profile) is (byte-from form profile is) (byte-to form profile is))

-- parts with the slots of a profile
pub profile-by : (form : PreForm) (p : PrePart) → IsPreForm form → IsPreBy form p → IsProfile form (slots_of form (profile_byte form p.profile)) p.profile
profile-by form p is by = profile-has form p.profile is by.profile

pub by-profile : (form : PreForm) (n : ℕ) (p : PrePart) → IsProfile form n p.profile → IsPreWithSlots n p → IsPreBy form p
by-profile form n p in_form bounds = record {
  profile = in_form.told;
  bounds = subst (λ (m : ℕ). IsPreWithSlots m p) (sym in_form.back) bounds;
}

-- where each profile byte has the slots of its profile, these are the parts of records
pub record-slots : (form : PreForm) (profile : Profile) → IsPreForm form → HasSlots form → HasProfile form profile → slots_of form (profile_byte form profile) ≡ slots_in profile
record-slots form profile is slots has =
    slots (profile_byte form profile) (byte-from form profile is) (byte-to form profile is) ∙ ap slots_in has

pub record-profile : (form : PreForm) (profile : Profile) → IsPreForm form → HasSlots form → HasProfile form profile → IsProfile form (slots_in profile) profile
record-profile form profile is slots has =
    subst (λ (n : ℕ). IsProfile form n profile) (record-slots form profile is slots has) (profile-has form profile is has)

pub record-by : (form : PreForm) (p : PrePart) → IsPreForm form → HasSlots form → IsPre p → HasProfile form p.profile → IsPreBy form p
record-by form p is slots bounds has = by-profile form (slots_in p.profile) p (record-profile form p.profile is slots has) bounds

pub by-record : (form : PreForm) (p : PrePart) → IsPreForm form → HasSlots form → IsPreBy form p → IsPre p
by-record form p is slots by = subst (λ (m : ℕ). IsPreWithSlots m p) (record-slots form p.profile is slots by.profile) by.bounds

place-from : (is_first : Bool) (after : ℕ) → Lies (after_range is_first ∷ []) after → IsPlace (if is_first then First else Second after)
place-from true after lies = tt
place-from false after lies = in_range 1 5_000 after lies

-- the numbers of whole bytes
pub pre-whole : (form : PreForm) (bytes : List ℕ) → IsPreForm form → pre_damage_by form bytes 0 ≡ None → PreLies form (slots_of form (slice_index bytes 9)) (nat_eq (slice_index bytes 8) 1) bytes
pre-whole form bytes is whole =
    let profile = slice_index bytes 9 in
    pre-lies form (slots_of form profile) (nat_eq (slice_index bytes 8) 1) bytes (is.room profile) (pre-lie form bytes whole)

one_byte : (bytes : List ℕ) (at : ℕ) → number_at bytes at 1 ≡ slice_index bytes at
one_byte bytes at = let e : slice_index bytes at * 1 + 0 ≡ slice_index bytes at = omega arith in e

-- and their profile
pub pre-profile : (form : PreForm) (bytes : List ℕ) → IsPreForm form → pre_damage_by form bytes 0 ≡ None → (form.short.byte ≤ slice_index bytes 9) × (slice_index bytes 9 ≤ form.long.byte)
pre-profile form bytes is whole =
    in_range form.short.byte form.long.byte (slice_index bytes 9)
    (subst (λ (x : ℕ). Lies ((form.short.byte, form.long.byte) ∷ []) x) (one_byte bytes 9) ((pre-whole form bytes is whole).profile 0 (omega arith)))

pub pre_at-is : (form : PreForm) (bytes : List ℕ) → IsPreForm form → pre_damage_by form bytes 0 ≡ None → IsPreWithSlots (slots_of form (slice_index bytes 9)) (pre_at_by form bytes 0)
unfolding pre_at_by
pre_at-is form bytes is whole =
    let n = slots_of form (slice_index bytes 9) in
    let lies = pre-whole form bytes is whole in
    let cycle = in_range 1 4_294_967_295 (number_at bytes 0 4) (lies.cycle 0 (omega arith)) in
    let zero_tick = in_range 1 86_400_000 (number_at bytes 4 4) (lies.zero_tick 0 (omega arith)) in
    record {
      cycle_from = cycle.0;
      cycle_to = cycle.1;
      zero_from = zero_tick.0;
      zero_to = zero_tick.1;
      place = place-from (nat_eq (slice_index bytes 8) 1) (number_at bytes 10 2) (lies.after 0 (omega arith));
      speeds = values-many bytes 12 2 n (unless 0xffff);
      speed = slots-up_to 300 0xffff bytes 12 2 n lies.speed;
      throttles = values-many bytes (0 + throttle_at form) 1 n (unless 0xff);
      throttle = slots-up_to 100 0xff bytes (0 + throttle_at form) 1 n (moved ((0, 100) ∷ (0xff, 0xff) ∷ []) bytes 1 n (throttle_at form) (0 + throttle_at form) (omega arith) lies.throttle);
      brakes = values-many bytes (0 + brake_at form) 1 n switch_from;
    }

-- a part by its fields
abbrev pub part : ℕ → ℕ → Place → Profile → List (Option ℕ) → List (Option ℕ) → List (Option Bool) → Option Bool → Option Bool → PrePart
part cycle zero_tick place profile speed throttle brake belt lamp =
    record { key = record { cycle = cycle; zero = zero_tick }; place = place; profile = profile; speed = speed; throttle = throttle; brake = brake; belt = belt; lamp = lamp }

pub part-same : (c c' z z' : ℕ) (p p' : Place) (f f' : Profile) (s s' t t' : List (Option ℕ)) (b b' : List (Option Bool)) (belt belt' lamp lamp' : Option Bool)
    → c ≡ c' → z ≡ z' → p ≡ p' → f ≡ f' → s ≡ s' → t ≡ t' → b ≡ b' → belt ≡ belt' → lamp ≡ lamp' → part c z p f s t b belt lamp ≡ part c' z' p' f' s' t' b' belt' lamp'
part-same c c' z z' p p' f f' s s' t t' b b' belt belt' lamp lamp' e1 e2 e3 e4 e5 e6 e7 e8 e9 = cc

-- the values that are read, each at its place, are the pre part
pub pre_at-parts : (form : PreForm) (n : ℕ) (bytes : List ℕ) (cycle zero_tick : ℕ) (place : Place) (profile : Profile) (speed throttle : List (Option ℕ)) (brake : List (Option Bool)) (belt lamp : Option Bool)
    → slots_of form (slice_index bytes 9) ≡ n
    → cycle ≡ number_at bytes 0 4
    → zero_tick ≡ number_at bytes 4 4
    → place ≡ (if nat_eq (slice_index bytes 8) 1 then First else Second (number_at bytes 10 2))
    → profile ≡ profile_from form (slice_index bytes 9)
    → speed ≡ map (unless 0xffff) (numbers_at bytes 12 2 n)
    → throttle ≡ map (unless 0xff) (numbers_at bytes (throttle_at form) 1 n)
    → brake ≡ map switch_from (numbers_at bytes (brake_at form) 1 n)
    → belt ≡ switch_from (number_at bytes (belt_at form) 1)
    → lamp ≡ switch_from (number_at bytes (lamp_at form) 1)
    → part cycle zero_tick place profile speed throttle brake belt lamp ≡ pre_at_by form bytes 0
unfolding pre_at_by
pre_at-parts form n bytes cycle zero_tick place profile speed throttle brake belt lamp many e1 e2 e3 told e4 e5 e6 e7 e8 =
    let m = slots_of form (slice_index bytes 9) in
    let from = λ (i : ℕ). (let e : i ≡ 0 + i = omega arith in e) in
    let some = sym many in
    let speeds : speed ≡ map (unless 0xffff) (numbers_at bytes 12 2 m) = e4 ∙ ap (λ (k : ℕ). map (unless 0xffff) (numbers_at bytes 12 2 k)) some in
    let throttles : throttle ≡ map (unless 0xff) (numbers_at bytes (0 + throttle_at form) 1 m) =
    e5 ∙ ap (λ (k : ℕ). map (unless 0xff) (numbers_at bytes (throttle_at form) 1 k)) some ∙ ap (λ (i : ℕ). map (unless 0xff) (numbers_at bytes i 1 m)) (from (throttle_at form)) in
    let brakes : brake ≡ map switch_from (numbers_at bytes (0 + brake_at form) 1 m) =
    e6 ∙ ap (λ (k : ℕ). map switch_from (numbers_at bytes (brake_at form) 1 k)) some ∙ ap (λ (i : ℕ). map switch_from (numbers_at bytes i 1 m)) (from (brake_at form)) in
    let belt_is : belt ≡ switch_from (slice_index bytes (0 + belt_at form)) = e7 ∙ ap switch_from (one_byte bytes (belt_at form)) ∙ ap (λ (i : ℕ). switch_from (slice_index bytes i)) (from (belt_at form)) in
    let lamp_is : lamp ≡ switch_from (slice_index bytes (0 + lamp_at form)) = e8 ∙ ap switch_from (one_byte bytes (lamp_at form)) ∙ ap (λ (i : ℕ). switch_from (slice_index bytes i)) (from (lamp_at form)) in
    part-same cycle (number_at bytes 0 4) zero_tick (number_at bytes 4 4) place (if nat_eq (slice_index bytes 8) 1 then First else Second (number_at bytes 10 2))
    profile (profile_from form (slice_index bytes 9)) speed (map (unless 0xffff) (numbers_at bytes 12 2 m)) throttle (map (unless 0xff) (numbers_at bytes (0 + throttle_at form) 1 m)) brake (map switch_from (numbers_at bytes (0 + brake_at form) 1 m))
    belt (switch_from (slice_index bytes (0 + belt_at form))) lamp (switch_from (slice_index bytes (0 + lamp_at form))) e1 e2 e3 told speeds throttles brakes belt_is lamp_is

-- the part of n slots in each list that bytes say, each value at its place
abbrev pub read_part : PreForm → ℕ → List ℕ → PrePart
read_part form n bytes =
    part (number_at bytes 0 4) (number_at bytes 4 4) (if nat_eq (slice_index bytes 8) 1 then First else Second (number_at bytes 10 2)) (profile_from form (slice_index bytes 9))
    (map (unless 0xffff) (numbers_at bytes 12 2 n)) (map (unless 0xff) (numbers_at bytes (throttle_at form) 1 n)) (map switch_from (numbers_at bytes (brake_at form) 1 n))
    (switch_from (slice_index bytes (belt_at form))) (switch_from (slice_index bytes (lamp_at form)))

pub read_part-is : (form : PreForm) (bytes : List ℕ) → read_part form (slots_of form (slice_index bytes 9)) bytes ≡ pre_at_by form bytes 0
read_part-is form bytes =
    let n = slots_of form (slice_index bytes 9) in
    pre_at-parts form n bytes (number_at bytes 0 4) (number_at bytes 4 4) (if nat_eq (slice_index bytes 8) 1 then First else Second (number_at bytes 10 2)) (profile_from form (slice_index bytes 9))
    (map (unless 0xffff) (numbers_at bytes 12 2 n)) (map (unless 0xff) (numbers_at bytes (throttle_at form) 1 n)) (map switch_from (numbers_at bytes (brake_at form) 1 n))
    (switch_from (slice_index bytes (belt_at form))) (switch_from (slice_index bytes (lamp_at form)))
    refl refl refl refl refl refl refl refl
    (ap switch_from (sym (one_byte bytes (belt_at form)))) (ap switch_from (sym (one_byte bytes (lamp_at form))))

-- ---- the lists of a part, as the code has them

-- what slots with some lists say
pub profile-with : (profile : Profile) (speed throttle : List (Option ℕ)) (brake : List (Option Bool)) → profile_of_slots (slots_with profile speed throttle brake) ≡ profile
profile-with Short speed throttle brake = refl
profile-with Long speed throttle brake = refl

pub speed-with : (profile : Profile) (speed throttle : List (Option ℕ)) (brake : List (Option Bool)) → speed_of (slots_with profile speed throttle brake) ≡ speed
speed-with Short speed throttle brake = refl
speed-with Long speed throttle brake = refl

pub throttle-with : (profile : Profile) (speed throttle : List (Option ℕ)) (brake : List (Option Bool)) → throttle_of (slots_with profile speed throttle brake) ≡ throttle
throttle-with Short speed throttle brake = refl
throttle-with Long speed throttle brake = refl

pub brake-with : (profile : Profile) (speed throttle : List (Option ℕ)) (brake : List (Option Bool)) → brake_of (slots_with profile speed throttle brake) ≡ brake
brake-with Short speed throttle brake = refl
brake-with Long speed throttle brake = refl

-- the lists that are read, each at its place, are those of the pre part
pub slots-read : (form : PreForm) (bytes : List ℕ) (profile : Profile) (speed throttle : List (Option ℕ)) (brake : List (Option Bool))
    → slots_of form (slice_index bytes 9) ≡ slots_in (profile_from form (slice_index bytes 9))
    → profile ≡ profile_from form (slice_index bytes 9)
    → speed ≡ map (unless 0xffff) (numbers_at bytes 12 2 (slots_in profile))
    → throttle ≡ map (unless 0xff) (numbers_at bytes (throttle_at form) 1 (slots_in profile))
    → brake ≡ map switch_from (numbers_at bytes (brake_at form) 1 (slots_in profile))
    → (let p = pre_at_by form bytes 0 in slots_with profile speed throttle brake ≡ slots_with p.profile p.speed p.throttle p.brake)
slots-read form bytes profile speed throttle brake many told e1 e2 e3 =
    ap (λ (p : PrePart). slots_with p.profile p.speed p.throttle p.brake)
    (pre_at-parts form (slots_in profile) bytes (number_at bytes 0 4) (number_at bytes 4 4) (if nat_eq (slice_index bytes 8) 1 then First else Second (number_at bytes 10 2)) profile speed throttle brake
    (switch_from (number_at bytes (belt_at form) 1)) (switch_from (number_at bytes (lamp_at form) 1))
    (many ∙ ap slots_in (sym told)) refl refl refl told e1 e2 e3 refl refl)

-- with them, the other values that are read are the pre part
pub pre-read : (form : PreForm) (bytes : List ℕ) (cycle zero_tick : ℕ) (place : Place) (slots : Slots) (belt lamp : Option Bool)
    → cycle ≡ number_at bytes 0 4
    → zero_tick ≡ number_at bytes 4 4
    → place ≡ (if nat_eq (slice_index bytes 8) 1 then First else Second (number_at bytes 10 2))
    → (let p = pre_at_by form bytes 0 in slots ≡ slots_with p.profile p.speed p.throttle p.brake)
    → belt ≡ switch_from (number_at bytes (belt_at form) 1)
    → lamp ≡ switch_from (number_at bytes (lamp_at form) 1)
    → part cycle zero_tick place (profile_of_slots slots) (speed_of slots) (throttle_of slots) (brake_of slots) belt lamp ≡ pre_at_by form bytes 0
pre-read form bytes cycle zero_tick place slots belt lamp e1 e2 e3 lists e4 e5 =
    let p = pre_at_by form bytes 0 in
    let read = read_part-is form bytes in
    part-same cycle p.key.cycle zero_tick p.key.zero place p.place (profile_of_slots slots) p.profile (speed_of slots) p.speed (throttle_of slots) p.throttle (brake_of slots) p.brake belt p.belt lamp p.lamp
    (e1 ∙ ap (λ (q : PrePart). q.key.cycle) read)
    (e2 ∙ ap (λ (q : PrePart). q.key.zero) read)
    (e3 ∙ ap (λ (q : PrePart). q.place) read)
    (ap profile_of_slots lists ∙ profile-with p.profile p.speed p.throttle p.brake)
    (ap speed_of lists ∙ speed-with p.profile p.speed p.throttle p.brake)
    (ap throttle_of lists ∙ throttle-with p.profile p.speed p.throttle p.brake)
    (ap brake_of lists ∙ brake-with p.profile p.speed p.throttle p.brake)
    (e4 ∙ ap switch_from (one_byte bytes (belt_at form)) ∙ ap (λ (q : PrePart). q.belt) read)
    (e5 ∙ ap switch_from (one_byte bytes (lamp_at form)) ∙ ap (λ (q : PrePart). q.lamp) read)
