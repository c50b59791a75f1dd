-- A pre part that was put is read back, and one that is read is put back as the same bytes.
use Rattle.std.proofs.Common.{◌≡◌, inl, inr, refl, sym, ap, ◌∙◌, ℕ, ◌+◌, ◌-◌, ◌*◌, ◌%◌, ◌<◌, ◌≤◌, Bool, true, false, Option, None, List, [], ◌∷◌, ◌++◌, length, map, take, drop, replicate, get_or, slice_index, nat_eq, if◌then◌else◌, subst, append_assoc, append-nil, arith}
use Rattle.std.proofs.lemmas.Bool.{cases_lt, eqb-true, eqb-false}
use Rattle.std.proofs.lemmas.List.{length-replicate}
use Rattle.std.proofs.lemmas.List.Concat.{flat_map_single}
use Rattle.std.specs.Prelude.{All}
use Rattle.std.specs.List.{flat_map}
use Rattle.byteorder.specs.Endian.{big_bytes}
use Rattle.edr_record.specs.Parts.{PrePart}
use Rattle.edr_record.specs.Bounds.{IsPlace, IsPreWithSlots, IsUpTo}
use Rattle.edr_record.specs.declared.Place.{Place}
use Rattle.edr_record.specs.declared.Place.TheVariants.{First, Second}
use Rattle.edr_image.specs.declared.forms.PreForm.{PreForm}
use Rattle.edr_image.specs.PartBytes.{NumberField, damage_of_fields, slots_of, profile_from, profile_byte, throttle_at, brake_at, belt_at, lamp_at, end_at, pre_size, IsPreForm, pre_fields_by, pre_damage_by, pre_at_by, pre_bytes_by, pre_bytes_with, place_bytes, number_at, numbers_at, unless, switch_from, slot_bytes, switch_byte}
use Rattle.edr_codec.specs.Rows.{fields_of}
use Rattle.edr_codec.proofs.RowLemmas.{AreBytes, Lies, rows-whole}
use Rattle.edr_codec.proofs.NumberLemmas.{number-stands, number-put}
use Rattle.edr_codec.proofs.PieceLemmas
use Rattle.edr_codec.proofs.PreLemmas.{AllLie, PreLies, IsProfile, pre_table, pre_table-fields, pre-whole, pre-profile, pre-rows, in_range, after_range, switch_ranges, pre_at-is, pre_at-parts, read_part, read_part-is}
use Rattle.edr_codec.proofs.PutLemmas.{pre-put}

-- ---- what is read is put back

-- a place and what stands with it
place-written : (is_first : Bool) (place profile after : ℕ) → is_first ≡ nat_eq place 1 → (1 ≤ place) × (place ≤ 2) → profile < 256 → Lies (after_range is_first ∷ []) after
    → (big_bytes 1 place ++ big_bytes 1 profile) ++ big_bytes 2 after ≡ place_bytes profile (if is_first then First else Second after)
place-written true place profile after is range byte lies =
    let one : place ≡ 1 = eqb-true place 1 (sym is) in
    let no : after ≡ 0 = PieceLemmas.only_zero after lies in
    let small : profile % 256 ≡ profile = omega arith in
    rw (one, no, small) refl
place-written false place profile after is range byte lies =
    let two : place ≡ 2 = let other = eqb-false place 1 (sym is) in omega arith in
    let small : profile % 256 ≡ profile = omega arith in
    rw (two, small) refl

place-stands : (form : PreForm) (n : ℕ) (bytes : List ℕ) → 12 ≤ length bytes → AreBytes bytes → PreLies form n (nat_eq (slice_index bytes 8) 1) bytes
    → take 12 bytes ≡ take 8 bytes ++ place_bytes (slice_index bytes 9) (if nat_eq (slice_index bytes 8) 1 then First else Second (number_at bytes 10 2))
place-stands form n bytes long are lies =
    let b1 : List ℕ = big_bytes 1 (number_at bytes 8 1) in
    let b2 : List ℕ = big_bytes 1 (number_at bytes 9 1) in
    let b3 : List ℕ = big_bytes 2 (number_at bytes 10 2) in
    number-stands bytes 10 2 are (omega arith)
    ∙ ap (λ (xs : List ℕ). xs ++ b3) (number-stands bytes 9 1 are (omega arith) ∙ ap (λ (xs : List ℕ). xs ++ b2) (number-stands bytes 8 1 are (omega arith)))
    ∙ ap (λ (xs : List ℕ). xs ++ b3) (append_assoc (take 8 bytes) b1 b2)
    ∙ append_assoc (take 8 bytes) (b1 ++ b2) b3
    ∙ ap (λ (xs : List ℕ). take 8 bytes ++ xs)
    (ap (λ (n : ℕ). (b1 ++ big_bytes 1 n) ++ b3) (PieceLemmas.byte-is bytes 9)
    ∙ place-written (nat_eq (slice_index bytes 8) 1) (number_at bytes 8 1) (slice_index bytes 9) (number_at bytes 10 2)
    (ap (λ (n : ℕ). nat_eq n 1) (sym (PieceLemmas.byte-is bytes 8)))
    (in_range 1 2 (number_at bytes 8 1) (lies.place 0 (omega arith)))
    (are 9)
    (lies.after 0 (omega arith)))

-- zeros from one place up to another
zeros-between : (bytes : List ℕ) (at n to : ℕ) → AreBytes bytes → to ≤ length bytes → at + n ≡ to → AllLie ((0, 0) ∷ []) bytes at 1 n → take to bytes ≡ take at bytes ++ replicate n 0
zeros-between bytes at n to are room up lie =
    let e : at + 1 * n ≡ to = omega arith in
    ap (λ (i : ℕ). take i bytes) (sym e) ∙ PieceLemmas.zeros-stand bytes at n are (omega arith) lie

-- values from one place up to another
values-between : {X : Type 0} (bytes : List ℕ) (at n to : ℕ) (value : ℕ → X) (bytes_of : X → List ℕ) → AreBytes bytes → to ≤ length bytes → at + n ≡ to
    → ((k : ℕ) → k < n → bytes_of (value (number_at bytes (at + 1 * k) 1)) ≡ big_bytes 1 (number_at bytes (at + 1 * k) 1))
    → take to bytes ≡ take at bytes ++ flat_map bytes_of (map value (numbers_at bytes at 1 n))
values-between bytes at n to value bytes_of are room up is =
    let e : at + 1 * n ≡ to = omega arith in
    ap (λ (i : ℕ). take i bytes) (sym e) ∙ PieceLemmas.values-stand bytes at 1 n value bytes_of are (omega arith) is

switch-between : (bytes : List ℕ) (at to : ℕ) → AreBytes bytes → to ≤ length bytes → at + 1 ≡ to → Lies switch_ranges (number_at bytes at 1)
    → take to bytes ≡ take at bytes ++ switch_byte (switch_from (slice_index bytes at)) ∷ []
switch-between bytes at to are room up lies = ap (λ (i : ℕ). take i bytes) (sym up) ∙ PieceLemmas.switch-stands bytes at are (omega arith) lies

pub pre-written : (form : PreForm) (bytes : List ℕ) → IsPreForm form → length bytes ≡ pre_size form → AreBytes bytes → pre_damage_by form bytes 0 ≡ None
    → bytes ≡ pre_bytes_by form (pre_at_by form bytes 0)
pre-written form bytes is long are whole =
    let profile = slice_index bytes 9 in
    let n = slots_of form profile in
    let fits = is.room profile in
    let within = pre-profile form bytes is whole in
    let same : profile_byte form (profile_from form profile) ≡ profile = is.told profile within.0 within.1 in
    let lies = pre-whole form bytes is whole in
    let first = nat_eq (slice_index bytes 8) 1 in
    let lamp : belt_at form + 1 * 1 ≡ lamp_at form = omega arith in
    let belt : belt_at form + 1 * 0 ≡ belt_at form = omega arith in
    let read = read_part-is form bytes in
    subst (λ (p : PrePart). bytes ≡ pre_bytes_by form p) read
    (pre-put form n (read_part form n bytes) bytes bytes bytes bytes bytes bytes bytes bytes bytes bytes bytes bytes (subst (λ (p : PrePart). IsPreWithSlots n p) (sym read) (pre_at-is form bytes is whole)) fits long
    (number-stands bytes 0 4 are (omega arith))
    (number-stands bytes 4 4 are (omega arith))
    (place-stands form n bytes (omega arith) are lies ∙ ap (λ (b : ℕ). take 8 bytes ++ place_bytes b (if first then First else Second (number_at bytes 10 2))) (sym same))
    (PieceLemmas.values-stand bytes 12 2 n (unless 0xffff) (slot_bytes 2) are (omega arith) (λ k below. PieceLemmas.slot-number 2 300 0xffff (number_at bytes (12 + 2 * k) 2) (omega arith) refl (lies.speed k below)))
    (zeros-between bytes (12 + 2 * n) (2 * (form.room - n)) (throttle_at form) are (omega arith) (omega arith) lies.past_speed)
    (values-between bytes (throttle_at form) n (throttle_at form + n) (unless 0xff) (slot_bytes 1) are (omega arith) refl
    (λ k below. PieceLemmas.slot-number 1 100 0xff (number_at bytes (throttle_at form + 1 * k) 1) (omega arith) refl (lies.throttle k below)))
    (zeros-between bytes (throttle_at form + n) (form.room - n) (brake_at form) are (omega arith) (omega arith) lies.past_throttle)
    (values-between bytes (brake_at form) n (brake_at form + n) switch_from (λ s. switch_byte s ∷ []) are (omega arith) refl
    (λ k below. PieceLemmas.switch-piece (number_at bytes (brake_at form + 1 * k) 1) (lies.brake k below)))
    (zeros-between bytes (brake_at form + n) (form.room - n) (belt_at form) are (omega arith) (omega arith) lies.past_brake)
    (switch-between bytes (belt_at form) (lamp_at form) are (omega arith) (omega arith) (subst (λ (i : ℕ). Lies switch_ranges (number_at bytes i 1)) belt (lies.switches 0 (omega arith))))
    (switch-between bytes (lamp_at form) (end_at form) are (omega arith) (omega arith) (subst (λ (i : ℕ). Lies switch_ranges (number_at bytes i 1)) lamp (lies.switches 1 (omega arith))))
    (zeros-between bytes (end_at form) form.zeros (pre_size form) are (omega arith) (omega arith) lies.zeros))

-- ---- what is put is read back

abbrev pub place_code : Place → ℕ
place_code First = 1
place_code (Second after) = 2

abbrev pub after_code : Place → ℕ
after_code First = 0
after_code (Second after) = after

place_bytes-are : (profile : ℕ) (place : Place) → profile < 256 → place_bytes profile place ≡ big_bytes 1 (place_code place) ++ (big_bytes 1 profile ++ big_bytes 2 (after_code place))
place_bytes-are profile First byte = let small : profile % 256 ≡ profile = omega arith in rw small refl
place_bytes-are profile (Second after) byte = let small : profile % 256 ≡ profile = omega arith in rw small refl

after-small : (place : Place) → IsPlace place → after_code place < 65_536
after-small First is = omega arith
after-small (Second after) is = omega arith

place-small : (place : Place) → place_code place < 256
place-small First = omega arith
place-small (Second after) = omega arith

-- the numbers of the fields of a pre part with n slots in each list
pub record PreNumbers (form : PreForm) (n : ℕ) (bytes : List ℕ) (p : PrePart) : Type 0 where
  pub cycle : number_at bytes 0 4 ≡ p.key.cycle
  pub zero_tick : number_at bytes 4 4 ≡ p.key.zero
  pub place : number_at bytes 8 1 ≡ place_code p.place
  pub profile : number_at bytes 9 1 ≡ profile_byte form p.profile
  pub after : number_at bytes 10 2 ≡ after_code p.place
  pub speed : (k : ℕ) → k < n → number_at bytes (12 + 2 * k) 2 ≡ PieceLemmas.slot_code 0xffff (get_or p.speed k None)
  pub past_speed : (k : ℕ) → k < 2 * (form.room - n) → number_at bytes (12 + 2 * n + 1 * k) 1 ≡ 0
  pub throttle : (k : ℕ) → k < n → number_at bytes (throttle_at form + 1 * k) 1 ≡ PieceLemmas.slot_code 0xff (get_or p.throttle k None)
  pub past_throttle : (k : ℕ) → k < form.room - n → number_at bytes (throttle_at form + n + 1 * k) 1 ≡ 0
  pub brake : (k : ℕ) → k < n → number_at bytes (brake_at form + 1 * k) 1 ≡ switch_byte (get_or p.brake k None)
  pub past_brake : (k : ℕ) → k < form.room - n → number_at bytes (brake_at form + n + 1 * k) 1 ≡ 0
  pub belt : number_at bytes (belt_at form) 1 ≡ switch_byte p.belt
  pub lamp : number_at bytes (lamp_at form) 1 ≡ switch_byte p.lamp
  pub zeros : (k : ℕ) → k < form.zeros → number_at bytes (end_at form + 1 * k) 1 ≡ 0

-- pieces one after the other, whichever way they are put together
nested : (a b c d e f g h i j : List ℕ) → ((((((((a ++ b) ++ c) ++ d) ++ e) ++ f) ++ g) ++ h) ++ i) ++ j ≡ a ++ (b ++ (c ++ (d ++ (e ++ (f ++ (g ++ (h ++ (i ++ j))))))))
nested a b c d e f g h i j = simp append_assoc

-- what stands after zeros, at a place
past-zeros : (bytes rest : List ℕ) (at n to : ℕ) → at + n ≡ to → drop at bytes ≡ replicate n 0 ++ rest → drop to bytes ≡ rest
past-zeros bytes rest at n to up stands =
    ap (λ (i : ℕ). drop i bytes) (sym up) ∙ PieceLemmas.past-piece bytes (replicate n 0) rest at n stands (length-replicate n 0)

-- what stands after values of a byte each
past-bytes : {X : Type 0} (bytes rest : List ℕ) (at n : ℕ) (bytes_of : X → List ℕ) (code : X → ℕ) (xs : List X) → All (PieceLemmas.IsCoded 1 bytes_of code) xs → length xs ≡ n
    → drop at bytes ≡ flat_map bytes_of xs ++ rest → drop (at + n) bytes ≡ rest
past-bytes bytes rest at n bytes_of code xs coded many stands =
    PieceLemmas.past-piece bytes (flat_map bytes_of xs) rest at n stands
    (PieceLemmas.length-pieces 1 bytes_of code xs coded ∙ ap (λ (i : ℕ). 1 * i) many ∙ (let e : 1 * n ≡ n = omega arith in e))

pub pre-numbers : (form : PreForm) (n : ℕ) (bytes : List ℕ) (p : PrePart) → IsPreWithSlots n p → IsProfile form n p.profile → bytes ≡ pre_bytes_by form p → PreNumbers form n bytes p
unfolding pre_bytes_by
pre-numbers form n bytes p is in_form put =
    let fits = in_form.fits in
    let rest = form.room - n in
    let cycle : List ℕ = big_bytes 4 p.key.cycle in
    let zero_tick : List ℕ = big_bytes 4 p.key.zero in
    let profile = profile_byte form p.profile in
    let place : List ℕ = place_bytes profile p.place in
    let speeds : List ℕ = flat_map (slot_bytes 2) p.speed in
    let throttles : List ℕ = flat_map (slot_bytes 1) p.throttle in
    let brakes : List ℕ = flat_map (λ s. switch_byte s ∷ []) p.brake in
    let gap : List ℕ = replicate (2 * rest) 0 in
    let hole : List ℕ = replicate rest 0 in
    let zeros : List ℕ = replicate form.zeros 0 in
    let r_belt : List ℕ = switch_byte p.belt ∷ switch_byte p.lamp ∷ zeros in
    let r_brake : List ℕ = brakes ++ (hole ++ r_belt) in
    let r_throttle : List ℕ = throttles ++ (hole ++ r_brake) in
    let r_speed : List ℕ = speeds ++ (gap ++ r_throttle) in
    let speed_coded = PieceLemmas.slots-coded 2 300 0xffff p.speed (omega arith) (omega arith) refl is.speed in
    let throttle_coded = PieceLemmas.slots-coded 1 100 0xff p.throttle (omega arith) (omega arith) refl is.throttle in
    let brake_coded = PieceLemmas.switches-coded p.brake in
    let put' : bytes ≡ pre_bytes_with form n p = put ∙ ap (λ (m : ℕ). pre_bytes_with form m p) is.speeds in
    let s0 : bytes ≡ cycle ++ (zero_tick ++ (place ++ r_speed)) =
    put' ∙ nested cycle zero_tick place speeds gap throttles hole (map switch_byte p.brake) hole r_belt
    ∙ ap (λ (xs : List ℕ). cycle ++ (zero_tick ++ (place ++ (speeds ++ (gap ++ (throttles ++ (hole ++ (xs ++ (hole ++ r_belt))))))))) (sym (flat_map_single switch_byte p.brake)) in
    let s4 = PieceLemmas.past-piece bytes cycle (zero_tick ++ (place ++ r_speed)) 0 4 s0 refl in
    let s8 : drop 8 bytes ≡ big_bytes 1 (place_code p.place) ++ (big_bytes 1 profile ++ (big_bytes 2 (after_code p.place) ++ r_speed)) =
    PieceLemmas.past-piece bytes zero_tick (place ++ r_speed) 4 4 s4 refl ∙ ap (λ (xs : List ℕ). xs ++ r_speed) (place_bytes-are profile p.place in_form.byte) in
    let s9 = PieceLemmas.past-piece bytes (big_bytes 1 (place_code p.place)) (big_bytes 1 profile ++ (big_bytes 2 (after_code p.place) ++ r_speed)) 8 1 s8 refl in
    let s10 = PieceLemmas.past-piece bytes (big_bytes 1 profile) (big_bytes 2 (after_code p.place) ++ r_speed) 9 1 s9 refl in
    let s12 = PieceLemmas.past-piece bytes (big_bytes 2 (after_code p.place)) r_speed 10 2 s10 refl in
    let s_gap = PieceLemmas.past-piece bytes speeds (gap ++ r_throttle) 12 (2 * n) s12 (PieceLemmas.length-pieces 2 (slot_bytes 2) (PieceLemmas.slot_code 0xffff) p.speed speed_coded ∙ ap (λ (i : ℕ). 2 * i) is.speeds) in
    let s_throttle = past-zeros bytes r_throttle (12 + 2 * n) (2 * rest) (throttle_at form) (omega arith) s_gap in
    let s_hole = past-bytes bytes (hole ++ r_brake) (throttle_at form) n (slot_bytes 1) (PieceLemmas.slot_code 0xff) p.throttle throttle_coded is.throttles s_throttle in
    let s_brake = past-zeros bytes r_brake (throttle_at form + n) rest (brake_at form) (omega arith) s_hole in
    let s_last = past-bytes bytes (hole ++ r_belt) (brake_at form) n (λ s. switch_byte s ∷ []) switch_byte p.brake brake_coded is.brakes s_brake in
    let s_belt = past-zeros bytes r_belt (brake_at form + n) rest (belt_at form) (omega arith) s_last in
    let s_lamp : drop (lamp_at form) bytes ≡ switch_byte p.lamp ∷ zeros =
    ap (λ (i : ℕ). drop i bytes) (let e : lamp_at form ≡ belt_at form + 1 = omega arith in e) ∙ PieceLemmas.past-piece bytes (switch_byte p.belt ∷ []) (switch_byte p.lamp ∷ zeros) (belt_at form) 1 s_belt refl in
    let s_end : drop (end_at form) bytes ≡ zeros =
    ap (λ (i : ℕ). drop i bytes) (let e : end_at form ≡ lamp_at form + 1 = omega arith in e) ∙ PieceLemmas.past-piece bytes (switch_byte p.lamp ∷ []) zeros (lamp_at form) 1 s_lamp refl in
    record {
      cycle = number-put bytes (zero_tick ++ (place ++ r_speed)) 0 4 p.key.cycle s0 (let h = is.cycle_to in omega arith);
      zero_tick = number-put bytes (place ++ r_speed) 4 4 p.key.zero s4 (let h = is.zero_to in omega arith);
      place = number-put bytes (big_bytes 1 profile ++ (big_bytes 2 (after_code p.place) ++ r_speed)) 8 1 (place_code p.place) s8 (place-small p.place);
      profile = number-put bytes (big_bytes 2 (after_code p.place) ++ r_speed) 9 1 profile s9 in_form.byte;
      after = number-put bytes r_speed 10 2 (after_code p.place) s10 (after-small p.place is.place);
      speed = λ k below. PieceLemmas.numbers-put bytes (gap ++ r_throttle) 12 2 (slot_bytes 2) (PieceLemmas.slot_code 0xffff) p.speed speed_coded s12 k None (let h = is.speeds in omega arith);
      past_speed = PieceLemmas.zeros-put bytes r_throttle (12 + 2 * n) (2 * rest) s_gap;
      throttle = λ k below. PieceLemmas.numbers-put bytes (hole ++ r_brake) (throttle_at form) 1 (slot_bytes 1) (PieceLemmas.slot_code 0xff) p.throttle throttle_coded s_throttle k None (let h = is.throttles in omega arith);
      past_throttle = PieceLemmas.zeros-put bytes r_brake (throttle_at form + n) rest s_hole;
      brake = λ k below. PieceLemmas.numbers-put bytes (hole ++ r_belt) (brake_at form) 1 (λ s. switch_byte s ∷ []) switch_byte p.brake brake_coded s_brake k None (let h = is.brakes in omega arith);
      past_brake = PieceLemmas.zeros-put bytes r_belt (brake_at form + n) rest s_last;
      belt = number-put bytes (switch_byte p.lamp ∷ zeros) (belt_at form) 1 (switch_byte p.belt) (s_belt ∙ ap (λ (xs : List ℕ). xs ++ (switch_byte p.lamp ∷ zeros)) (PieceLemmas.switch-coded p.belt).bytes) (PieceLemmas.switch-coded p.belt).fits;
      lamp = number-put bytes zeros (lamp_at form) 1 (switch_byte p.lamp) (s_lamp ∙ ap (λ (xs : List ℕ). xs ++ zeros) (PieceLemmas.switch-coded p.lamp).bytes) (PieceLemmas.switch-coded p.lamp).fits;
      zeros = PieceLemmas.zeros-put bytes [] (end_at form) form.zeros (s_end ∙ sym (append-nil zeros));
    }

-- ---- the numbers lie in their ranges, and say the part

after-lies : (place : Place) (n after : ℕ) → IsPlace place → n ≡ place_code place → after ≡ after_code place → Lies (after_range (nat_eq n 1) ∷ []) after
after-lies First n after is same time = rw (same, time) (inl (omega arith, omega arith))
after-lies (Second a) n after is same time = rw (same, time) (inl is)

place-back : (place : Place) (n after : ℕ) → n ≡ place_code place → after ≡ after_code place → place ≡ (if nat_eq n 1 then First else Second after)
place-back First n after same time = rw same refl
place-back (Second a) n after same time = rw (same, time) refl

place-lies : (place : Place) → Lies ((1, 2) ∷ []) (place_code place)
place-lies First = inl (omega arith, omega arith)
place-lies (Second a) = inl (omega arith, omega arith)

-- the only number of a row
one-lies : (ranges : List (ℕ × ℕ)) (bytes : List ℕ) (at size n : ℕ) → number_at bytes at size ≡ n → Lies ranges n → AllLie ranges bytes at size 1
one-lies ranges bytes at size n is lies =
    PieceLemmas.only_one (λ k. Lies ranges (number_at bytes (at + size * k) size))
    (subst (λ (i : ℕ). Lies ranges (number_at bytes i size)) (let e : at ≡ at + size * 0 = omega arith in e) (PieceLemmas.lies-at ranges (number_at bytes at size) n is lies))

zeros-lie : (bytes : List ℕ) (at n : ℕ) → ((k : ℕ) → k < n → number_at bytes (at + 1 * k) 1 ≡ 0) → AllLie ((0, 0) ∷ []) bytes at 1 n
zeros-lie bytes at n are k below = PieceLemmas.lies-at ((0, 0) ∷ []) (number_at bytes (at + 1 * k) 1) 0 (are k below) PieceLemmas.lies-zero

slots-lie : (bytes : List ℕ) (at size n high absent : ℕ) (slots : List (Option ℕ)) → length slots ≡ n → All (IsUpTo high) slots
    → ((k : ℕ) → k < n → number_at bytes (at + size * k) size ≡ PieceLemmas.slot_code absent (get_or slots k None))
    → AllLie ((0, high) ∷ (absent, absent) ∷ []) bytes at size n
slots-lie bytes at size n high absent slots long up_to put k below =
    PieceLemmas.lies-at ((0, high) ∷ (absent, absent) ∷ []) (number_at bytes (at + size * k) size) (PieceLemmas.slot_code absent (get_or slots k None)) (put k below)
    (PieceLemmas.slot-lies high absent (get_or slots k None) (up_to k None (omega arith)))

-- belt and lamp
switches-lie : (form : PreForm) (n : ℕ) (bytes : List ℕ) (p : PrePart) → PreNumbers form n bytes p → AllLie switch_ranges bytes (belt_at form) 1 2
switches-lie form n bytes p are k below = elim (cases_lt k 1) [
  | inl belt ↦ PieceLemmas.lies-at switch_ranges (number_at bytes (belt_at form + 1 * k) 1) (switch_byte p.belt)
      (ap (λ (i : ℕ). number_at bytes i 1) (let e : belt_at form + 1 * k ≡ belt_at form = omega arith in e) ∙ are.belt) (PieceLemmas.switch-lies p.belt)
  | inr lamp ↦ PieceLemmas.lies-at switch_ranges (number_at bytes (belt_at form + 1 * k) 1) (switch_byte p.lamp)
      (ap (λ (i : ℕ). number_at bytes i 1) (let e : belt_at form + 1 * k ≡ lamp_at form = omega arith in e) ∙ are.lamp) (PieceLemmas.switch-lies p.lamp)
]

pub pre-numbers_lie : (form : PreForm) (n : ℕ) (bytes : List ℕ) (p : PrePart) → IsPreWithSlots n p → IsProfile form n p.profile → PreNumbers form n bytes p → PreLies form n (nat_eq (slice_index bytes 8) 1) bytes
pre-numbers_lie form n bytes p is in_form are =
    let place : slice_index bytes 8 ≡ place_code p.place = sym (PieceLemmas.byte-is bytes 8) ∙ are.place in
    let is_first = nat_eq (slice_index bytes 8) 1 in
    record {
      cycle = one-lies ((1, 4_294_967_295) ∷ []) bytes 0 4 p.key.cycle are.cycle (inl (is.cycle_from, is.cycle_to));
      zero_tick = one-lies ((1, 86_400_000) ∷ []) bytes 4 4 p.key.zero are.zero_tick (inl (is.zero_from, is.zero_to));
      place = one-lies ((1, 2) ∷ []) bytes 8 1 (place_code p.place) are.place (place-lies p.place);
      profile = one-lies ((form.short.byte, form.long.byte) ∷ []) bytes 9 1 (profile_byte form p.profile) are.profile (inl (in_form.from, in_form.to));
      after = one-lies (after_range is_first ∷ []) bytes 10 2 (number_at bytes 10 2) refl (after-lies p.place (slice_index bytes 8) (number_at bytes 10 2) is.place place are.after);
      speed = slots-lie bytes 12 2 n 300 0xffff p.speed is.speeds is.speed are.speed;
      past_speed = zeros-lie bytes (12 + 2 * n) (2 * (form.room - n)) are.past_speed;
      throttle = slots-lie bytes (throttle_at form) 1 n 100 0xff p.throttle is.throttles is.throttle are.throttle;
      past_throttle = zeros-lie bytes (throttle_at form + n) (form.room - n) are.past_throttle;
      brake = λ k below. PieceLemmas.lies-at switch_ranges (number_at bytes (brake_at form + 1 * k) 1) (switch_byte (get_or p.brake k None)) (are.brake k below) (PieceLemmas.switch-lies (get_or p.brake k None));
      past_brake = zeros-lie bytes (brake_at form + n) (form.room - n) are.past_brake;
      switches = switches-lie form n bytes p are;
      zeros = zeros-lie bytes (end_at form) form.zeros are.zeros;
    }

-- the profile byte
numbers-byte : (form : PreForm) (n : ℕ) (bytes : List ℕ) (p : PrePart) → PreNumbers form n bytes p → slice_index bytes 9 ≡ profile_byte form p.profile
numbers-byte form n bytes p are = sym (PieceLemmas.byte-is bytes 9) ∙ are.profile

-- with it each list has n slots
numbers-slots : (form : PreForm) (n : ℕ) (bytes : List ℕ) (p : PrePart) → IsProfile form n p.profile → PreNumbers form n bytes p → slots_of form (slice_index bytes 9) ≡ n
numbers-slots form n bytes p in_form are = ap (slots_of form) (numbers-byte form n bytes p are) ∙ in_form.back

pub pre-numbers_say : (form : PreForm) (n : ℕ) (bytes : List ℕ) (p : PrePart) → IsPreWithSlots n p → IsProfile form n p.profile → PreNumbers form n bytes p → pre_at_by form bytes 0 ≡ p
pre-numbers_say form n bytes p is in_form are =
    let place : slice_index bytes 8 ≡ place_code p.place = sym (PieceLemmas.byte-is bytes 8) ∙ are.place in
    sym (pre_at-parts form n bytes p.key.cycle p.key.zero p.place p.profile p.speed p.throttle p.brake p.belt p.lamp
    (numbers-slots form n bytes p in_form are)
    (sym are.cycle)
    (sym are.zero_tick)
    (place-back p.place (slice_index bytes 8) (number_at bytes 10 2) place are.after)
    (sym (ap (profile_from form) (numbers-byte form n bytes p are) ∙ in_form.told))
    (sym (PieceLemmas.values-back bytes 12 2 n (unless 0xffff) (PieceLemmas.slot_code 0xffff) None p.speed is.speeds are.speed (λ k below. PieceLemmas.slot-back 300 0xffff (omega arith) (get_or p.speed k None) (is.speed k None (let h = is.speeds in omega arith)))))
    (sym (PieceLemmas.values-back bytes (throttle_at form) 1 n (unless 0xff) (PieceLemmas.slot_code 0xff) None p.throttle is.throttles are.throttle (λ k below. PieceLemmas.slot-back 100 0xff (omega arith) (get_or p.throttle k None) (is.throttle k None (let h = is.throttles in omega arith)))))
    (sym (PieceLemmas.values-back bytes (brake_at form) 1 n switch_from switch_byte None p.brake is.brakes are.brake (λ k below. PieceLemmas.switch-back (get_or p.brake k None))))
    (sym (ap switch_from are.belt ∙ PieceLemmas.switch-back p.belt))
    (sym (ap switch_from are.lamp ∙ PieceLemmas.switch-back p.lamp)))

place_bytes-of : (profile : ℕ) (place : Place) → profile < 256 → PieceLemmas.AreBytesOf 4 (place_bytes profile place)
place_bytes-of profile place byte = subst (λ (xs : List ℕ). PieceLemmas.AreBytesOf 4 xs) (sym (place_bytes-are profile place byte))
    (PieceLemmas.bytes-append (PieceLemmas.bytes-number 1 (place_code place)) (PieceLemmas.bytes-append (PieceLemmas.bytes-number 1 profile) (PieceLemmas.bytes-number 2 (after_code place))))

-- how many bytes a pre part has
pub pre_bytes-of : (form : PreForm) (n : ℕ) (p : PrePart) → IsPreWithSlots n p → IsProfile form n p.profile → PieceLemmas.AreBytesOf (pre_size form) (pre_bytes_by form p)
unfolding pre_bytes_by
pre_bytes-of form n p is in_form =
    let fits = in_form.fits in
    let rest = form.room - n in
    let speeds = PieceLemmas.bytes-pieces 2 n (slot_bytes 2) (PieceLemmas.slot_code 0xffff) p.speed (PieceLemmas.slots-coded 2 300 0xffff p.speed (omega arith) (omega arith) refl is.speed) is.speeds in
    let throttles = PieceLemmas.bytes-pieces 1 n (slot_bytes 1) (PieceLemmas.slot_code 0xff) p.throttle (PieceLemmas.slots-coded 1 100 0xff p.throttle (omega arith) (omega arith) refl is.throttle) is.throttles in
    let brakes : PieceLemmas.AreBytesOf (1 * n) (map switch_byte p.brake) =
    subst (λ (xs : List ℕ). PieceLemmas.AreBytesOf (1 * n) xs) (flat_map_single switch_byte p.brake)
    (PieceLemmas.bytes-pieces 1 n (λ s. switch_byte s ∷ []) switch_byte p.brake (PieceLemmas.switches-coded p.brake) is.brakes) in
    let switches : PieceLemmas.AreBytesOf (1 + (1 + form.zeros)) (switch_byte p.belt ∷ switch_byte p.lamp ∷ replicate form.zeros 0) =
    PieceLemmas.bytes-append (PieceLemmas.bytes-switch p.belt) (PieceLemmas.bytes-append (PieceLemmas.bytes-switch p.lamp) (PieceLemmas.bytes-zeros form.zeros)) in
    let all = PieceLemmas.bytes-append (PieceLemmas.bytes-append (PieceLemmas.bytes-append (PieceLemmas.bytes-append (PieceLemmas.bytes-append (PieceLemmas.bytes-append (PieceLemmas.bytes-append (PieceLemmas.bytes-append (PieceLemmas.bytes-append
    (PieceLemmas.bytes-number 4 p.key.cycle) (PieceLemmas.bytes-number 4 p.key.zero)) (place_bytes-of (profile_byte form p.profile) p.place in_form.byte)) speeds) (PieceLemmas.bytes-zeros (2 * rest))) throttles) (PieceLemmas.bytes-zeros rest)) brakes)
    (PieceLemmas.bytes-zeros rest)) switches in
    let size : 4 + 4 + 4 + 2 * n + 2 * rest + 1 * n + rest + 1 * n + rest + (1 + (1 + form.zeros)) ≡ pre_size form = omega arith in
    subst (λ (m : ℕ). PieceLemmas.AreBytesOf (pre_size form) (pre_bytes_with form m p)) (sym is.speeds) (record { long = all.long ∙ size; small = all.small })

-- what is read from the bytes of a pre part is this part
pub pre-read_back : (form : PreForm) (n : ℕ) (p : PrePart) → IsPreWithSlots n p → IsProfile form n p.profile
    → (length (pre_bytes_by form p) ≡ pre_size form) × (pre_damage_by form (pre_bytes_by form p) 0 ≡ None) × (pre_at_by form (pre_bytes_by form p) 0 ≡ p)
unfolding pre_damage_by
pre-read_back form n p is in_form =
    let bytes = pre_bytes_by form p in
    let of = pre_bytes-of form n p is in_form in
    let numbers = pre-numbers form n bytes p is in_form refl in
    let place = slice_index bytes 8 in
    let profile = slice_index bytes 9 in
    let slots = numbers-slots form n bytes p in_form numbers in
    let fit = pre-rows form n (nat_eq place 1) bytes in_form.fits (pre-numbers_lie form n bytes p is in_form numbers) in
    let whole = rows-whole bytes 0 (pre_table form n (nat_eq place 1)) (PieceLemmas.small-bytes bytes of.small) fit in
    let fields : flat_map fields_of (pre_table form n (nat_eq place 1)) ≡ pre_fields_by form place profile =
    ap (λ (m : ℕ). flat_map fields_of (pre_table form m (nat_eq place 1))) (sym slots) ∙ pre_table-fields form place profile in (
      of.long,
      subst (λ (fs : List NumberField). damage_of_fields bytes 0 fs ≡ None) fields whole,
      pre-numbers_say form n bytes p is in_form numbers,
    )
