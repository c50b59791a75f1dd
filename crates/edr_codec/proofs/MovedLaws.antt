-- A part that stands in further bytes is damaged, and says, what its own bytes are and say.
use Rattle.std.proofs.Common.{◌≡◌, inl, inr, refl, sym, ap, ap₂, ◌∙◌, ℕ, zero, suc, ◌+◌, ◌-◌, ◌*◌, ◌<◌, ◌≤◌, Option, Some, None, option_map, List, [], ◌∷◌, map, take, drop, slice_index, slice_range, nat_eq, if◌then◌else◌, arith}
use Rattle.std.proofs.Math.Nat.{mul-le-mul_left, mul-suc}
use Rattle.std.proofs.lemmas.Bool.{cases_Bool}
use Rattle.std.proofs.lemmas.List.{get_or-drop, get_or-take}
use Rattle.std.specs.List.{range_with_len}
use Rattle.std.specs.Option.{option_or}
use Rattle.edr_record.specs.declared.Extreme.{Extreme}
use Rattle.edr_record.specs.declared.Place.{Place}
use Rattle.edr_record.specs.declared.Place.TheVariants.{First, Second}
use Rattle.edr_image.specs.declared.forms.CrashForm.{CrashForm}
use Rattle.edr_image.specs.declared.forms.PreForm.{PreForm}
use Rattle.edr_image.specs.PartBytes.{NumberField, can_be_in, damage_of_field, damage_of_fields, pre_size, slots_of, profile_from, throttle_at, brake_at, belt_at, lamp_at, IsPreForm, pre_fields_by, pre_damage_by, pre_at_by, crash_fields_by, crash_damage_by, crash_at, number_at, numbers_at, signed_value, unless, switch_from, extreme_at, crash_size}
use Rattle.edr_codec.proofs.FieldLemmas.{fields_size}
use Rattle.edr_codec.proofs.PreLemmas.{part-same}
use Rattle.edr_codec.proofs.GrammarLaws.{crash_fields-size, pre_fields-size}

-- the bytes from a place on are those of the part, as many as it has
abbrev pub StandsAt : ℕ → ℕ → List ℕ → List ℕ → Type 0
StandsAt size at bytes part = (i : ℕ) → i < size → slice_index bytes (at + i) ≡ slice_index part i

pub range-stands : (bytes : List ℕ) (at size : ℕ) → StandsAt size at bytes (slice_range bytes at (at + size))
range-stands bytes at size i below =
    let e : at + size - at ≡ size = omega arith in
    sym (get_or-drop at bytes i 0) ∙ sym (get_or-take size (drop at bytes) i 0 below) ∙ ap (λ (n : ℕ). slice_index (take n (drop at bytes)) i) (sym e)

number-moved : (size at : ℕ) (bytes part : List ℕ) → StandsAt size at bytes part → (i n : ℕ) → i + n ≤ size → number_at bytes (at + i) n ≡ number_at part i n
number-moved size at bytes part stands i zero room = refl
number-moved size at bytes part stands i (suc n) room =
    let byte = stands i (omega arith) in
    let e : at + suc i ≡ suc (at + i) = omega arith in
    let rest = rw e at (number-moved size at bytes part stands (suc i) n (omega arith)) in
    rw (byte, rest) refl

-- two functions that agree below a number
map-same : (f g : ℕ → ℕ) (a n : ℕ) → ((k : ℕ) → k < a + n → f k ≡ g k) → map f (range_with_len a n) ≡ map g (range_with_len a n)
map-same f g a zero same = refl
map-same f g a (suc n) same = ap₂ (λ (x : ℕ) (xs : List ℕ). x ∷ xs) (same a (omega arith)) (map-same f g (a + 1) n (λ k below. same k (omega arith)))

numbers-moved : (size at : ℕ) (bytes part : List ℕ) → StandsAt size at bytes part → (i each n : ℕ) → i + each * n ≤ size → numbers_at bytes (at + i) each n ≡ numbers_at part i each n
numbers-moved size at bytes part stands i each n room =
    map-same (λ k. number_at bytes (at + i + each * k) each) (λ k. number_at part (i + each * k) each) 0 n (λ k below.
    let more : each * suc k ≤ each * n = mul-le-mul_left each (let h : suc k ≤ n = omega arith in h) in
    let e : at + i + each * k ≡ at + (i + each * k) = omega arith in
    ap (λ (j : ℕ). number_at bytes j each) e ∙ number-moved size at bytes part stands (i + each * k) each (let h = mul-suc each k in omega arith))

field-moved : (size at : ℕ) (bytes part : List ℕ) → StandsAt size at bytes part → (ranges : List (ℕ × ℕ)) (i n left : ℕ) → i + left ≤ size
    → damage_of_field ranges bytes (at + i) n left ≡ option_map (λ k. at + k) (damage_of_field ranges part i n left)
field-moved size at bytes part stands ranges i n zero room = refl
field-moved size at bytes part stands ranges i n (suc left) room =
    let byte = stands i (omega arith) in
    let e : at + i + 1 ≡ at + (i + 1) = omega arith in
    let m = n * 256 + slice_index part i in
    let ih = field-moved size at bytes part stands ranges (i + 1) m left (omega arith) in
    rw (byte, e, ih) (elim (cases_Bool (can_be_in ranges m left)) [ inl can ↦ rw can refl | inr ends ↦ rw ends refl ])

map-or : (at : ℕ) (a b : Option ℕ) → option_or (option_map (λ k. at + k) a) (option_map (λ k. at + k) b) ≡ option_map (λ k. at + k) (option_or a b)
map-or at None b = refl
map-or at (Some x) b = refl

fields-moved : (size at : ℕ) (bytes part : List ℕ) → StandsAt size at bytes part → (i : ℕ) (fs : List NumberField) → i + fields_size fs ≤ size
    → damage_of_fields bytes (at + i) fs ≡ option_map (λ k. at + k) (damage_of_fields part i fs)
fields-moved size at bytes part stands i [] room = refl
fields-moved size at bytes part stands i (f ∷ fs) room =
    let first = field-moved size at bytes part stands f.ranges i 0 f.size (omega arith) in
    let e : at + i + f.size ≡ at + (i + f.size) = omega arith in
    let later = fields-moved size at bytes part stands (i + f.size) fs (omega arith) in
    rw (first, e, later) (map-or at (damage_of_field f.ranges part i 0 f.size) (damage_of_fields part (i + f.size) fs))

pub pre_damage-moved : (form : PreForm) → IsPreForm form → (at : ℕ) (bytes part : List ℕ) → StandsAt (pre_size form) at bytes part → pre_damage_by form bytes at ≡ option_map (λ k. at + k) (pre_damage_by form part 0)
unfolding pre_damage_by
pre_damage-moved form is at bytes part stands =
    let e : at ≡ at + 0 = omega arith in
    let place = slice_index part 8 in
    let profile = slice_index part 9 in
    let fields = pre_fields_by form place profile in
    let size = pre_fields-size form place profile is in
    ap₂ (λ (m n : ℕ). damage_of_fields bytes at (pre_fields_by form m n)) (stands 8 (omega arith)) (stands 9 (omega arith))
    ∙ ap (λ (i : ℕ). damage_of_fields bytes i fields) e
    ∙ fields-moved (pre_size form) at bytes part stands 0 fields (omega arith)

pub pre_at-moved : (form : PreForm) → IsPreForm form → (at : ℕ) (bytes part : List ℕ) → StandsAt (pre_size form) at bytes part → pre_at_by form bytes at ≡ pre_at_by form part 0
unfolding pre_at_by
pre_at-moved form is at bytes part stands =
    let size = pre_size form in
    let number = λ (i n : ℕ) (room : i + n ≤ size). number-moved size at bytes part stands i n room in
    let start : number_at bytes at 4 ≡ number_at part 0 4 = ap (λ (i : ℕ). number_at bytes i 4) (let e : at ≡ at + 0 = omega arith in e) ∙ number 0 4 (omega arith) in
    let time = number 4 4 (omega arith) in
    let place = stands 8 (omega arith) in
    let profile = stands 9 (omega arith) in
    let after = number 10 2 (omega arith) in
    let n = slots_of form (slice_index part 9) in
    let fits : n ≤ form.room = is.room (slice_index part 9) in
    let from = λ (i : ℕ). (let e : i ≡ 0 + i = omega arith in e) in
    let list = λ (i each : ℕ) (room : i + each * n ≤ size).
    (let moved : numbers_at bytes (at + i) each (slots_of form (slice_index bytes (at + 9))) ≡ numbers_at part (0 + i) each n =
    ap (λ (b : ℕ). numbers_at bytes (at + i) each (slots_of form b)) profile ∙ numbers-moved size at bytes part stands i each n room ∙ ap (λ (k : ℕ). numbers_at part k each n) (from i) in moved) in
    let switch = λ (i : ℕ) (room : i < size).
    (let moved : switch_from (slice_index bytes (at + i)) ≡ switch_from (slice_index part (0 + i)) = ap switch_from (stands i room ∙ ap (slice_index part) (from i)) in moved) in
    part-same (number_at bytes at 4) (number_at part 0 4) (number_at bytes (at + 4) 4) (number_at part 4 4)
    (if nat_eq (slice_index bytes (at + 8)) 1 then First else Second (number_at bytes (at + 10) 2)) (if nat_eq (slice_index part 8) 1 then First else Second (number_at part 10 2))
    (profile_from form (slice_index bytes (at + 9))) (profile_from form (slice_index part 9))
    (map (unless 0xffff) (numbers_at bytes (at + 12) 2 (slots_of form (slice_index bytes (at + 9))))) (map (unless 0xffff) (numbers_at part 12 2 n))
    (map (unless 0xff) (numbers_at bytes (at + throttle_at form) 1 (slots_of form (slice_index bytes (at + 9))))) (map (unless 0xff) (numbers_at part (0 + throttle_at form) 1 n))
    (map switch_from (numbers_at bytes (at + brake_at form) 1 (slots_of form (slice_index bytes (at + 9))))) (map switch_from (numbers_at part (0 + brake_at form) 1 n))
    (switch_from (slice_index bytes (at + belt_at form))) (switch_from (slice_index part (0 + belt_at form)))
    (switch_from (slice_index bytes (at + lamp_at form))) (switch_from (slice_index part (0 + lamp_at form)))
    start time (ap₂ (λ (p a : ℕ). let q : Place = if nat_eq p 1 then First else Second a in q) place after)
    (ap (profile_from form) profile)
    (ap (map (unless 0xffff)) (list 12 2 (omega arith)))
    (ap (map (unless 0xff)) (list (throttle_at form) 1 (omega arith)))
    (ap (map switch_from) (list (brake_at form) 1 (omega arith)))
    (switch (belt_at form) (omega arith))
    (switch (lamp_at form) (omega arith))

pub crash_damage-moved : (form : CrashForm) (at : ℕ) (bytes part : List ℕ) → StandsAt (crash_size form) at bytes part → crash_damage_by form bytes at ≡ option_map (λ k. at + k) (crash_damage_by form part 0)
unfolding crash_damage_by
crash_damage-moved form at bytes part stands =
    let e : at ≡ at + 0 = omega arith in
    let end = number_at part 0 2 in
    let size = crash_fields-size form end in
    ap (λ (n : ℕ). damage_of_fields bytes at (crash_fields_by form n)) (ap (λ (i : ℕ). number_at bytes i 2) e ∙ number-moved (crash_size form) at bytes part stands 0 2 (omega arith))
    ∙ ap (λ (i : ℕ). damage_of_fields bytes i (crash_fields_by form end)) e
    ∙ fields-moved (crash_size form) at bytes part stands 0 (crash_fields_by form end) (omega arith)

pub crash_at-moved : (form : CrashForm) (at : ℕ) (bytes part : List ℕ) → StandsAt (crash_size form) at bytes part → crash_at bytes at ≡ crash_at part 0
unfolding crash_at
crash_at-moved form at bytes part stands =
    let number = λ (i n : ℕ) (room : i + n ≤ crash_size form). number-moved (crash_size form) at bytes part stands i n room in
    let end : number_at bytes at 2 ≡ number_at part 0 2 = ap (λ (i : ℕ). number_at bytes i 2) (let e : at ≡ at + 0 = omega arith in e) ∙ number 0 2 (omega arith) in
    let along = numbers-moved (crash_size form) at bytes part stands 2 2 26 (omega arith) in
    let across = numbers-moved (crash_size form) at bytes part stands 54 2 26 (omega arith) in
    let extreme = λ (i : ℕ) (room : i + 4 ≤ crash_size form).
    (let e : at + i + 2 ≡ at + (i + 2) = omega arith in
    let same : extreme_at bytes (at + i) ≡ extreme_at part i =
    ap₂ (λ (m n : ℕ). let x : Extreme = record { kmh = signed_value m; at = n } in x) (number i 2 (omega arith)) (ap (λ (j : ℕ). number_at bytes j 2) e ∙ number (i + 2) 2 (omega arith)) in same) in
    let max_along = extreme 106 (omega arith) in
    let max_across = extreme 110 (omega arith) in
    let result_at = number 114 2 (omega arith) in
    let missing_along = number 116 2 (omega arith) in
    let missing_across = number 118 2 (omega arith) in
    let fired = numbers-moved (crash_size form) at bytes part stands 120 2 8 (omega arith) in
    cc
