-- What is put piece by piece is the whole part.
use Rattle.std.proofs.Common.{◌≡◌, refl, sym, ◌∙◌, ℕ, ◌+◌, ◌-◌, ◌*◌, ◌≤◌, List, [], ◌∷◌, ◌++◌, length, take, map, replicate, subst, append_assoc, arith}
use Rattle.std.specs.List.{flat_map}
use Rattle.std.proofs.lemmas.List.{take_all}
use Rattle.std.proofs.lemmas.List.Concat.{flat_map_single}
use Rattle.byteorder.specs.Endian.{big_bytes}
use Rattle.edr_record.specs.Bounds.{IsCrash, IsPreWithSlots}
use Rattle.edr_record.specs.Parts.{PrePart, CrashPart}
use Rattle.edr_image.specs.declared.forms.CrashForm.{CrashForm}
use Rattle.edr_image.specs.declared.forms.PreForm.{PreForm}
use Rattle.edr_image.specs.PartBytes.{pre_size, profile_byte, throttle_at, brake_at, belt_at, lamp_at, end_at, pre_bytes_by, pre_bytes_with, crash_bytes_by, place_bytes, slot_bytes, switch_byte, signed_bytes, extreme_bytes, crash_size}

-- pieces one after the other, as they are put
joined : (a b c d e f g h i : List ℕ) (x y : ℕ) (z : List ℕ)
    → (((((((((a ++ b) ++ c) ++ d) ++ e) ++ f) ++ g) ++ h) ++ i) ++ x ∷ []) ++ y ∷ [] ++ z ≡ ((((((((a ++ b) ++ c) ++ d) ++ e) ++ f) ++ g) ++ h) ++ i) ++ x ∷ y ∷ z
joined a b c d e f g h i x y z = simp append_assoc

pub pre-put : (form : PreForm) (n : ℕ) (p : PrePart) (o1 o2 o3 o4 o5 o6 o7 o8 o9 o10 o11 o12 : List ℕ) → IsPreWithSlots n p → n ≤ form.room → length o12 ≡ pre_size form
    → take 4 o1 ≡ big_bytes 4 p.key.cycle
    → take 8 o2 ≡ take 4 o1 ++ big_bytes 4 p.key.zero
    → take 12 o3 ≡ take 8 o2 ++ place_bytes (profile_byte form p.profile) p.place
    → take (12 + 2 * n) o4 ≡ take 12 o3 ++ flat_map (slot_bytes 2) p.speed
    → take (throttle_at form) o5 ≡ take (12 + 2 * n) o4 ++ replicate (2 * (form.room - n)) 0
    → take (throttle_at form + n) o6 ≡ take (throttle_at form) o5 ++ flat_map (slot_bytes 1) p.throttle
    → take (brake_at form) o7 ≡ take (throttle_at form + n) o6 ++ replicate (form.room - n) 0
    → take (brake_at form + n) o8 ≡ take (brake_at form) o7 ++ flat_map (λ s. switch_byte s ∷ []) p.brake
    → take (belt_at form) o9 ≡ take (brake_at form + n) o8 ++ replicate (form.room - n) 0
    → take (lamp_at form) o10 ≡ take (belt_at form) o9 ++ switch_byte p.belt ∷ []
    → take (end_at form) o11 ≡ take (lamp_at form) o10 ++ switch_byte p.lamp ∷ []
    → take (pre_size form) o12 ≡ take (end_at form) o11 ++ replicate form.zeros 0
    → o12 ≡ pre_bytes_by form p
unfolding pre_bytes_by
pre-put form n p o1 o2 o3 o4 o5 o6 o7 o8 o9 o10 o11 o12 is fits long e1 e2 e3 e4 e5 e6 e7 e8 e9 e10 e11 e12 =
    let brakes : flat_map (λ s. switch_byte s ∷ []) p.brake ≡ map switch_byte p.brake = flat_map_single switch_byte p.brake in
    let whole : o12 ≡ take (pre_size form) o12 = sym (take_all (pre_size form) o12 (omega arith)) in
    subst (λ (m : ℕ). o12 ≡ pre_bytes_with form m p) (sym is.speeds)
    (whole ∙ rw (e12, e11, e10, e9, e8, e7, e6, e5, e4, e3, e2, e1, brakes) refl
    ∙ joined (big_bytes 4 p.key.cycle) (big_bytes 4 p.key.zero) (place_bytes (profile_byte form p.profile) p.place) (flat_map (slot_bytes 2) p.speed) (replicate (2 * (form.room - n)) 0)
    (flat_map (slot_bytes 1) p.throttle) (replicate (form.room - n) 0) (map switch_byte p.brake) (replicate (form.room - n) 0) (switch_byte p.belt) (switch_byte p.lamp) (replicate form.zeros 0))

pub crash-put : (form : CrashForm) (c : CrashPart) (o1 o2 o3 o4 o5 o6 o7 o8 o9 o10 : List ℕ) → IsCrash c → length o10 ≡ crash_size form
    → take 2 o1 ≡ big_bytes 2 c.end
    → take (2 + 2 * length c.along) o2 ≡ take 2 o1 ++ flat_map signed_bytes c.along
    → take (54 + 2 * length c.across) o3 ≡ take 54 o2 ++ flat_map signed_bytes c.across
    → take 110 o4 ≡ take 106 o3 ++ extreme_bytes c.max_along
    → take 114 o5 ≡ take 110 o4 ++ extreme_bytes c.max_across
    → take 116 o6 ≡ take 114 o5 ++ big_bytes 2 c.result_at
    → take 118 o7 ≡ take 116 o6 ++ big_bytes 2 c.missing_along
    → take 120 o8 ≡ take 118 o7 ++ big_bytes 2 c.missing_across
    → take (120 + 2 * length c.fired) o9 ≡ take 120 o8 ++ flat_map (slot_bytes 2) c.fired
    → take (crash_size form) o10 ≡ take 136 o9 ++ replicate form.zeros 0
    → o10 ≡ crash_bytes_by form c
unfolding crash_bytes_by
crash-put form c o1 o2 o3 o4 o5 o6 o7 o8 o9 o10 is long e1 e2 e3 e4 e5 e6 e7 e8 e9 e10 =
    let e2' : take 54 o2 ≡ take 2 o1 ++ flat_map signed_bytes c.along = rw is.along.room at e2 in
    let e3' : take 106 o3 ≡ take 54 o2 ++ flat_map signed_bytes c.across = rw is.across.room at e3 in
    let e9' : take 136 o9 ≡ take 120 o8 ++ flat_map (slot_bytes 2) c.fired = rw is.restraints at e9 in
    sym (take_all (crash_size form) o10 (omega arith)) ∙ rw (e10, e9', e8, e7, e6, e5, e4, e3', e2', e1) refl
