use Rattle.std.proofs.Common.{◌≡◌, ◌∙◌, sym, ap, ℕ, ◌+◌, ◌-◌, ◌*◌, ◌≤◌, List, [], ◌∷◌, ◌++◌, length, take, replicate, subst, arith}
use Rattle.std.specs.List.{flat_map}
use Rattle.edr_record.specs.Bounds.{slots_in}
use Rattle.edr_record.specs.Fields.{pre_part_of}
use Rattle.edr_record.specs.Parts.{PrePart}
use Rattle.edr_image.specs.PartBytes.{profile_byte, throttle_at, brake_at, belt_at, lamp_at, end_at, pre_bytes_by, place_bytes, slot_bytes, switch_byte}
use Rattle.edr_codec.proofs.PutLemmas.{pre-put}
use Rattle.edr_codec.proofs.pre.put_pre_by.Goals as goal

pub overflow_sub-rest : goal.overflow_sub-rest
overflow_sub-rest c =
    let many : length c.speed-slots.result.now ≡ slots_in (pre_part_of c.pre.inside).profile = ap length (c.speed-slots.ensures ∙ sym (ap (λ (q : PrePart). q.speed) c.pre.view_is)) ∙ c.pre.invariant.speeds in
    let fits : slots_in (pre_part_of c.pre.inside).profile ≤ c.args.form.now.room = subst (λ (q : PrePart). slots_in q.profile ≤ c.args.form.now.room) (sym c.pre.view_is) c.requires.fits in
    omega arith

pub returns : goal.returns
returns c =
    let form = c.args.form.now in
    let p = pre_part_of c.pre.inside in
    let is = c.pre.invariant in
    let n = slots_in p.profile in
    let here = sym c.pre.view_is in
    let fits : n ≤ form.room = subst (λ (q : PrePart). slots_in q.profile ≤ form.room) here c.requires.fits in
    let many : length c.speed-slots.result.now ≡ n = ap length (c.speed-slots.ensures ∙ ap (λ (q : PrePart). q.speed) here) ∙ is.speeds in
    let speed : c.speed.result.now ≡ p.speed = c.speed.ensures ∙ ap (λ (q : PrePart). q.speed) here in
    let throttle : c.throttle.result.now ≡ p.throttle = c.throttle.ensures ∙ ap (λ (q : PrePart). q.throttle) here in
    let brake : c.brake.result.now ≡ p.brake = c.brake.ensures ∙ ap (λ (q : PrePart). q.brake) here in
    let byte : c.profile_byte.result ≡ profile_byte form p.profile = c.profile_byte.ensures ∙ ap (profile_byte form) (c.profile.ensures ∙ ap (λ (q : PrePart). q.profile) here) in
    let rest = form.room - n in
    let e3 : take 12 c.put_place.new.out ≡ take 8 c.put_at-2.new.out ++ place_bytes (profile_byte form p.profile) p.place = rw byte at c.put_place.ensures in
    let e4 : take (12 + 2 * n) c.put_all.new.out ≡ take 12 c.put_place.new.out ++ flat_map (slot_bytes 2) p.speed = rw (speed, is.speeds) at c.put_all.ensures in
    let e5 : take (12 + 2 * n + 2 * rest) c.put_zeros.new.out ≡ take (12 + 2 * n) c.put_all.new.out ++ replicate (2 * rest) 0 = rw many at c.put_zeros.ensures in
    let e6 : take (throttle_at form + 1 * n) c.put_all-2.new.out ≡ take (throttle_at form) c.put_zeros.new.out ++ flat_map (slot_bytes 1) p.throttle = rw (c.throttle_at.ensures, throttle, is.throttles) at c.put_all-2.ensures in
    let e7 : take (throttle_at form + n + rest) c.put_zeros-2.new.out ≡ take (throttle_at form + n) c.put_all-2.new.out ++ replicate rest 0 = rw (c.throttle_at-2.ensures, many) at c.put_zeros-2.ensures in
    let e8 : take (brake_at form + 1 * n) c.put_all-3.new.out ≡ take (brake_at form) c.put_zeros-2.new.out ++ flat_map (λ s. switch_byte s ∷ []) p.brake = rw (c.brake_at.ensures, brake, is.brakes) at c.put_all-3.ensures in
    let e9 : take (brake_at form + n + rest) c.put_zeros-3.new.out ≡ take (brake_at form + n) c.put_all-3.new.out ++ replicate rest 0 = rw (c.brake_at-2.ensures, many) at c.put_zeros-3.ensures in
    let e10 : take (belt_at form + 1) c.put_at-3.new.out ≡ take (belt_at form) c.put_zeros-3.new.out ++ switch_byte p.belt ∷ [] = rw c.belt_at.ensures at c.put_at-3.ensures in
    let e11 : take (lamp_at form + 1) c.put_at-4.new.out ≡ take (lamp_at form) c.put_at-3.new.out ++ switch_byte p.lamp ∷ [] = rw c.lamp_at.ensures at c.put_at-4.ensures in
    let e12 : take (end_at form + form.zeros) c.put_zeros-4.new.out ≡ take (end_at form) c.put_at-4.new.out ++ replicate form.zeros 0 = rw c.end_at.ensures at c.put_zeros-4.ensures in
    let up = λ (o : List ℕ) (i j : ℕ) (same : i ≡ j). ap (λ (k : ℕ). take k o) same in
    pre-put form n p c.put_at.new.out c.put_at-2.new.out c.put_place.new.out c.put_all.new.out c.put_zeros.new.out c.put_all-2.new.out c.put_zeros-2.new.out c.put_all-3.new.out c.put_zeros-3.new.out c.put_at-3.new.out c.put_at-4.new.out c.put_zeros-4.new.out
    is fits (omega arith) c.put_at.ensures c.put_at-2.ensures e3 e4
    (up c.put_zeros.new.out (throttle_at form) (12 + 2 * n + 2 * rest) (omega arith) ∙ e5)
    (up c.put_all-2.new.out (throttle_at form + n) (throttle_at form + 1 * n) (omega arith) ∙ e6)
    (up c.put_zeros-2.new.out (brake_at form) (throttle_at form + n + rest) (omega arith) ∙ e7)
    (up c.put_all-3.new.out (brake_at form + n) (brake_at form + 1 * n) (omega arith) ∙ e8)
    (up c.put_zeros-3.new.out (belt_at form) (brake_at form + n + rest) (omega arith) ∙ e9)
    (up c.put_at-3.new.out (lamp_at form) (belt_at form + 1) (omega arith) ∙ e10)
    (up c.put_at-4.new.out (end_at form) (lamp_at form + 1) (omega arith) ∙ e11)
    e12
    ∙ ap (pre_bytes_by form) c.pre.view_is
