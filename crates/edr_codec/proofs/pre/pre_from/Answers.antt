use Rattle.std.proofs.Common.{◌≡◌, ◌∙◌, sym, ap, subst, ℕ}
use Rattle.edr_record.specs.Bounds.{IsPre}
use Rattle.edr_record.specs.Fields.{profile_of_slots, speed_of, throttle_of, brake_of}
use Rattle.edr_record.specs.Parts.{PrePart}
use Rattle.edr_image.specs.PartBytes.{number_at, pre_at_by, switch_from}
use Rattle.edr_codec.proofs.PreLemmas.{part, pre-read}
use Rattle.edr_codec.proofs.pre.pre_from.Goals as goal

-- the fields that were read are the part that the bytes say
read : (c : goal.After-read_at-4)
    → (let slots = c.slots_from.result in
    part c.read_at.result c.read_at-2.result c.place_from.result (profile_of_slots slots) (speed_of slots) (throttle_of slots) (brake_of slots) c.read_at-3.result c.read_at-4.result ≡ pre_at_by c.args.form.now c.args.bytes.now 0)
read c =
    let bytes = c.args.bytes.now in
    pre-read c.args.form.now bytes c.read_at.result c.read_at-2.result c.place_from.result c.slots_from.result c.read_at-3.result c.read_at-4.result
    c.read_at.ensures c.read_at-2.ensures c.place_from.ensures c.slots_from.ensures
    (c.read_at-3.ensures ∙ ap (λ (i : ℕ). switch_from (number_at bytes i 1)) c.belt_at.ensures)
    (c.read_at-4.ensures ∙ ap (λ (i : ℕ). switch_from (number_at bytes i 1)) c.lamp_at.ensures)

pub invariant_of-result : goal.invariant_of-result
invariant_of-result c = subst (λ (p : PrePart). IsPre p) (sym (read c)) c.requires.bounds

pub returns : goal.returns
returns c = read c
