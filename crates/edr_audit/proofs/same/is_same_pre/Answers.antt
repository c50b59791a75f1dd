use Rattle.std.proofs.Common.{ap}
use Rattle.edr_record.specs.Parts.{PrePart}
use Rattle.edr_audit.proofs.SameLemmas.{moved, pre_told}
use Rattle.edr_audit.proofs.same.is_same_pre.Goals as goal

pub returns : goal.returns
returns c =
    pre_told c.args.a.now c.args.b.now _ _ _ _ _ _ _ _
    (moved _ _ _ _ _ (ap (λ (v : PrePart). v.key) c.a.view_is) (ap (λ (v : PrePart). v.key) c.b.view_is) c.is_same_key.ensures)
    (moved _ _ _ _ _ (ap (λ (v : PrePart). v.place) c.a.view_is) (ap (λ (v : PrePart). v.place) c.b.view_is) c.is_same_place.ensures)
    (moved _ _ _ _ _ c.profile.ensures c.profile-2.ensures c.is_same_profile.ensures)
    (moved _ _ _ _ _ c.speed.ensures c.speed-2.ensures c.are_same_numbers.ensures)
    (moved _ _ _ _ _ c.throttle.ensures c.throttle-2.ensures c.are_same_per_cents.ensures)
    (moved _ _ _ _ _ c.brake.ensures c.brake-2.ensures c.are_same_switches.ensures)
    (moved _ _ _ _ _ (ap (λ (v : PrePart). v.belt) c.a.view_is) (ap (λ (v : PrePart). v.belt) c.b.view_is) c.is_same_switch.ensures)
    (moved _ _ _ _ _ (ap (λ (v : PrePart). v.lamp) c.a.view_is) (ap (λ (v : PrePart). v.lamp) c.b.view_is) c.is_same_switch-2.ensures)
