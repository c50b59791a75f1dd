-- The laws of a device, for a fuse round one that has them.
use Rattle.std.specs.Prelude.{◌≤◌, ℕ, List, refl}
use Rattle.std.proofs.Common.{◌∙◌}
use Rattle.std.proofs.Math.Nat.{le_refl, le_trans}
use Rattle.edr_device.specs.Device.{MayLeave}
use Rattle.edr_device.specs.Fuse.{breaks_again, breaks_self, cut_between, fused_counts, fused_only, fused_sooner, not_both}
use Rattle.edr_device.specs.FuseState.{FuseGoesOn, fused_content, fused_settled, fused_since}
use Rattle.edr_device.specs.declared.device.Nvm.{Ghosts}
use Rattle.edr_device.specs.declared.fused.Fused.{Fused}

pub fuse_counts_now : {D : Type 0} {g : Ghosts D} (f : Fused D g) (t : ℕ) (image : List ℕ)
    → ((u : ℕ) → u ≤ g.clock f.nvm.now → MayLeave (g.content f.nvm.now) (g.settled f.nvm.now) image → g.since f.nvm.now u image)
    → MayLeave (fused_content f) (fused_settled f) image → fused_since f t image
fuse_counts_now {g = g} f t image counts left =
    fused_counts f.spent f.cut (g.clock f.start.value) (g.clock f.nvm.now) (g.clock f.middle.value) (g.since f.nvm.now) (g.since f.middle.value) (MayLeave (g.content f.nvm.now) (g.settled f.nvm.now)) t image
    (λ u within. counts u within left) left

pub fuse_only_now : {D : Type 0} {g : Ghosts D} (f : Fused D g) (image : List ℕ)
    → (g.since f.nvm.now (g.clock f.nvm.now) image → MayLeave (g.content f.nvm.now) (g.settled f.nvm.now) image)
    → fused_since f f.ticks image → MayLeave (fused_content f) (fused_settled f) image
fuse_only_now {g = g} f image only left =
    fused_only f.spent f.cut (g.clock f.start.value) (g.clock f.nvm.now) (g.clock f.middle.value) (g.since f.nvm.now) (g.since f.middle.value) (MayLeave (g.content f.nvm.now) (g.settled f.nvm.now)) f.ticks image
    f.after_cut f.later only left

pub fuse_sooner : {D : Type 0} {g : Ghosts D} (f : Fused D g) (t u : ℕ) (image : List ℕ)
    → ((d : D) (a b : ℕ) → a ≤ b → b ≤ g.clock d → g.since d b image → g.since d a image)
    → t ≤ u → fused_since f u image → fused_since f t image
fuse_sooner {g = g} f t u image sooner le left =
    fused_sooner f.spent f.cut (g.clock f.start.value) (g.clock f.nvm.now) (g.clock f.middle.value) (g.since f.nvm.now) (g.since f.middle.value) (MayLeave (g.content f.nvm.now) (g.settled f.nvm.now)) t u image
    (sooner f.nvm.now) (sooner f.middle.value) le left

pub fuse_goes_on_self : {D : Type 0} {g : Ghosts D} (f : Fused D g) → g.goes_on f.nvm.now f.nvm.now → FuseGoesOn f f
fuse_goes_on_self {g = g} f inside = record {
  same_device = refl;
  inside = inside;
  armed = refl;
  armed_at = refl;
  calm = refl;
  later = le_refl f.ticks;
  still_spent = λ e. (e, refl);
  cut_later = λ e e'. not_both e e';
  still_broken = λ e. e;
  breaks = breaks_self f.broken (g.faults f.nvm.now);
}

pub fuse_goes_on_again : {D : Type 0} {g : Ghosts D} (a b c : Fused D g)
    → (g.goes_on a.nvm.now b.nvm.now → g.goes_on b.nvm.now c.nvm.now → g.goes_on a.nvm.now c.nvm.now)
    → FuseGoesOn a b → FuseGoesOn b c → FuseGoesOn a c
fuse_goes_on_again {g = g} a b c again p q = record {
  same_device = q.same_device ∙ p.same_device;
  inside = again p.inside q.inside;
  armed = q.armed ∙ p.armed;
  armed_at = q.armed_at ∙ p.armed_at;
  calm = q.calm ∙ p.calm;
  later = le_trans p.later q.later;
  still_spent = λ e. let s = p.still_spent e in let r = q.still_spent s.0 in (r.0, r.1 ∙ s.1);
  cut_later = λ e e'. cut_between b.spent c.spent a.ticks b.ticks b.cut c.cut p.later (p.cut_later e) q.still_spent q.cut_later e';
  still_broken = λ e. q.still_broken (p.still_broken e);
  breaks = breaks_again a.broken b.broken c.broken (g.faults a.nvm.now) (g.faults b.nvm.now) (g.faults c.nvm.now) p.breaks q.breaks;
}
