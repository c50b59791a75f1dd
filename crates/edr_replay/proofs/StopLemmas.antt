-- What follows from a stop that was planned.
use Rattle.std.proofs.Common.{◌≡◌, ◌⊎◌, ◌≤◌, ◌<◌, ◌+◌, ◌∙◌, ℕ, zero, suc, Bool, true, false, List, Option, Some, None, refl, sym, ap, subst, inl, inr, ⊎_elim, arith}
use Rattle.edr_device.specs.Device.{Agrees, MayLeave, StillTells}
use Rattle.edr_device.specs.Faults.{Rose, last_number}
use Rattle.edr_device.specs.FuseState.{FuseGoesOn, FuseState, armed_for, fuse_state, new_fuse}
use Rattle.edr_device.specs.declared.device.Nvm.{Ghosts}
use Rattle.edr_device.specs.declared.fused.Fused.{Fused}

-- ---- what the device tells

-- a device that told bytes tells some
pub told_some : (old new : Option (List ℕ)) (bytes : List ℕ) → old ≡ Some bytes → StillTells old new → (now : List ℕ) × (new ≡ Some now)
told_some None None bytes e t = absurd cc
told_some None (Some b) bytes e t = absurd t
told_some (Some a) None bytes e t = absurd t
told_some (Some a) (Some b) bytes e t = (b, refl)

-- a crash may leave the bytes as they are
pub leaves_itself : (content : Option (List ℕ)) (settled : ℕ → Bool) (now : List ℕ) → content ≡ Some now → MayLeave content settled now
leaves_itself content settled now e = subst (λ (c : Option (List ℕ)). MayLeave c settled now) (sym e) itself
  where
    itself : Agrees settled now now
    itself = record { size = refl; same = λ i below s. refl }

-- ---- the fuse

-- A fuse that was new when this stop was planned. `before` and `now` are the faults of the device inside, then and since.
pub record IsPlanned (stop : ℕ) (s : FuseState) (before now : ℕ) : Type 0 where
  pub armed : s.armed ≡ stop
  pub armed_at : s.armed_at ≡ 0
  pub calm : s.calm ≡ 0
  pub waits : s.spent ≡ false → 0 < s.armed → s.ticks < s.armed_at + s.armed
  pub after_cut : s.spent ≡ true → s.cut ≤ s.ticks
  pub good_before : s.spent ≡ true → s.last_good < s.cut
  pub planned : s.spent ≡ true → s.armed_at < s.cut → s.cut ≡ s.armed_at + s.armed
  pub blameless : s.spent ≡ false → s.broken ≡ false → s.ticks < last_number → s.faults ≡ s.calm
  pub breaks : s.broken ≡ true → Rose before now

-- so is a fuse at any later moment
pub fuse_planned : {D : Type 0} {g : Ghosts D} (stop : ℕ) (armed later : Fused D g) → fuse_state armed ≡ armed_for stop new_fuse → FuseGoesOn armed later
    → IsPlanned stop (fuse_state later) (g.faults armed.nvm.now) (g.faults later.nvm.now)
fuse_planned {g = g} stop armed later arm on = record {
  armed = on.armed ∙ ap (λ (s : FuseState). s.armed) arm;
  armed_at = on.armed_at ∙ ap (λ (s : FuseState). s.armed_at) arm;
  calm = on.calm ∙ ap (λ (s : FuseState). s.calm) arm;
  waits = later.waits;
  after_cut = later.after_cut;
  good_before = later.good_before;
  planned = later.planned;
  blameless = later.blameless;
  breaks = on.breaks.cause (ap (λ (s : FuseState). s.broken) arm);
}

-- its clock began with the plan
pub fuse_begins : {D : Type 0} {g : Ghosts D} (stop : ℕ) (armed : Fused D g) → fuse_state armed ≡ armed_for stop new_fuse → armed.ticks ≡ 0
fuse_begins stop armed arm = ap (λ (s : FuseState). s.ticks) arm

-- where nothing follows the call that failed, a fuse that stopped did so in that call
pub stop_is : (stop : ℕ) (s : FuseState) (before now : ℕ) → IsPlanned stop s before now → s.spent ≡ true → (s.ticks ≡ 1) ⊎ (s.ticks ≡ s.last_good + 1) → s.ticks ≡ stop
stop_is stop s before now p spent last =
    let armed = p.armed in
    let at = p.armed_at in
    let good = p.good_before spent in
    let after = p.after_cut spent in
    let cut = p.planned spent (omega (arith, at, good)) in
    ⊎_elim
    (λ (one : s.ticks ≡ 1). omega (arith, armed, at, good, after, cut, one))
    (λ (next : s.ticks ≡ s.last_good + 1). omega (arith, armed, at, good, after, cut, next))
    last

-- a fuse that stopped has made a call
pub some_call : (stop : ℕ) (s : FuseState) (before now : ℕ) → IsPlanned stop s before now → s.spent ≡ true → 1 ≤ s.ticks
some_call stop s before now p spent = let good = p.good_before spent in let after = p.after_cut spent in omega (arith, good, after)

-- where the last call succeeded, the stop is none or still to come
pub not_reached : (stop : ℕ) (s : FuseState) (before now : ℕ) → IsPlanned stop s before now → (0 < s.ticks → s.last_good ≡ s.ticks) → (stop ≡ 0) ⊎ (s.ticks < stop)
not_reached stop s before now p good = by s.spent refl stop refl
  where
    by : (spent : Bool) → s.spent ≡ spent → (n : ℕ) → n ≡ stop → (stop ≡ 0) ⊎ (s.ticks < stop)
    by true e n same = let before = p.good_before e in let after = p.after_cut e in let last = good (omega (arith, before, after)) in absurd (omega (arith, before, after, last))
    by false e zero same = inl (sym same)
    by false e (suc n) same = let armed = p.armed in let at = p.armed_at in let waits = p.waits e (omega (arith, armed, same)) in inr (omega (arith, armed, at, waits))

-- a count that rose is not 0
not_none : (before : ℕ) → ¬ Rose before 0
not_none before rose = omega (arith, rose)

-- a fault that is not the planned stop is one of the device inside
pub rose_inside : (stop : ℕ) (s : FuseState) (before now began : ℕ) → IsPlanned stop s before now → Rose began s.faults → s.ticks < last_number → (s.spent ≡ true → s.broken ≡ true) → Rose before now
rose_inside stop s before now began p rose low unplanned = by s.spent s.broken refl refl
  where
    by : (spent broken : Bool) → s.spent ≡ spent → s.broken ≡ broken → Rose before now
    by true broken e f = p.breaks (unplanned e)
    by false true e f = p.breaks f
    by false false e f = absurd (not_none began (subst (λ (n : ℕ). Rose began n) (p.blameless e f low ∙ p.calm) rose))

-- what is so of the device inside, from when the stop was planned, is so of the device that is lent
pub lent : {D : Type 0} (P : D → D → Type 0) (old armed now new : D) → armed ≡ old → new ≡ now → P armed now → P old new
lent P old armed now new begins ends p = subst (λ d. P d new) begins (subst (λ d. P armed d) (sym ends) p)

-- what is so of the device that is lent is so of the device inside
pub inside : {D : Type 0} (P : D → Type 0) (now new : D) → new ≡ now → P new → P now
inside P now new ends p = subst P ends p
