-- From what a write leaves to what a step leaves.
use Rattle.std.proofs.Common.{◌≡◌, ◌⊎◌, ◌≤◌, ◌<◌, ◌+◌, ◌-◌, ℕ, Bool, Option, Some, List, [], ◌∷◌, ◌++◌, length, replicate, slice_index, refl, Result, Ok, Err, OnOk, OnErr, ◌∙◌, ap, inl, inr, ⊎_elim, arith}
use Rattle.edr_device.specs.Device.{Elapses, IsQuiet, MayLeave}
use Rattle.edr_device.specs.Pieces.{IsGatedStop, SameBut, put_at}
use Rattle.edr_device.proofs.SettlingLemmas.{elapses_more, map_ok, same_all}
use Rattle.edr_image.specs.Calls.{calls_of, gate_call_of}
use Rattle.edr_image.specs.Image.{View, image_after, place_of, view_of, writes_of}
use Rattle.edr_image.specs.PartBytes.{crash_bytes, pre_bytes}
use Rattle.edr_image.specs.Steps.{BankStep, Erase, Fill, Lock, Done}
use Rattle.edr_record.specs.Parts.{CrashPart, PrePart}
use Rattle.edr_gates.specs.Taken.{AreStopped, AreTaken, HasDone, IsPassed, IsStopped, MayTake, PassMeanwhile}
use Rattle.edr_gates.proofs.StepListLemmas.{stop_leaves_first, stop_leaves_none}
use Rattle.edr_gates.proofs.StepImageLemmas.{Either}

-- not done, or from its gate call on done
abbrev pub StopOf : BankStep → ℕ → List ℕ → View → List ℕ → Type 0
StopOf s r bytes v image = HasDone (s ∷ []) [] bytes v image ⊎ ((gate_call_of s ≤ r) × HasDone (s ∷ []) (s ∷ []) bytes v image)

stop_is : (s : BankStep) (r : ℕ) (bytes : List ℕ) (v : View) (image : List ℕ) → r ≤ calls_of s → StopOf s r bytes v image → IsStopped (s ∷ []) r bytes v image
stop_is s r bytes v image few (inl not) = record { done = []; left = stop_leaves_none s [] r few; has = not }
stop_is s r bytes v image few (inr done) = record { done = s ∷ []; left = stop_leaves_first s [] r done.0 few; has = done.1 }

passed_is : (s : BankStep) (bytes : List ℕ) (v : View) (image : List ℕ) → Either s bytes v image → IsPassed (s ∷ []) bytes v image
passed_is s bytes v image (inl not) = record { p = 0; within = omega arith; has = not }
passed_is s bytes v image (inr done) = record { p = 1; within = one_step s; has = done }
  where
    one_step : (s : BankStep) → 1 ≤ length (s ∷ [])
    one_step s = omega arith

-- ---- for any write: `next` is what it leaves where it succeeds, `leaves` where it fails, and `during` meanwhile

pub step_taken : {T E : Type 0} (r : Result T E) (s : BankStep) (content content' : Option (List ℕ)) (settled settled' : ℕ → Bool) (next : List ℕ → List ℕ)
    → ((bytes : List ℕ) (v : View) → view_of bytes ≡ Some v → MayTake v.store.banks s → HasDone (s ∷ []) (s ∷ []) bytes v (next bytes))
    → ((bytes : List ℕ) → next bytes ≡ image_after bytes (s ∷ []))
    → OnOk r ((bytes : List ℕ) → IsQuiet content settled bytes → IsQuiet content' settled' (next bytes))
    → OnOk r (AreTaken (s ∷ []) content settled content' settled')
step_taken r s content content' settled settled' next makes writes done = map_ok r done (λ f bytes v ready. (next bytes, f bytes ready.found.quiet, makes bytes v ready.found.view_is ready.may.0, writes bytes))

pub step_stopped : {T E : Type 0} (res : Result T E) (s : BankStep) (old new : ℕ) (content content' : Option (List ℕ)) (settled settled' : ℕ → Bool) (leaves : List ℕ → List ℕ → Type 0)
    → ((bytes image : List ℕ) (v : View) → view_of bytes ≡ Some v → MayTake v.store.banks s → leaves bytes image → StopOf s (new - old) bytes v image)
    → OnErr res (new ≤ old + calls_of s)
    → OnErr res ((bytes image : List ℕ) → IsQuiet content settled bytes → MayLeave content' settled' image → leaves bytes image)
    → OnErr res (AreStopped (s ∷ []) (new - old) content settled content' settled')
step_stopped (Ok x) s old new content content' settled settled' leaves makes few stopped = tt
step_stopped (Err x) s old new content content' settled settled' leaves makes few stopped = λ bytes image v ready left.
    stop_is s (new - old) bytes v image (omega arith) (makes bytes image v ready.found.view_is ready.may.0 (stopped bytes image ready.found.quiet left))

pub step_passes : (s : BankStep) (content : Option (List ℕ)) (settled : ℕ → Bool) (c0 : ℕ) (s0 s1 : ℕ → List ℕ → Type 0) (during : List ℕ → List ℕ → Type 0)
    → ((bytes image : List ℕ) (v : View) → view_of bytes ≡ Some v → MayTake v.store.banks s → during bytes image → Either s bytes v image)
    → ((bytes : List ℕ) → IsQuiet content settled bytes → Elapses c0 s0 s1 (during bytes))
    → PassMeanwhile (s ∷ []) content settled c0 s0 s1
step_passes s content settled c0 s0 s1 during makes moments = λ bytes v ready.
    elapses_more c0 s0 s1 (during bytes) (IsPassed (s ∷ []) bytes v) (moments bytes ready.found.quiet) (λ image d. passed_is s bytes v image (makes bytes image v ready.found.view_is ready.may.0 d))

-- ---- what a step writes

pub erase_writes : (m : ℕ) (bytes : List ℕ) → put_at (place_of m) (0 ∷ []) bytes ≡ image_after bytes (Erase m ∷ [])
unfolding writes_of
erase_writes m bytes = refl

pub lock_writes : (m : ℕ) (bytes : List ℕ) → put_at (place_of m + 1) (165 ∷ []) bytes ≡ image_after bytes (Lock m ∷ [])
unfolding writes_of
lock_writes m bytes = refl

pub fill_writes : (m : ℕ) (pre : PrePart) (piece bytes : List ℕ) → piece ≡ replicate 15 0 ++ pre_bytes pre → put_at (place_of m) (165 ∷ []) (put_at (place_of m + 1) piece bytes) ≡ image_after bytes (Fill m pre ∷ [])
unfolding writes_of
fill_writes m pre piece bytes same = ap (λ (xs : List ℕ). put_at (place_of m) (165 ∷ []) (put_at (place_of m + 1) xs bytes)) same

pub done_writes : (m : ℕ) (crash : CrashPart) (piece bytes : List ℕ) → piece ≡ crash_bytes crash → put_at (place_of m + 2) (165 ∷ []) (put_at (place_of m + 864) piece bytes) ≡ image_after bytes (Done m crash ∷ [])
unfolding writes_of
done_writes m crash piece bytes same = ap (λ (xs : List ℕ). put_at (place_of m + 2) (165 ∷ []) (put_at (place_of m + 864) xs bytes)) same

-- ---- a gate alone

-- what a failed write and sync leave
abbrev pub OnceLeaves : ℕ → ℕ → ℕ → ℕ → List ℕ → List ℕ → Type 0
OnceLeaves old new k n bytes image = SameBut k n bytes image × (new ≡ old → image ≡ bytes)

not_yet : (s : BankStep) (bytes image : List ℕ) (v : View) → view_of bytes ≡ Some v → image ≡ bytes → HasDone (s ∷ []) [] bytes v image
not_yet s bytes image v e same =
    let all = same_all 0 0 bytes image same in
    record {
      size = all.size;
      same = λ i below aside. ap (λ (xs : List ℕ). slice_index xs i) same;
      unwritten = λ i below out. ap (λ (xs : List ℕ). slice_index xs i) same;
      view = ap view_of same ∙ e;
    }

pub once_stop : (s : BankStep) (old new k n : ℕ) (bytes image : List ℕ) (v : View) → gate_call_of s ≡ 1 → old ≤ new → view_of bytes ≡ Some v → (SameBut k n bytes image → Either s bytes v image) → OnceLeaves old new k n bytes image → StopOf s (new - old) bytes v image
once_stop s old new k n bytes image v gate later e either leaves = go (split later)
  where
    split : {a b : ℕ} → a ≤ b → (a < b) ⊎ (b ≡ a)
    split le = grind arith

    go : (old < new) ⊎ (new ≡ old) → StopOf s (new - old) bytes v image
    go (inl more) = ⊎_elim (λ (not : HasDone (s ∷ []) [] bytes v image). inl not) (λ (done : HasDone (s ∷ []) (s ∷ []) bytes v image). inr (omega arith, done)) (either leaves.0)
    go (inr same) = inl (not_yet s bytes image v e (leaves.1 same))

-- ---- a piece and its gate

pub gated_stop : (s : BankStep) (r k gate : ℕ) (piece bytes image : List ℕ) (v : View) → gate_call_of s ≡ 3 → (SameBut k (length piece) bytes image → HasDone (s ∷ []) [] bytes v image) → (SameBut gate 1 (put_at k piece bytes) image → Either s bytes v image)
    → IsGatedStop r k piece gate bytes image → StopOf s r bytes v image
gated_stop s r k gate piece bytes image v calls before either (inl first) = inl (before first)
gated_stop s r k gate piece bytes image v calls before either (inr second) =
    ⊎_elim (λ (not : HasDone (s ∷ []) [] bytes v image). inl not) (λ (done : HasDone (s ∷ []) (s ∷ []) bytes v image). let late = second.0 in inr (omega arith, done)) (either second.1)

pub gated_either : (s : BankStep) (r k gate : ℕ) (piece bytes image : List ℕ) (v : View) → (SameBut k (length piece) bytes image → HasDone (s ∷ []) [] bytes v image) → (SameBut gate 1 (put_at k piece bytes) image → Either s bytes v image)
    → IsGatedStop r k piece gate bytes image → Either s bytes v image
gated_either s r k gate piece bytes image v before either (inl first) = inl (before first)
gated_either s r k gate piece bytes image v before either (inr second) = either second.1
