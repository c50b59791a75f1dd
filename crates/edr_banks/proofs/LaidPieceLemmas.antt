-- One piece of an image more, of those that are laid over bytes.
use Rattle.std.proofs.Common.{◌≡◌, ◌⊎◌, ◌≤◌, ◌<◌, ◌+◌, ◌-◌, ◌++◌, ◌&&◌, ◌∙◌, not, ℕ, Bool, true, false, List, length, take, drop, slice_index, Option, Some, None, Result, Ok, Err, OnOk, refl, sym, ap, subst, inl, inr, ⊎_elim, arith}
use Rattle.std.proofs.lemmas.Grind.{common_steps}
use Rattle.std.proofs.lemmas.Bool.Decides.{nat_tests}
use Rattle.edr_device.specs.Device.{IsQuiet, MayLeave, Settles, Synced, Writes, is_in, outside}
use Rattle.edr_device.specs.Told.{Told}
use Rattle.edr_device.proofs.RangeLemmas.{outside_part, written_size}
use Rattle.edr_banks.specs.Laying.{IsBare, IsFilled, IsLaid, IsUnmarked, Laid, over}

-- the bytes of the image from `at` on
abbrev pub IsPieceOf : List ℕ → ℕ → List ℕ → Type 0
IsPieceOf target at piece = (j : ℕ) → j < length piece → slice_index piece j ≡ slice_index target (at + j)

pub laid_first : (full : ℕ) (target bytes : List ℕ) (content : Option (List ℕ)) (settled : ℕ → Bool) → IsBare content settled bytes → Laid full target 1 bytes content settled
laid_first full target bytes content settled bare =
    subst (λ (c : Option (List ℕ)). Laid full target 1 bytes c settled) (sym bare.0.0) (record {
      size = refl;
      first = (bare.1, bare.0.1 0);
      laid = λ i low high. absurd (omega arith);
      past = λ i low below. (refl, bare.0.1 i);
    })

both : (a b : Bool) → a ≡ true → b ≡ false → (a && not b) ≡ true
both a b e f = grind arith

not_in : (at n i : ℕ) → (i < at) ⊎ (at + n ≤ i) → is_in at n i ≡ false
not_in at n i h = grind (arith, nat_tests)

below_or_not : (i n : ℕ) → (i < n) ⊎ (n ≤ i)
below_or_not i n = grind arith

there : (xs piece : List ℕ) (at i : ℕ) → at + length piece ≤ length xs → at ≤ i → i < at + length piece → slice_index (take at xs ++ piece ++ drop (at + length piece) xs) i ≡ slice_index piece (i - at)
there xs piece at i fits low high = grind (arith, common_steps)

written_laid : (full : ℕ) (target : List ℕ) (at : ℕ) (piece bytes now after : List ℕ) (settled settled' : ℕ → Bool) → 1 ≤ at → at + length piece ≤ full → full ≤ length bytes → IsPieceOf target at piece
    → IsLaid full target at bytes now settled → Writes at piece settled now after settled' → IsLaid full target (at + length piece) bytes after settled'
written_laid full target at piece bytes now after settled settled' low fits wide is laid w =
    let room : at + length piece ≤ length now = omega (arith, laid.size) in
    let beside : (i : ℕ) → i < length now → (i < at) ⊎ (at + length piece ≤ i) → slice_index after i ≡ slice_index now i = λ i below out. outside_part now piece after at i w.bytes room (not_in at (length piece) i out) in
    let still : (i : ℕ) → (i < at) ⊎ (at + length piece ≤ i) → settled i ≡ true → settled' i ≡ true = λ i out was. w.unsettled i ∙ both (settled i) (is_in at (length piece) i) was (not_in at (length piece) i out) in
    let here : (i : ℕ) → at ≤ i → i < at + length piece → slice_index after i ≡ slice_index (target) i = λ i from to.
    let place : at + (i - at) ≡ i = omega arith in
    ap (λ (xs : List ℕ). slice_index xs i) w.bytes ∙ there now piece at i room from to ∙ is (i - at) (omega arith) ∙ ap (λ (k : ℕ). slice_index (target) k) place in
    record {
      size = written_size now piece after at w.bytes room ∙ laid.size;
      first = ((λ e. laid.first.0 (sym (beside 0 (omega (arith, laid.size)) (inl (omega arith))) ∙ e)), still 0 (inl (omega arith)) laid.first.1);
      laid = λ i from to. ⊎_elim
          (λ (before : i < at). beside i (omega (arith, laid.size)) (inl before) ∙ laid.laid i from before)
          (λ (in_it : at ≤ i). here i in_it to)
          (below_or_not i at);
      past = λ i from below.
          let was = laid.past i from below in
          let behind : at + length piece ≤ i = omega arith in
          (beside i (omega (arith, laid.size)) (inr behind) ∙ was.0, still i (inr behind) was.1);
    }

-- a piece that is written after what stands
pub laid_more : (full : ℕ) (target : List ℕ) (at : ℕ) (piece bytes : List ℕ) (old new : Option (List ℕ)) (settled settled' : ℕ → Bool) → 1 ≤ at → at + length piece ≤ full → full ≤ length bytes → IsPieceOf target at piece
    → Laid full target at bytes old settled → Told (λ a b. Writes at piece settled a b settled') old new → Laid full target (at + length piece) bytes new settled'
laid_more full target at piece bytes None new settled settled' low fits wide is laid w = absurd laid
laid_more full target at piece bytes (Some now) None settled settled' low fits wide is laid w = absurd w
laid_more full target at piece bytes (Some now) (Some after) settled settled' low fits wide is laid w = written_laid full target at piece bytes now after settled settled' low fits wide is laid w

-- what a crash inside that write may leave
pub laid_during : (full : ℕ) (target : List ℕ) (at n : ℕ) (bytes : List ℕ) (old : Option (List ℕ)) (settled : ℕ → Bool) (image : List ℕ) → 1 ≤ at → at + n ≤ full → full ≤ length bytes
    → Laid full target at bytes old settled → MayLeave old (outside at n settled) image → IsUnmarked full bytes image
laid_during full target at n bytes None settled image low fits wide laid left = absurd laid
laid_during full target at n bytes (Some now) settled image low fits wide laid left =
    let same : (i : ℕ) → i < length now → settled i ≡ true → (i < at) ⊎ (at + n ≤ i) → slice_index image i ≡ slice_index now i = λ i below was out. left.same i below (both (settled i) (is_in at n i) was (not_in at n i out)) in
    record {
      size = left.size ∙ laid.size;
      first = λ e. laid.first.0 (sym (same 0 (omega (arith, laid.size)) laid.first.1 (inl (omega arith))) ∙ e);
      past = λ i from below. let was = laid.past i from below in same i (omega (arith, laid.size)) was.1 (inr (omega arith)) ∙ was.0;
    }

-- the same of the first write
pub bare_during : (full : ℕ) (target : List ℕ) (n : ℕ) (bytes : List ℕ) (content : Option (List ℕ)) (settled : ℕ → Bool) (image : List ℕ) → 1 + n ≤ full → full ≤ length bytes → IsBare content settled bytes
    → MayLeave content (outside 1 n settled) image → IsUnmarked full bytes image
bare_during full target n bytes content settled image fits wide bare left = laid_during full target 1 n bytes content settled image (omega arith) fits wide (laid_first full target bytes content settled bare) left

-- what a crash inside the sync after it may leave
pub laid_leaves : (full : ℕ) (target : List ℕ) (n : ℕ) (bytes : List ℕ) (old : Option (List ℕ)) (settled : ℕ → Bool) (image : List ℕ) → 0 < full → full ≤ length bytes → Laid full target n bytes old settled → MayLeave old settled image → IsUnmarked full bytes image
laid_leaves full target n bytes None settled image some wide laid left = absurd laid
laid_leaves full target n bytes (Some now) settled image some wide laid left = record {
  size = left.size ∙ laid.size;
  first = λ e. laid.first.0 (sym (left.same 0 (omega (arith, laid.size)) laid.first.1) ∙ e);
  past = λ i from below. let was = laid.past i from below in left.same i (omega (arith, laid.size)) was.1 ∙ was.0;
}

-- ---- the image but its first byte

pub over_there : (full : ℕ) (target bytes : List ℕ) (i : ℕ) → length target ≡ full → full ≤ length bytes → i < full → slice_index (over full target bytes) i ≡ slice_index (target) i
over_there full target bytes i long wide below = grind (arith, common_steps)

pub over_past : (full : ℕ) (target bytes : List ℕ) (i : ℕ) → length target ≡ full → full ≤ length bytes → full ≤ i → slice_index (over full target bytes) i ≡ slice_index bytes i
over_past full target bytes i long wide low = grind (arith, common_steps)

pub over_size : (full : ℕ) (target bytes : List ℕ) → length target ≡ full → full ≤ length bytes → length (over full target bytes) ≡ length bytes
over_size full target bytes long wide = grind (arith, common_steps)

laid_filled : (full : ℕ) (target bytes now : List ℕ) (settled : ℕ → Bool) → length target ≡ full → full ≤ length bytes → IsLaid full target full bytes now settled → IsFilled full target bytes now
laid_filled full target bytes now settled long wide laid = record {
  same = record {
    size = laid.size ∙ sym (over_size full target bytes long wide);
    same = λ i below out. ⊎_elim
        (λ (before : i < full). laid.laid i (not_first i out) before ∙ sym (over_there full target bytes i long wide before))
        (λ (behind : full ≤ i). (laid.past i behind (omega (arith, over_size full target bytes long wide))).0 ∙ sym (over_past full target bytes i long wide behind))
        (below_or_not i full);
  };
  first = laid.first.0;
}
  where
    not_first : (i : ℕ) → is_in 0 1 i ≡ false → 1 ≤ i
    not_first i out = grind (arith, nat_tests)

-- after a sync the whole image stands but for its first byte
pub laid_settled : (full : ℕ) (target bytes : List ℕ) (old new : Option (List ℕ)) (settled settled' : ℕ → Bool) → length target ≡ full → full ≤ length bytes → Laid full target full bytes old settled → Told (Settles settled') old new
    → (now : List ℕ) × IsQuiet new settled' now × IsFilled full target bytes now
laid_settled full target bytes None new settled settled' long wide laid s = absurd laid
laid_settled full target bytes (Some now) None settled settled' long wide laid s = absurd s
laid_settled full target bytes (Some now) (Some after) settled settled' long wide laid s =
    (after, (refl, s.1), subst (λ (xs : List ℕ). IsFilled full target bytes xs) (sym s.0) (laid_filled full target bytes now settled long wide laid))

-- the same of a sync that may fail
pub filled_if : {T E : Type 0} (r : Result T E) (full : ℕ) (target : List ℕ) (IsStart : List ℕ → Type 0) (old new : Option (List ℕ)) (settled settled' : ℕ → Bool) → length target ≡ full → ((bytes : List ℕ) → IsStart bytes → full ≤ length bytes)
    → ((bytes : List ℕ) → IsStart bytes → Laid full target full bytes old settled) → Synced r old settled new settled' → OnOk r ((bytes : List ℕ) → IsStart bytes → (now : List ℕ) × IsQuiet new settled' now × IsFilled full target bytes now)
filled_if (Ok x) full target IsStart old new settled settled' long wide laid s = λ bytes is. laid_settled full target bytes old new settled settled' long (wide bytes is) (laid bytes is) s
filled_if (Err e) full target IsStart old new settled settled' long wide laid s = tt
