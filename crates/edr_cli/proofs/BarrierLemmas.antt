-- What a barrier leaves.
use Rattle.std.proofs.Common.{◌≡◌, ◌∙◌, refl, sym, subst, ap, arith, ◌<◌, ℕ, Bool, true, false, List, length, slice_index, Option, Some, None, Result, Ok, Err}
use Rattle.std.specs.Result.{is_err}
use Rattle.std.proofs.lemmas.Grind.{same_number_lists}
use Rattle.std.proofs.lemmas.Bool.Decides.{nat_tests}
use Rattle.edr_device.specs.Device.{is_in, IsQuiet, MayLeave, Synced}

-- a sync that succeeds leaves the bytes and nothing pending
pub sync_settles : {T E : Type 0} (r : Result T E) (old new : Option (List ℕ)) (settled settled' : ℕ → Bool) (bytes : List ℕ) → Synced r old settled new settled' → is_err r ≡ false → old ≡ Some bytes → IsQuiet new settled' bytes
sync_settles (Ok x) (Some a) (Some b) settled settled' bytes told ok same = (ap (λ (x : List ℕ). Some x) told.0 ∙ same, told.1)
sync_settles (Ok x) None new settled settled' bytes told ok same = absurd cc
sync_settles (Ok x) (Some a) None settled settled' bytes told ok same = absurd told
sync_settles (Err e) old new settled settled' bytes told ok same = absurd cc

-- a sync that succeeds changes nothing that is told
pub sync_stays : {T E : Type 0} (r : Result T E) (old new : Option (List ℕ)) (settled settled' : ℕ → Bool) → Synced r old settled new settled' → is_err r ≡ false → new ≡ old
sync_stays (Ok x) (Some a) (Some b) settled settled' told ok = ap (λ (x : List ℕ). Some x) told.0
sync_stays (Ok x) None None settled settled' told ok = refl
sync_stays (Ok x) (Some a) None settled settled' told ok = absurd told
sync_stays (Ok x) None (Some b) settled settled' told ok = absurd told
sync_stays (Err e) old new settled settled' told ok = absurd cc

none_in : (i : ℕ) → is_in 0 0 i ≡ false
none_in i = grind (arith, nat_tests)

-- where nothing was pending, a sync that fails leaves the bytes
pub sync_leaves : {T E : Type 0} (r : Result T E) (old new : Option (List ℕ)) (settled settled' : ℕ → Bool) (bytes image : List ℕ) → Synced r old settled new settled' → is_err r ≡ true → IsQuiet old settled bytes → MayLeave new settled' image → image ≡ bytes
sync_leaves (Ok x) old new settled settled' bytes image told err quiet left = absurd cc
sync_leaves (Err e) None new settled settled' bytes image told err quiet left = absurd cc
sync_leaves (Err e) (Some a) None settled settled' bytes image told err quiet left = absurd told
sync_leaves (Err e) (Some a) (Some b) settled settled' bytes image told err quiet left = kept ∙ is where
  is : a ≡ bytes
  is = cc

  kept : image ≡ a
  kept = same_number_lists image a (left.size ∙ told.size) (λ i below. by_place i below) where
    by_place : (i : ℕ) → i < length image → slice_index image i ≡ slice_index a i
    by_place i below =
        let inside : i < length a = subst (λ (n : ℕ). i < n) (left.size ∙ told.size) below in
        let k = told.same i inside (quiet.1 i) (none_in i) in
        left.same i (subst (λ (n : ℕ). i < n) (sym told.size) inside) k.1 ∙ k.0
