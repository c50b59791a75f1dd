-- Lists inside and outside a range that was written.
use Rattle.std.proofs.Common.{◌≡◌, ◌⊎◌, ◌≤◌, ◌<◌, ◌+◌, ◌-◌, ◌&&◌, ◌∙◌, ℕ, Bool, true, false, not, List, length, replicate, slice_index, slice_index_or, refl, ⊎_elim, arith}
use Rattle.std.proofs.lemmas.Bool.{false≢true}
use Rattle.std.proofs.lemmas.Bool.Decides.{nat_tests}
use Rattle.std.proofs.lemmas.Grind.{common_steps}
use Rattle.std.proofs.lemmas.List.{length-replicate, get_or-replicate}
use Rattle.edr_device.specs.Device.{is_in}
use Rattle.edr_device.specs.Pieces.{put_at}

-- before the range, after it, and inside
pub put_before : {A : Type 0} (xs piece : List A) (at i : ℕ) (d : A) → at + length piece ≤ length xs → i < at → slice_index_or (put_at at piece xs) i d ≡ slice_index_or xs i d
put_before xs piece at i d fits before = grind (arith, common_steps)

pub put_behind : {A : Type 0} (xs piece : List A) (at i : ℕ) (d : A) → at + length piece ≤ length xs → at + length piece ≤ i → slice_index_or (put_at at piece xs) i d ≡ slice_index_or xs i d
put_behind xs piece at i d fits behind = grind (arith, common_steps)

pub put_inside : {A : Type 0} (xs piece : List A) (at i : ℕ) (d : A) → at + length piece ≤ length xs → at ≤ i → i < at + length piece → slice_index_or (put_at at piece xs) i d ≡ slice_index_or piece (i - at) d
put_inside xs piece at i d fits from before = grind (arith, common_steps)

pub length-put_at : {A : Type 0} (xs piece : List A) (at : ℕ) → at + length piece ≤ length xs → length (put_at at piece xs) ≡ length xs
length-put_at xs piece at fits = grind (arith, common_steps)

aside : (at n i : ℕ) → is_in at n i ≡ false → (i < at) ⊎ (at + n ≤ i)
aside at n i out = grind (arith, nat_tests)

within : (at n i : ℕ) → is_in at n i ≡ true → (at ≤ i) × (i < at + n)
within at n i in_range = grind (arith, nat_tests)

pub put_aside : {A : Type 0} (xs piece : List A) (at i : ℕ) (d : A) → at + length piece ≤ length xs → is_in at (length piece) i ≡ false → slice_index_or (put_at at piece xs) i d ≡ slice_index_or xs i d
put_aside xs piece at i d fits out = ⊎_elim (put_before xs piece at i d fits) (put_behind xs piece at i d fits) (aside at (length piece) i out)

pub outside_part : (xs piece ys : List ℕ) (at i : ℕ) → ys ≡ put_at at piece xs → at + length piece ≤ length xs → is_in at (length piece) i ≡ false → slice_index ys i ≡ slice_index xs i
outside_part xs piece ys at i e fits out = rw e (put_aside xs piece at i 0 fits out)

pub written_size : (xs piece ys : List ℕ) (at : ℕ) → ys ≡ put_at at piece xs → at + length piece ≤ length xs → length ys ≡ length xs
written_size xs piece ys at e fits = rw e (length-put_at xs piece at fits)

-- flags that are unset in a range, and flags that are all set
pub unset_range : (flags : List Bool) (at n i : ℕ) → at + n ≤ length flags → slice_index_or (put_at at (replicate n false) flags) i true ≡ (slice_index_or flags i true && not (is_in at n i))
unset_range flags at n i fits = go (is_in at n i) refl
  where
    long : length (replicate n false) ≡ n
    long = length-replicate n false

    and_true : (b : Bool) → b ≡ (b && true)
    and_true true = refl
    and_true false = refl

    and_false : (b : Bool) → false ≡ (b && false)
    and_false true = refl
    and_false false = refl

    go : (b : Bool) → is_in at n i ≡ b → slice_index_or (put_at at (replicate n false) flags) i true ≡ (slice_index_or flags i true && not b)
    go false out = put_aside flags (replicate n false) at i true (rw long fits) (rw long out) ∙ and_true (slice_index_or flags i true)
    go true in_range = let k = within at n i in_range in
        put_inside flags (replicate n false) at i true (rw long fits) k.0 (rw long k.1) ∙ get_or-replicate n (i - at) false true (omega arith) ∙ and_false (slice_index_or flags i true)

pub all_set : (n i : ℕ) → slice_index_or (replicate n true) i true ≡ true
all_set n i = grind (arith, common_steps)

pub both_parts : (a b : Bool) → (a && not b) ≡ true → (a ≡ true) × (b ≡ false)
both_parts true true e = absurd (false≢true e)
both_parts true false e = (refl, refl)
both_parts false b e = absurd (false≢true e)
