-- Byte 0 is taken from the magic first and put last.
use Rattle.std.proofs.Common.{◌≡◌, ◌≢◌, ◌⊎◌, ◌≤◌, ◌<◌, ◌+◌, ◌++◌, ◌∙◌, cond, not, ℕ, Bool, true, false, List, [], ◌∷◌, length, drop, slice_index, nat_eq, Option, Some, refl, sym, ap, subst, inl, inr, ⊎_elim, arith, length-drop}
use Rattle.std.specs.Prelude.{find, is_some}
use Rattle.std.specs.List.{range_with_len}
use Rattle.std.proofs.lemmas.Grind.{common_steps, same_number_lists}
use Rattle.std.proofs.lemmas.Bool.Decides.{nat_tests}
use Rattle.edr_device.specs.Device.{IsQuiet, MayLeave, is_in}
use Rattle.edr_device.specs.Pieces.{SameBut, put_at}
use Rattle.edr_device.proofs.SettlingLemmas.{put_same, quiet_leaves}
use Rattle.edr_image.specs.Image.{magic}
use Rattle.edr_banks.specs.Laying.{IsFilled, IsImageOf, IsLaidOver, IsPartlyOver, IsUnmarked, IsUnmarking, LacksMagic, StandsPast, first_magic, over}
use Rattle.edr_banks.proofs.LaidPieceLemmas.{over_past, over_size, over_there}

-- ---- the magic

pub lacks : (image : List ℕ) → slice_index image 0 ≢ first_magic → LacksMagic image
lacks image other = by_test (nat_eq (slice_index image 0) first_magic) refl where
  rest : Option ℕ
  rest = find (λ k. not (nat_eq (slice_index image k) (slice_index magic k))) (range_with_len 1 7)

  by_test : (b : Bool) → nat_eq (slice_index image 0) first_magic ≡ b → is_some (cond (not b) (Some 0) rest) ≡ true
  by_test true same = absurd (other (grind (arith, same)))
  by_test false apart = refl

is_first_or_not : (n : ℕ) → (n ≡ first_magic) ⊎ (n ≢ first_magic)
is_first_or_not n = by_test (nat_eq n first_magic) refl where
  by_test : (b : Bool) → nat_eq n first_magic ≡ b → (n ≡ first_magic) ⊎ (n ≢ first_magic)
  by_test true same = inl (grind (arith, same))
  by_test false apart = inr (λ e. absurd (grind (arith, apart, e)))

-- ---- only byte 0 may have changed

not_first : (i : ℕ) → 1 ≤ i → is_in 0 1 i ≡ false
not_first i low = grind (arith, nat_tests)

first_too : (bytes image : List ℕ) → SameBut 0 1 bytes image → slice_index image 0 ≡ slice_index bytes 0 → image ≡ bytes
first_too bytes image but here = same_number_lists image bytes but.size (λ i below. by_place i below) where
  by_place : (i : ℕ) → i < length image → slice_index image i ≡ slice_index bytes i
  by_place i below = ⊎_elim
      (λ (at_first : i ≡ 0). subst (λ (k : ℕ). slice_index image k ≡ slice_index bytes k) (sym at_first) here)
      (λ (later : 1 ≤ i). but.same i (omega (arith, but.size)) (not_first i later))
      (first_or_later i)
    where
      first_or_later : (i : ℕ) → (i ≡ 0) ⊎ (1 ≤ i)
      first_or_later i = grind arith

past_but : (full : ℕ) (bytes image : List ℕ) → 0 < full → SameBut 0 1 bytes image → StandsPast full bytes image
past_but full bytes image some but = λ i from below. but.same i below (not_first i (omega arith))

pub unmarking_marked : (bytes image : List ℕ) → slice_index bytes 0 ≡ first_magic → SameBut 0 1 bytes image → IsUnmarking bytes image
unmarking_marked bytes image marked but = ⊎_elim
    (λ (same : slice_index image 0 ≡ first_magic). inl (first_too bytes image but (same ∙ sym marked)))
    (λ (apart : slice_index image 0 ≢ first_magic). inr (but, apart))
    (is_first_or_not (slice_index image 0))

put_first : (b : ℕ) (bytes : List ℕ) → slice_index (put_at 0 (b ∷ []) bytes) 0 ≡ b
put_first b bytes = refl

-- after another byte was put in its place
pub unmarked_put : (bytes : List ℕ) → slice_index (put_at 0 (0 ∷ []) bytes) 0 ≢ first_magic
unmarked_put bytes e = absurd (omega (arith, e))

-- ---- what each moment may leave

pub unmarking_part : (full : ℕ) (target bytes image : List ℕ) → 0 < full → IsUnmarking bytes image → IsPartlyOver full target bytes image
unmarking_part full target bytes image some (inl same) = record { size = ap length same; past = λ i from below. ap (λ (xs : List ℕ). slice_index xs i) same; says = inl same }
unmarking_part full target bytes image some (inr (but, apart)) = record { size = but.size; past = past_but full bytes image some but; says = inr (inl (lacks image apart)) }

pub unmarked_part : (full : ℕ) (target bytes image : List ℕ) → IsUnmarked full bytes image → IsPartlyOver full target bytes image
unmarked_part full target bytes image is = record { size = is.size; past = is.past; says = inr (inl (lacks image is.first)) }

over_first : (full : ℕ) (target bytes : List ℕ) → IsImageOf full target → full ≤ length bytes → slice_index (over full target bytes) 0 ≡ first_magic
over_first full target bytes is wide = over_there full target bytes 0 is.size wide is.some ∙ is.marked

pub filled_part : (full : ℕ) (target bytes now image : List ℕ) → IsImageOf full target → full ≤ length bytes → IsFilled full target bytes now → SameBut 0 1 now image → IsPartlyOver full target bytes image
filled_part full target bytes now image is wide filled but =
    let long = over_size full target bytes is.size wide in
    let chain : SameBut 0 1 (over full target bytes) image = record {
      size = but.size ∙ filled.same.size;
      same = λ i below out. but.same i (omega (arith, filled.same.size)) out ∙ filled.same.same i below out;
    } in
    record {
      size = chain.size ∙ long;
      past = λ i from below. chain.same i (omega (arith, long)) (not_first i (omega arith)) ∙ over_past full target bytes i is.size wide from;
      says = ⊎_elim
          (λ (same : slice_index image 0 ≡ first_magic). inr (inr (first_too (over full target bytes) image chain (same ∙ sym (over_first full target bytes is wide)))))
          (λ (apart : slice_index image 0 ≢ first_magic). inr (inl (lacks image apart)))
          (is_first_or_not (slice_index image 0));
    }

-- the first byte is put last
pub filled_put : (full : ℕ) (target bytes now : List ℕ) → IsImageOf full target → full ≤ length bytes → IsFilled full target bytes now → put_at 0 (first_magic ∷ []) now ≡ over full target bytes
filled_put full target bytes now is wide filled =
    let long = over_size full target bytes is.size wide in
    let fits : 0 + length (first_magic ∷ []) ≤ length now = omega (arith, filled.same.size) in
    let put = put_same 0 (first_magic ∷ []) now fits in
    first_too (over full target bytes) (put_at 0 (first_magic ∷ []) now) (record {
      size = put.size ∙ filled.same.size;
      same = λ i below out. put.same i (omega (arith, filled.same.size)) out ∙ filled.same.same i below out;
    })
    (sym (over_first full target bytes is wide))

-- where nothing was done
pub left_part : (full : ℕ) (target bytes : List ℕ) (content : Option (List ℕ)) (settled : ℕ → Bool) (image : List ℕ) → 0 < full → IsQuiet content settled bytes → MayLeave content settled image → IsPartlyOver full target bytes image
left_part full target bytes content settled image some quiet left = unmarking_part full target bytes image some (inl (quiet_leaves bytes content settled image quiet left))

-- ---- over bytes of which only the first was another one

dropped : (n k : ℕ) (xs : List ℕ) → slice_index (drop n xs) k ≡ slice_index xs (n + k)
dropped n k xs = grind (arith, common_steps)

drop_same : (n : ℕ) (bytes image : List ℕ) → 1 ≤ n → SameBut 0 1 bytes image → drop n image ≡ drop n bytes
drop_same n bytes image low but =
    let long : length (drop n image) ≡ length (drop n bytes) = simp length-drop (rw but.size refl) in
    same_number_lists (drop n image) (drop n bytes) long (λ k below.
    let inside : n + k < length bytes = omega (arith, long, length-drop n bytes) in
    dropped n k image ∙ but.same (n + k) inside (not_first (n + k) (omega arith)) ∙ sym (dropped n k bytes))

pub over_same : (full : ℕ) (target bytes image : List ℕ) → 0 < full → SameBut 0 1 bytes image → over full target image ≡ over full target bytes
over_same full target bytes image some but = ap (λ (xs : List ℕ). target ++ xs) (drop_same full bytes image (omega arith) but)

pub part_before : (full : ℕ) (target bytes now image : List ℕ) → 0 < full → SameBut 0 1 bytes now → slice_index now 0 ≢ first_magic → IsPartlyOver full target now image → IsPartlyOver full target bytes image
part_before full target bytes now image some but bare part = record {
  size = part.size ∙ but.size;
  past = λ i from below. part.past i from (omega (arith, but.size)) ∙ but.same i below (not_first i (omega arith));
  says = ⊎_elim
      (λ (same : image ≡ now). inr (inl (lacks image (λ e. bare (sym (ap (λ (xs : List ℕ). slice_index xs 0) same) ∙ e)))))
      (λ (other : LacksMagic image ⊎ IsLaidOver full target now image). ⊎_elim
      (λ (none : LacksMagic image). inr (inl none))
      (λ (new : IsLaidOver full target now image). inr (inr (new ∙ over_same full target bytes now some but)))
      other)
      part.says;
}
