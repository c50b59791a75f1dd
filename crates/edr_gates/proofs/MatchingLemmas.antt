-- Bytes that match others, at a place of their own: what is read from them is the same.
use Rattle.std.proofs.Common.{◌≡◌, ◌≤◌, ◌<◌, ◌+◌, ◌∙◌, ℕ, zero, suc, Option, Some, None, option_map, List, slice_index, slice_range, refl, sym, ap, arith}
use Rattle.edr_image.specs.declared.forms.TheConstants.{VERSION_2}
use Rattle.edr_image.specs.PartBytes.{crash_at, crash_damage, number_at, pre_at, pre_damage}
use Rattle.edr_codec.proofs.MovedLaws.{StandsAt, crash_at-moved, crash_damage-moved, pre_at-moved, pre_damage-moved, range-stands}
use Rattle.edr_codec.proofs.VersionLemmas.{version_2-form}

-- n bytes from a on are those of the other list from b on
pub record Match (xs : List ℕ) (a : ℕ) (ys : List ℕ) (b n : ℕ) : Type 0 where
  pub same : (j : ℕ) → j < n → slice_index xs (a + j) ≡ slice_index ys (b + j)

pub match_part : (xs : List ℕ) (a : ℕ) (ys : List ℕ) (b n k m : ℕ) → Match xs a ys b n → k + m ≤ n → Match xs (a + k) ys (b + k) m
match_part xs a ys b n k m h fits = record { same = λ j below. go j (h.same (k + j) (omega arith)) }
  where
    go : (j : ℕ) → slice_index xs (a + (k + j)) ≡ slice_index ys (b + (k + j)) → slice_index xs (a + k + j) ≡ slice_index ys (b + k + j)
    go j e =
        let left : a + k + j ≡ a + (k + j) = omega arith in
        let right : b + k + j ≡ b + (k + j) = omega arith in rw (left, right) e

pub match_first : (xs : List ℕ) (a : ℕ) (ys : List ℕ) (b n m : ℕ) → Match xs a ys b n → m ≤ n → Match xs a ys b m
match_first xs a ys b n m h fits = record { same = λ j below. h.same j (omega arith) }

pub match_back : (xs : List ℕ) (a : ℕ) (ys : List ℕ) (b n : ℕ) → Match xs a ys b n → Match ys b xs a n
match_back xs a ys b n h = record { same = λ j below. sym (h.same j below) }

pub match_chain : (xs : List ℕ) (a : ℕ) (ys : List ℕ) (b : ℕ) (zs : List ℕ) (c n : ℕ) → Match xs a ys b n → Match ys b zs c n → Match xs a zs c n
match_chain xs a ys b zs c n h g = record { same = λ j below. h.same j below ∙ g.same j below }

-- the first byte, and the others
match_here : (xs : List ℕ) (a : ℕ) (ys : List ℕ) (b n : ℕ) → Match xs a ys b (suc n) → slice_index xs a ≡ slice_index ys b
match_here xs a ys b n h =
    let left : a + 0 ≡ a = omega arith in
    let right : b + 0 ≡ b = omega arith in rw (left, right) at (h.same 0 (omega arith))

match_later : (xs : List ℕ) (a : ℕ) (ys : List ℕ) (b n : ℕ) → Match xs a ys b (suc n) → Match xs (a + 1) ys (b + 1) n
match_later xs a ys b n h = match_part xs a ys b (suc n) 1 n h (omega arith)

-- ---- numbers

pub match_number : (xs : List ℕ) (a : ℕ) (ys : List ℕ) (b n : ℕ) → Match xs a ys b n → number_at xs a n ≡ number_at ys b n
match_number xs a ys b zero h = refl
match_number xs a ys b (suc n) h =
    let left : suc a ≡ a + 1 = omega arith in
    let right : suc b ≡ b + 1 = omega arith in
    rw (match_here xs a ys b n h, left, right, match_number xs (a + 1) ys (b + 1) n (match_later xs a ys b n h)) refl

-- the number of n bytes, k bytes on
pub match_at : (xs : List ℕ) (a : ℕ) (ys : List ℕ) (b m k n : ℕ) → Match xs a ys b m → k + n ≤ m → number_at xs (a + k) n ≡ number_at ys (b + k) n
match_at xs a ys b m k n h fits = match_number xs (a + k) ys (b + k) n (match_part xs a ys b m k n h fits)

-- ---- parts: they say what their own bytes say

moved_none : (at : ℕ) (o : Option ℕ) → option_map (λ k. at + k) o ≡ None → o ≡ None
moved_none at None e = refl
moved_none at (Some k) e = absurd cc

-- the bytes that match those from a on are the same part
same_part : (xs : List ℕ) (a : ℕ) (ys : List ℕ) (b n : ℕ) → Match xs a ys b n → StandsAt n b ys (slice_range xs a (a + n))
same_part xs a ys b n h = λ i below. sym (h.same i below) ∙ range-stands xs a n i below

pub pre_none : (xs : List ℕ) (a : ℕ) (ys : List ℕ) (b : ℕ) → Match xs a ys b 848 → pre_damage xs a ≡ None → pre_damage ys b ≡ None
pre_none xs a ys b h e =
    let part = slice_range xs a (a + 848) in
    let none = moved_none a (pre_damage part 0) (sym (pre_damage-moved VERSION_2.pre version_2-form a xs part (range-stands xs a 848)) ∙ e) in
    pre_damage-moved VERSION_2.pre version_2-form b ys part (same_part xs a ys b 848 h) ∙ ap (option_map (λ k. b + k)) none

pub pre_same : (xs : List ℕ) (a : ℕ) (ys : List ℕ) (b : ℕ) → Match xs a ys b 848 → pre_at xs a ≡ pre_at ys b
pre_same xs a ys b h =
    let part = slice_range xs a (a + 848) in
    pre_at-moved VERSION_2.pre version_2-form a xs part (range-stands xs a 848) ∙ sym (pre_at-moved VERSION_2.pre version_2-form b ys part (same_part xs a ys b 848 h))

pub crash_none : (xs : List ℕ) (a : ℕ) (ys : List ℕ) (b : ℕ) → Match xs a ys b 160 → crash_damage xs a ≡ None → crash_damage ys b ≡ None
crash_none xs a ys b h e =
    let part = slice_range xs a (a + 160) in
    let none = moved_none a (crash_damage part 0) (sym (crash_damage-moved VERSION_2.crash a xs part (range-stands xs a 160)) ∙ e) in
    crash_damage-moved VERSION_2.crash b ys part (same_part xs a ys b 160 h) ∙ ap (option_map (λ k. b + k)) none

pub crash_same : (xs : List ℕ) (a : ℕ) (ys : List ℕ) (b : ℕ) → Match xs a ys b 160 → crash_at xs a ≡ crash_at ys b
crash_same xs a ys b h =
    let part = slice_range xs a (a + 160) in
    crash_at-moved VERSION_2.crash a xs part (range-stands xs a 160) ∙ sym (crash_at-moved VERSION_2.crash b ys part (same_part xs a ys b 160 h))
