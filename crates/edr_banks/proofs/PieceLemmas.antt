-- The pieces in which an image is written.
use Rattle.std.proofs.Common.{◌≡◌, ◌≤◌, ◌<◌, ◌+◌, ◌∙◌, ℕ, List, length, take, drop, slice_index, ap, arith}
use Rattle.std.specs.Prelude.{slice_range}
use Rattle.std.proofs.lemmas.Grind.{common_steps, get_or_after_one}
use Rattle.std.proofs.lemmas.List.{get_or-take}
use Rattle.edr_banks.proofs.LaidPieceLemmas.{IsPieceOf}

pub range_size : (xs : List ℕ) (at n : ℕ) → at + n ≤ length xs → length (slice_range xs at (at + n)) ≡ n
range_size xs at n fits = grind (arith, common_steps)

pub range_at : (xs : List ℕ) (at n j : ℕ) → j < n → slice_index (slice_range xs at (at + n)) j ≡ slice_index xs (at + j)
range_at xs at n j below = grind (arith, common_steps)

within : (xs : List ℕ) (n m j : ℕ) → 1 + m ≤ n → n ≤ length xs → j < m → slice_index (take m (drop 1 (take n xs))) j ≡ slice_index xs (1 + j)
within xs n m j some long below = get_or-take m (drop 1 (take n xs)) j 0 below ∙ get_or_after_one (take n xs) j 0 ∙ get_or-take n xs (1 + j) 0 (omega arith)

within_size : (xs : List ℕ) (n m : ℕ) → 1 + m ≤ n → n ≤ length xs → length (take m (drop 1 (take n xs))) ≡ m
within_size xs n m some long = grind (arith, common_steps)

-- the bytes that are written first
pub head_size : (target first : List ℕ) → 96 ≤ length target → first ≡ take 96 target → length (take 95 (drop 1 first)) ≡ 95
head_size target first long is = rw is (within_size target 96 95 (omega arith) long)

pub head_piece : (target first : List ℕ) → 96 ≤ length target → first ≡ take 96 target → IsPieceOf target 1 (take 95 (drop 1 first))
head_piece target first long is = λ j below.
    ap (λ (xs : List ℕ). slice_index (take 95 (drop 1 xs)) j) is ∙ within target 96 95 j (omega arith) long (omega (arith, head_size target first long is))

-- and those of a bank
pub piece_size : (target piece : List ℕ) (at n : ℕ) → at + n ≤ length target → piece ≡ slice_range target at (at + n) → length piece ≡ n
piece_size target piece at n fits is = ap length is ∙ range_size target at n fits

pub bank_piece : (target piece : List ℕ) (at n : ℕ) → at + n ≤ length target → piece ≡ slice_range target at (at + n) → IsPieceOf target at piece
bank_piece target piece at n fits is = λ j below.
    let long = piece_size target piece at n fits is in
    ap (λ (xs : List ℕ). slice_index xs j) is ∙ range_at target at n j (omega (arith, long))
