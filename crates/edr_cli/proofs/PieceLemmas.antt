-- What is audited has one first line, and so one way to be parted.
use Rattle.std.proofs.Common.{◌≡◌, ◌≢◌, ◌∙◌, refl, sym, ap, subst, arith, ℕ, zero, ◌+◌, ◌-◌, ◌<◌, ◌≤◌, ◌^◌, Bool, true, false, nat_lt, nat_le, List, [], ◌∷◌, ◌++◌, length, take, drop, slice_index, nat_eq, suc, Option, Some, None, Result, Ok, Err, OnOk, IfSome, min, length-append, length-drop}
use Rattle.std.specs.List.{position, position_or_len}
use Rattle.std.proofs.lemmas.Bool.Decides.{nat_tests}
use Rattle.std.proofs.lemmas.List.{get_or_append_left, get_or-append_right, get_or-take, length-take, drop_more, take-append-drop, take_min}
use Rattle.std.proofs.lemmas.List.Quantifiers.{position-Some}
use Rattle.std.proofs.lemmas.List.Sums.{fails_before_first}
use Rattle.std.proofs.Math.Seq.{drop-append_seam, get_or-append_seam, take-append_seam, take-length}
use Rattle.std.proofs.Math.Nat.{min_comm}
use Rattle.std.specs.Result.{result_ok}
use Rattle.edr_device.specs.Device.{Shows}
use Rattle.edr_spell.specs.Spell.{largest_trace}
use Rattle.edr_text.specs.declared.NumberRefused.{NumberRefused}
use Rattle.edr_text.specs.Numbers.{below, is_digit, is_numeral, natural_in, numeral}
use Rattle.edr_text.proofs.NumberLemmas.{numeral-not}
use Rattle.edr_text.proofs.ReadingLemmas.{below-numeral, below-spelled}
use Rattle.edr_text.proofs.SpellingLemmas.{is_numeral-numeral, natural_in-numeral}
use Rattle.edr_cli.specs.Audits.{ArePieces, lengths_line}
use Rattle.edr_cli.specs.FirstLines.{Lacks}

-- ---- what lacks a byte

true_false : (b : Bool) → b ≡ true → b ≡ false → ⊥
true_false b t f = let both : true ≡ false = sym t ∙ f in cc

lacks_numeral : (c n : ℕ) → is_digit c ≡ false → Lacks c (numeral n)
lacks_numeral c n other k below same = true_false (is_numeral (numeral n)) (is_numeral-numeral n).0 (numeral-not (numeral n) k below (ap is_digit same ∙ other))

lacks_both : (c : ℕ) (x y : List ℕ) → Lacks c x → Lacks c y → Lacks c (x ++ y)
lacks_both c x y first second k below = by_place (nat_lt k (length x)) refl where
  by_place : (b : Bool) → nat_lt k (length x) ≡ b → slice_index (x ++ y) k ≢ c
  by_place true is same = first k (grind (arith, nat_tests, is)) (sym (get_or_append_left x y 0 k (grind (arith, nat_tests, is))) ∙ same)
  by_place false is same =
      let from : length x ≤ k = grind (arith, nat_tests, is) in
      let long = length-append x y in
      second (k - length x) (omega (arith, below, long, from)) (sym (get_or-append_right x y (length x) k 0 refl from) ∙ same)

lacks_one : (c d : ℕ) → d ≢ c → Lacks c (d ∷ [])
lacks_one c d other zero below = other
lacks_one c d other (suc k) below = absurd (omega (arith, below))

-- the first line has no line feed before its own
lacks_line : (a b : ℕ) → Lacks 10 (lengths_line a b)
lacks_line a b = lacks_both 10 (numeral a) (32 ∷ numeral b) (lacks_numeral 10 a refl)
    (lacks_both 10 (32 ∷ []) (numeral b) (lacks_one 10 32 (λ e. omega (arith, e))) (lacks_numeral 10 b refl))

-- ---- what is parted by a byte

-- the byte isn't missing where it stands
pub lacks_not : (c : ℕ) (x y : List ℕ) → Lacks c (x ++ c ∷ y) → ⊥
lacks_not c x y none = let long = length-append x (c ∷ y) in none (length x) (omega (arith, long)) (get_or-append_seam x c y 0)

no_later : (c : ℕ) (x y x' y' : List ℕ) → Lacks c x' → x ++ c ∷ y ≡ x' ++ c ∷ y' → length x' ≤ length x
no_later c x y x' y' none same = by_test (nat_le (length x') (length x)) refl where
  by_test : (b : Bool) → nat_le (length x') (length x) ≡ b → length x' ≤ length x
  by_test true is = grind (arith, nat_tests, is)
  by_test false is =
      let more : length x < length x' = grind (arith, nat_tests, is) in
      absurd (none (length x) more (sym (get_or_append_left x' (c ∷ y') 0 (length x) more) ∙ ap (λ (l : List ℕ). slice_index l (length x)) (sym same) ∙ get_or-append_seam x c y 0))

-- bytes are parted by the first of a kind in one way
pub parted_once : (c : ℕ) (x y x' y' : List ℕ) → Lacks c x → Lacks c x' → x ++ c ∷ y ≡ x' ++ c ∷ y' → (x ≡ x') × (y ≡ y')
parted_once c x y x' y' none none' same =
    let one = no_later c x y x' y' none' same in
    let other = no_later c x' y' x y none (sym same) in
    let long : length x ≡ length x' = omega (arith, one, other) in
    let rest : c ∷ y ≡ c ∷ y' = sym (drop-append_seam x (c ∷ y)) ∙ ap (λ (l : List ℕ). drop (length x) l) same ∙ ap (λ (n : ℕ). drop n (x' ++ c ∷ y')) long ∙ drop-append_seam x' (c ∷ y') in
    (sym (take-append_seam x (c ∷ y)) ∙ ap (λ (l : List ℕ). take (length x) l) same ∙ ap (λ (n : ℕ). take n (x' ++ c ∷ y')) long ∙ take-append_seam x' (c ∷ y'), tail_is rest)
  where
    tail_is : c ∷ y ≡ c ∷ y' → y ≡ y'
    tail_is e = cc

-- ---- what the first place of a byte says

test_false : (b c : ℕ) → nat_eq b c ≡ false → b ≢ c
test_false b c fails = grind (arith, nat_tests)

test_true : (b c : ℕ) → nat_eq b c ≡ true → b ≡ c
test_true b c passes = grind (arith, nat_tests)

-- there is none
pub no_place : (c : ℕ) (xs : List ℕ) → position (λ b. nat_eq b c) xs ≡ None → Lacks c xs
no_place c xs none k below = test_false (slice_index xs k) c (fails_before_first (λ b. nat_eq b c) xs k 0 (by_test (nat_lt (position_or_len (λ b. nat_eq b c) xs) (length xs)) refl none)) where
  by_test : (t : Bool) → nat_lt (position_or_len (λ b. nat_eq b c) xs) (length xs) ≡ t → position (λ b. nat_eq b c) xs ≡ None → k < position_or_len (λ b. nat_eq b c) xs
  by_test true is e = absurd cc
  by_test false is e = grind (arith, nat_tests, is, below)

-- it stands there, and not before
pub first_place : (c : ℕ) (xs : List ℕ) (i : ℕ) → position (λ b. nat_eq b c) xs ≡ Some i → (i < length xs) × (slice_index xs i ≡ c) × Lacks c (take i xs)
first_place c xs i is =
    let p = position-Some (λ b. nat_eq b c) xs i 0 is in (
      p.0,
      test_true (slice_index xs i) c p.1,
      λ k below same.
          let early : k < i = omega (arith, below, length-take i xs) in
          test_false (slice_index xs k) c (p.2 k early) (sym (get_or-take i xs k 0 early) ∙ same),
    )

-- ---- the first line

same_number : (a b : ℕ) → numeral a ≡ numeral b → a ≡ b
same_number a b e = some_is (sym (natural_in-numeral a) ∙ ap natural_in e ∙ natural_in-numeral b) where
  some_is : Some a ≡ Some b → a ≡ b
  some_is s = cc

-- its two numbers
pub line_parts : (a b : ℕ) (x y : List ℕ) → Lacks 32 x → x ++ 32 ∷ y ≡ lengths_line a b → (x ≡ numeral a) × (y ≡ numeral b)
line_parts a b x y none same = parted_once 32 x y (numeral a) (numeral b) none (lacks_numeral 32 a refl) same

pub no_line : (a b : ℕ) (line : List ℕ) → Lacks 32 line → line ≡ lengths_line a b → ⊥
no_line a b line none same = lacks_not 32 (numeral a) (numeral b) (subst (Lacks 32) same none)

pub line_numbers : (a b n m : ℕ) → lengths_line n m ≡ lengths_line a b → (n ≡ a) × (m ≡ b)
line_numbers a b n m same =
    let p = line_parts a b (numeral n) (numeral m) (lacks_numeral 32 n refl) same in
    (same_number n a p.0, same_number m b p.1)

-- where bytes have pieces, their first line tells them
pub pieces_line : (bytes before trace report line rest : List ℕ) → ArePieces bytes before trace report → Lacks 10 line → bytes ≡ line ++ 10 ∷ rest
    → (line ≡ lengths_line (length before) (length trace)) × (rest ≡ before ++ trace ++ report)
pieces_line bytes before trace report line rest p none is =
    parted_once 10 line rest (lengths_line (length before) (length trace)) (before ++ trace ++ report) none (lacks_line (length before) (length trace)) (sym is ∙ p.listed)

pub pieces_feed : (bytes before trace report : List ℕ) → ArePieces bytes before trace report → Lacks 10 bytes → ⊥
pieces_feed bytes before trace report p none = lacks_not 10 (lengths_line (length before) (length trace)) (before ++ trace ++ report) (subst (Lacks 10) p.listed none)

-- bytes are parted where one stands
pub parts_there : (c : ℕ) (xs : List ℕ) (i : ℕ) → i < length xs → slice_index xs i ≡ c → xs ≡ take i xs ++ c ∷ drop (i + 1) xs
parts_there c xs i below same =
    sym (take-append-drop i xs) ∙ ap (λ (l : List ℕ). take i xs ++ l) (drop_more xs i 0 below ∙ ap (λ (b : ℕ). b ∷ drop (i + 1) xs) same)

-- as slices
pub sliced_there : (c : ℕ) (xs : List ℕ) (i : ℕ) → position (λ b. nat_eq b c) xs ≡ Some i → xs ≡ take i xs ++ c ∷ take (length xs - (i + 1)) (drop (i + 1) xs)
sliced_there c xs i is =
    let p = first_place c xs i is in
    let rest : take (length xs - (i + 1)) (drop (i + 1) xs) ≡ drop (i + 1) xs = ap (λ (n : ℕ). take n (drop (i + 1) xs)) (sym (length-drop (i + 1) xs)) ∙ take-length (drop (i + 1) xs) in
    parts_there c xs i p.0 p.1 ∙ ap (λ (l : List ℕ). take i xs ++ c ∷ l) (sym rest)

-- ---- how the numbers of the first line are read

-- the one spelling of a number is read
pub read_none : (x : List ℕ) (a : ℕ) (r : Result ℕ NumberRefused) → x ≡ numeral a → a < 2 ^ 64 → r ≡ below (2 ^ 64) (natural_in x) → result_ok r ≡ None → ⊥
read_none x a r is small reads none = go (sym (ap result_ok (reads ∙ ap (λ (l : List ℕ). below (2 ^ 64) (natural_in l)) is ∙ below-numeral (2 ^ 64) a small)) ∙ none) where
  go : Some a ≡ None → ⊥
  go e = cc

-- and what is read was spelled
pub read_some : (x : List ℕ) (n : ℕ) (r : Result ℕ NumberRefused) → r ≡ below (2 ^ 64) (natural_in x) → result_ok r ≡ Some n → numeral n ≡ x
read_some x n r reads some = below-spelled (2 ^ 64) x n (sym reads ∙ ok_of r some) where
  ok_of : (q : Result ℕ NumberRefused) → result_ok q ≡ Some n → q ≡ Ok n
  ok_of (Ok m) e = cc
  ok_of (Err e) other = absurd cc

-- the numbers are small
pub pieces_small : (bytes before trace report : List ℕ) → ArePieces bytes before trace report → length bytes ≤ largest_trace → (length before < 2 ^ 64) × (length trace < 2 ^ 64)
pieces_small bytes before trace report p few =
    let whole = ap length p.listed in
    let first = length-append (lengths_line (length before) (length trace)) (10 ∷ (before ++ trace ++ report)) in
    let second = length-append (before ++ trace) report in
    let third = length-append before trace in
    (omega (arith, whole, first, second, third, few), omega (arith, whole, first, second, third, few))

-- what follows the first line is long enough
pub pieces_follow : (before trace report rest : List ℕ) → rest ≡ before ++ trace ++ report → length before + length trace ≤ length rest
pieces_follow before trace report rest is =
    let whole = ap length is in
    let second = length-append (before ++ trace) report in
    let third = length-append before trace in
    omega (arith, whole, second, third)

-- ---- the first bytes of a device

pub first_shown : {T E : Type 0} (r : Result T E) (piece : List ℕ) (content : Option (List ℕ)) (extent : ℕ) → length piece ≡ min extent 16480
    → ((bytes : List ℕ) → content ≡ Some bytes → length bytes ≡ extent) → OnOk r (Shows 0 piece content) → OnOk r (IfSome content (λ image. piece ≡ take 16480 image))
first_shown (Err e) piece content extent long size shown = shown
first_shown (Ok x) piece None extent long size shown = tt
first_shown (Ok x) piece (Some b) extent long size shown =
    shown ∙ ap (λ (n : ℕ). take n b) (long ∙ ap (λ (n : ℕ). min n 16480) (sym (size b refl)) ∙ min_comm (length b) 16480) ∙ take_min 16480 b
