-- What spells a number, digit by digit.
use Rattle.std.proofs.Common.{arith, ◌≡◌, ◌≢◌, ◌∙◌, ap, refl, ℕ, zero, suc, ◌+◌, ◌-◌, ◌*◌, ◌<◌, ◌≤◌, Bool, true, false, not, ◌&&◌, ◌||◌, eqb, List, [], ◌∷◌, ◌++◌, length, get_or, take, Some, None, option_map, pos, ◌^◌, add-one}
use Rattle.std.proofs.lemmas.Bool.Decides.{nat_tests}
use Rattle.std.proofs.lemmas.List.{take_more}
use Rattle.std.proofs.lemmas.List.Folds.{list_all-append}
use Rattle.std.specs.List.{list_all}
use Rattle.std.proofs.Math.Nat.{pow-le-pow_right, pow-suc}
use Rattle.edr_text.specs.Numbers.{StartsAsNumeral, is_digit, is_numeral, value_after, value_of, natural_in, integer_in}

pub value_after-push : (n : ℕ) (bs : List ℕ) (b : ℕ) → value_after n (bs ++ b ∷ []) ≡ 10 * value_after n bs + (b - 48)
value_after-push n [] b = refl
value_after-push n (c ∷ bs) b = value_after-push (10 * n + (c - 48)) bs b

-- one more digit
pub value_of-more : (bs : List ℕ) (i : ℕ) → i < length bs → value_of (take (i + 1) bs) ≡ 10 * value_of (take i bs) + (get_or bs i 0 - 48)
value_of-more bs i h = ap value_of (take_more bs i 0 h) ∙ value_after-push 0 (take i bs) (get_or bs i 0)

and-true : (a b : Bool) → a ≡ true → b ≡ true → (a && b) ≡ true
and-true a b p q = rw (p, q) refl

is_digit-true : (b : ℕ) → 48 ≤ b → b ≤ 57 → is_digit b ≡ true
is_digit-true b low high = grind (arith, nat_tests)

pub is_digit-false : (b : ℕ) → b < 48 → is_digit b ≡ false
is_digit-false b h = grind (arith, nat_tests)

pub is_digit-false_high : (b : ℕ) → 57 < b → is_digit b ≡ false
is_digit-false_high b h = grind (arith, nat_tests)

pub digits-more : (bs : List ℕ) (i : ℕ) → i < length bs → list_all is_digit (take i bs) ≡ true → 48 ≤ get_or bs i 0 → get_or bs i 0 ≤ 57 → list_all is_digit (take (i + 1) bs) ≡ true
digits-more bs i h all low high =
    ap (list_all is_digit) (take_more bs i 0 h) ∙ list_all-append is_digit (take i bs) (get_or bs i 0 ∷ [])
    ∙ and-true _ _ all (and-true _ _ (is_digit-true _ low high) refl)

-- a list that has a byte that is no digit
pub digits-not : (bs : List ℕ) (i : ℕ) → i < length bs → is_digit (get_or bs i 0) ≡ false → list_all is_digit bs ≡ false
digits-not [] i h e = absurd (omega arith)
digits-not (b ∷ bs) zero h e = rw e refl
digits-not (b ∷ bs) (suc i) h e = rw (digits-not bs i (omega arith) e) (by (is_digit b))
  where
    by : (x : Bool) → (x && false) ≡ false
    by true = refl
    by false = refl

pub numeral-not : (bs : List ℕ) (i : ℕ) → i < length bs → is_digit (get_or bs i 0) ≡ false → is_numeral bs ≡ false
numeral-not [] i h e = absurd (omega arith)
numeral-not (b ∷ bs) i h e = rw (digits-not (b ∷ bs) i h e) refl

pub numeral-is : (bs : List ℕ) → StartsAsNumeral bs → list_all is_digit bs ≡ true → is_numeral bs ≡ true
numeral-is [] h all = absurd (omega (arith, h.0))
numeral-is (b ∷ bs) h all = and-true _ _ all (by b (length bs) (λ e. omega (arith, h.1 e)))
  where
    by : (x n : ℕ) → (x ≡ 48 → n ≡ 0) → (not (eqb x 48) || eqb n 0) ≡ true
    by x n k = grind (arith, nat_tests)

pub numeral-zeros : (bs : List ℕ) → get_or bs 0 0 ≡ 48 → 2 ≤ length bs → is_numeral bs ≡ false
numeral-zeros [] e h = absurd (omega arith)
numeral-zeros (b ∷ bs) e h = rw (by b (length bs) e (omega arith)) (last (list_all is_digit (b ∷ bs)))
  where
    by : (x n : ℕ) → x ≡ 48 → 1 ≤ n → (not (eqb x 48) || eqb n 0) ≡ false
    by x n p q = grind (arith, nat_tests)

    last : (x : Bool) → (x && false) ≡ false
    last true = refl
    last false = refl

pub natural_in-none : (bs : List ℕ) → is_numeral bs ≡ false → natural_in bs ≡ None
unfolding natural_in
natural_in-none bs h = rw h refl

pub natural_in-some : (bs : List ℕ) → is_numeral bs ≡ true → natural_in bs ≡ Some (value_of bs)
unfolding natural_in
natural_in-some bs h = rw h refl

-- bytes with no `-` in front
pub integer_in-plain : (bs : List ℕ) → get_or bs 0 0 ≢ 45 → integer_in bs ≡ option_map pos (natural_in bs)
unfolding integer_in natural_in
integer_in-plain [] h = refl
integer_in-plain (b ∷ bs) h = rw (eqb-no b 45 h) refl
  where
    eqb-no : (m n : ℕ) → m ≢ n → eqb m n ≡ false
    eqb-no m n k = grind (arith, nat_tests)

-- one more digit keeps a number below a power of ten
pub power-more : (n d i : ℕ) → n < 10 ^ i → d ≤ 9 → 10 * n + d < 10 ^ (i + 1)
power-more n d i h k =
    let p = pow-suc 10 i in
    let e : 10 ^ (i + 1) ≡ 10 ^ i * 10 = rw add-one p in
    omega (arith, e)

-- 18 digits leave room for one more
pub power-room : (n i : ℕ) → n < 10 ^ i → i ≤ 18 → n < 10 ^ 18
power-room n i h k = omega (arith, pow-le-pow_right {n = 10} (omega arith) k)
