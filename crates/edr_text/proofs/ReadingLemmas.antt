-- Reading gives the number that is spelled, if it is in the type, and no other.
use Rattle.std.proofs.Common.{arith, ◌≡◌, ◌∙◌, sym, ap, refl, ℕ, ◌<◌, ◌&&◌, Bool, true, false, ltb, List, Option, Some, None, ℤ, pos, negsuc, int_le, Ok, Err, cond, FitsSigned, w32}
use Rattle.std.proofs.lemmas.Bool.Decides.{nat_tests}
use Rattle.std.proofs.lemmas.Int.{ints}
use Rattle.edr_text.specs.declared.NumberRefused.TheVariants.{TooLarge}
use Rattle.edr_text.specs.Numbers.{natural_in, integer_in, numeral, signed_numeral, below, within_i32}
use Rattle.edr_text.proofs.SpellingLemmas.{natural_in-spelled, natural_in-numeral, integer_in-spelled, integer_in-numeral}

-- the test of `within_i32`
abbrev is_i32 : ℤ → Bool
is_i32 z = int_le (negsuc 2147483647) z && int_le z (pos 2147483647)

is_i32-fits : (z : ℤ) → FitsSigned w32 z → is_i32 z ≡ true
is_i32-fits z fits = grind (arith, ints)

fits-is_i32 : (z : ℤ) → is_i32 z ≡ true → FitsSigned w32 z
fits-is_i32 z e = grind (arith, ints)

-- what is spelled is read
pub below-numeral : (bound n : ℕ) → n < bound → below bound (natural_in (numeral n)) ≡ Ok n
below-numeral bound n fits = ap (below bound) (natural_in-numeral n) ∙ by (ltb n bound) (grind (arith, nat_tests))
  where
    by : (b : Bool) → b ≡ true → cond b (Ok n) (Err TooLarge) ≡ Ok n
    by true e = refl
    by false e = cc

pub within_i32-signed_numeral : (z : ℤ) → FitsSigned w32 z → within_i32 (integer_in (signed_numeral z)) ≡ Ok z
within_i32-signed_numeral z fits = ap within_i32 (integer_in-numeral z) ∙ rw (is_i32-fits z fits) refl

-- what is read is spelled
pub below-spelled : (bound : ℕ) (bytes : List ℕ) (n : ℕ) → below bound (natural_in bytes) ≡ Ok n → numeral n ≡ bytes
below-spelled bound bytes n h = by (natural_in bytes) refl h
  where
    test : (b : Bool) (m : ℕ) → natural_in bytes ≡ Some m → cond b (Ok m) (Err TooLarge) ≡ Ok n → numeral n ≡ bytes
    test true m e k = let same : m ≡ n = cc in ap numeral (sym same) ∙ sym (natural_in-spelled bytes m e)
    test false m e k = cc

    by : (o : Option ℕ) → natural_in bytes ≡ o → below bound o ≡ Ok n → numeral n ≡ bytes
    by None e k = cc
    by (Some m) e k = test _ m e k

pub within_i32-spelled : (bytes : List ℕ) (z : ℤ) → within_i32 (integer_in bytes) ≡ Ok z → (signed_numeral z ≡ bytes) × FitsSigned w32 z
within_i32-spelled bytes z h = by (integer_in bytes) refl h
  where
    test : (b : Bool) (y : ℤ) → is_i32 y ≡ b → integer_in bytes ≡ Some y → cond b (Ok y) (Err TooLarge) ≡ Ok z → (signed_numeral z ≡ bytes) × FitsSigned w32 z
    test true y fits e k =
        let same : y ≡ z = cc in
        (ap signed_numeral (sym same) ∙ sym (integer_in-spelled bytes y e), fits-is_i32 z (ap is_i32 (sym same) ∙ fits))
    test false y fits e k = cc

    by : (o : Option ℤ) → integer_in bytes ≡ o → within_i32 o ≡ Ok z → (signed_numeral z ≡ bytes) × FitsSigned w32 z
    by None e k = cc
    by (Some y) e k = test (is_i32 y) y refl e k
