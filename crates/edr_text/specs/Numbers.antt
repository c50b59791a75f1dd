-- How a number is spelled, which is in one way, and what a reader of one answers.
use Rattle.std.specs.Prelude.{◌≡◌, ℕ, zero, suc, ◌+◌, ◌-◌, ◌*◌, ◌^◌, ◌<◌, slice_index_or, ℤ, pos, negsuc, Bool, false, not, ◌&&◌, ◌||◌, ◌==◌, nat_le, nat_lt, int_le, if◌then◌else◌, Option, Some, None, option_map, Result, Ok, Err, List, [], ◌∷◌, length, map}
use Rattle.std.specs.List.{list_all}
use Rattle.std.specs.Int.Digits.{digits_of}
use Rattle.edr_text.specs.declared.NumberRefused.{NumberRefused}
use Rattle.edr_text.specs.declared.NumberRefused.TheVariants.{NotANumber, TooLarge}

-- the byte is one of `0` to `9`
abbrev pub is_digit : ℕ → Bool
is_digit b = nat_le 48 b && nat_le b 57

-- digits, of which the first is not `0`, or the one digit `0`
abbrev pub is_numeral : List ℕ → Bool
is_numeral [] = false
is_numeral (b ∷ bs) = list_all is_digit (b ∷ bs) && (not (b == 48) || (length bs == 0))

-- the front of a numeral: there is a byte, and if it is `0` it is the only one
abbrev pub StartsAsNumeral : List ℕ → Type 0
StartsAsNumeral bs = (0 < length bs) × (slice_index_or bs 0 0 ≡ 48 → length bs ≡ 1)

-- the number that these digits go on to spell after the digits of n
abbrev pub value_after : ℕ → List ℕ → ℕ
value_after n [] = n
value_after n (b ∷ bs) = value_after (10 * n + (b - 48)) bs

-- the number that the digits spell
abbrev pub value_of : List ℕ → ℕ
value_of bs = value_after 0 bs

-- the natural number that the bytes spell, if they spell one
unfoldable pub natural_in : List ℕ → Option ℕ
natural_in bs = if is_numeral bs then Some (value_of bs) else None

-- `-` stands before no number but those from 1 on
abbrev pub negative_of : Option ℕ → Option ℤ
negative_of None = None
negative_of (Some zero) = None
negative_of (Some (suc n)) = Some (negsuc n)

-- the whole number that the bytes spell, if they spell one: a natural number, or `-` before one other than 0
unfoldable pub integer_in : List ℕ → Option ℤ
integer_in [] = None
integer_in (b ∷ bs) = if b == 45 then negative_of (natural_in bs) else option_map pos (natural_in (b ∷ bs))

-- the one spelling of a natural number: its digits in base 10
abbrev pub numeral : ℕ → List ℕ
numeral zero = 48 ∷ []
numeral (suc n) = map (λ d. 48 + d) (digits_of 10 (suc n))

-- the one spelling of a whole number
abbrev pub signed_numeral : ℤ → List ℕ
signed_numeral (pos n) = numeral n
signed_numeral (negsuc n) = 45 ∷ numeral (suc n)

-- what a reader of numbers below a bound answers
abbrev pub below : ℕ → Option ℕ → Result ℕ NumberRefused
below bound None = Err NotANumber
below bound (Some n) = if nat_lt n bound then Ok n else Err TooLarge

-- what a reader of an i32 answers
abbrev pub within_i32 : Option ℤ → Result ℤ NumberRefused
within_i32 None = Err NotANumber
within_i32 (Some z) = if int_le (negsuc 2147483647) z && int_le z (pos 2147483647) then Ok z else Err TooLarge

-- the number, if it is below 2 ^ 64
abbrev pub within_u64 : ℕ → Option ℕ
within_u64 n = if nat_lt n (2 ^ 64) then Some n else None
