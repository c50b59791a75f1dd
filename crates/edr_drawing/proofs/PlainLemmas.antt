-- Texts whose bytes are all below 128, and the templates of a page, which are such texts.
use Rattle.std.proofs.Common.{arith, ◌≡◌, refl, ℕ, zero, suc, ◌-◌, ◌/◌, ◌%◌, ◌<◌, ltb-true, ℤ, pos, negsuc, Bool, true, false, if◌then◌else◌, nat_lt, nat_eq, Option, Some, None, List, [], ◌∷◌, ◌++◌, flat_map, get_or, decimal, All, Bor}
use Rattle.std.specs.{List.list_all, Fmt.{signed_decimal, digits, digits_onto, digit_glyph}}
use Rattle.std.proofs.lemmas.{List.Elements.{All-nil, All-cons, All-append}, Str.Ascii.{All-from_ascii, IsAscii-from_all}}
use Rattle.hex.{specs.Hex.{encode_lower, lower_digits}, proofs.HexLemmas.IsAscii-encode_with}
use Rattle.std.proofs.lemmas.Bool.{and_parts}
use Rattle.edr_record.specs.{declared.Place.Place, declared.Place.TheVariants.{First, Second}}
use Rattle.edr_record.specs.{declared.Profile.Profile, declared.Profile.TheVariants.{Short, Long}}
use Rattle.edr_drawing.specs.{declared.scales.CarAxis.CarAxis}
use Rattle.edr_drawing.specs.{declared.scales.CarAxis.TheVariants.{Along, Across}, Scales.of_axis}
use Rattle.edr_drawing.specs.Template.{byte_bytes, filled, filled_from, fixed, of_profile, of_switch, place_words}
use Rattle.edr_drawing.specs.Scales.{flat_map_below}

-- each byte is below 128
pub record Plain (bs : List ℕ) : Type 0 where
  pub bytes : All (λ b. b < 128) bs

pub plain_nil : Plain []
plain_nil = record { bytes = All-nil (λ b. b < 128) }

pub plain_cons : (b : ℕ) (bs : List ℕ) → b < 128 → Plain bs → Plain (b ∷ bs)
plain_cons b bs low h = record { bytes = All-cons (λ b. b < 128) b bs low h.bytes }

pub plain_append : (xs ys : List ℕ) → Plain xs → Plain ys → Plain (xs ++ ys)
plain_append xs ys h k = record { bytes = All-append (λ b. b < 128) xs ys h.bytes k.bytes }

pub plain_if : (b : Bool) (xs ys : List ℕ) → Plain xs → Plain ys → Plain (if b then xs else ys)
plain_if true xs ys h k = h
plain_if false xs ys h k = k

-- a fixed text, by looking at each byte
abbrev pub all_low : List ℕ → Bool
all_low bs = list_all (λ b. nat_lt b 128) bs

pub plain_fixed : (bs : List ℕ) → all_low bs ≡ true → Plain bs
plain_fixed [] e = plain_nil
plain_fixed (b ∷ bs) e = plain_cons b bs (ltb-true b 128 (and_parts _ _ e).0) (plain_fixed bs (and_parts _ _ e).1)

-- texts one after the other
pub plain_flat_map : {X : Type 0} (f : X → List ℕ) → ((x : X) → Plain (f x)) → (xs : List X) → Plain (flat_map f xs)
plain_flat_map f h [] = plain_nil
plain_flat_map f h (x ∷ xs) = plain_append (f x) (flat_map f xs) (h x) (plain_flat_map f h xs)

pub plain_counted : (f : ℕ → List ℕ) → ((i : ℕ) → Plain (f i)) → (n : ℕ) → Plain (flat_map_below f n)
plain_counted f h zero = plain_nil
plain_counted f h (suc n) = plain_append (flat_map_below f n) (f n) (plain_counted f h n) (h n)

-- the digits of any number
plain_onto : (k n : ℕ) (acc : List ℕ) → Plain acc → Plain (digits_onto k 10 false n acc)
plain_onto zero n acc h = h
plain_onto (suc k) n acc h =
    let d = digit_glyph false (n % 10) in
    let more = plain_cons d acc (grind arith) h in
    plain_if (nat_eq (n / 10) 0) (d ∷ acc) (digits_onto k 10 false (n / 10) (d ∷ acc)) more (plain_onto k (n / 10) (d ∷ acc) more)

pub plain_decimal : (n : ℕ) → Plain (decimal n)
unfolding digits
plain_decimal n = plain_onto 64 n [] plain_nil

pub plain_signed : (z : ℤ) → Plain (signed_decimal z)
plain_signed (pos n) = plain_decimal n
plain_signed (negsuc n) = plain_cons 45 (decimal (suc n)) (omega arith) (plain_decimal (suc n))

-- ---- templates

pub plain_text : (text : List ℕ) → all_low text ≡ true → Plain (fixed text)
unfolding fixed
plain_text text low = plain_fixed text low

-- each of these texts is plain
pub record AllPlain (values : List (List ℕ)) : Type 0 where
  pub each : (k : ℕ) → Plain (get_or values k [])

pub all_nil : AllPlain []
all_nil = record { each = λ k. plain_nil }

pub all_cons : (x : List ℕ) (xs : List (List ℕ)) → Plain x → AllPlain xs → AllPlain (x ∷ xs)
all_cons x xs h more = record { each = at }
  where
    at : (k : ℕ) → Plain (get_or (x ∷ xs) k [])
    at zero = h
    at (suc k) = more.each k

plain_byte : (values : List (List ℕ)) (hole : Bool) (b : ℕ) → AllPlain values → b < 128 → Plain (byte_bytes values hole b)
plain_byte values false b h low = plain_cons b [] low plain_nil
plain_byte values true b h low = h.each (b - 48)

plain_from : (values : List (List ℕ)) (hole : Bool) (text : List ℕ) → AllPlain values → all_low text ≡ true → Plain (filled_from values hole text)
plain_from values hole [] h low = plain_nil
plain_from values hole (b ∷ bs) h low =
    let parts = and_parts _ _ low in
    plain_if (nat_eq b 123) _ _ (plain_from values true bs h parts.1)
    (plain_if (nat_eq b 125) _ _ (plain_from values false bs h parts.1)
    (plain_append (byte_bytes values hole b) _ (plain_byte values hole b h (ltb-true b 128 parts.0)) (plain_from values hole bs h parts.1)))

pub plain_filled : (template : List ℕ) (values : List (List ℕ)) → all_low template ≡ true → AllPlain values → Plain (filled template values)
unfolding filled
plain_filled template values low h = plain_from values false template h low

-- ---- what goes into their holes

-- one of some fixed texts
abbrev Text : Type 0
Text = record { now : List ℕ }

pub plain_of_profile : (f : Profile) (x y : Text) → all_low x.now ≡ true → all_low y.now ≡ true → Plain (of_profile f (x, y)).now
plain_of_profile Short x y low_x low_y = plain_fixed x.now low_x
plain_of_profile Long x y low_x low_y = plain_fixed y.now low_y

pub plain_of_switch : (v : Option Bool) (x y z : Text) → all_low x.now ≡ true → all_low y.now ≡ true → all_low z.now ≡ true → Plain (of_switch v (x, y, z)).now
plain_of_switch (Some true) x y z low_x low_y low_z = plain_fixed x.now low_x
plain_of_switch (Some false) x y z low_x low_y low_z = plain_fixed y.now low_y
plain_of_switch None x y z low_x low_y low_z = plain_fixed z.now low_z

pub plain_of_axis : (a : CarAxis) (x y : Bor (List ℕ)) → all_low x.now ≡ true → all_low y.now ≡ true → Plain (of_axis a x y).now
plain_of_axis Along x y low_x low_y = plain_fixed x.now low_x
plain_of_axis Across x y low_x low_y = plain_fixed y.now low_y

-- a digest, or its beginning
pub plain_digest : (digest : List ℕ) → Plain (encode_lower digest)
plain_digest digest =
    let low = IsAscii-from_all lower_digits (plain_fixed lower_digits refl).bytes in
    record { bytes = All-from_ascii (encode_lower digest) (IsAscii-encode_with lower_digits digest low) }

-- texts and numbers
pub ruleset words = (plain_append, plain_if, plain_nil, plain_decimal, plain_signed, plain_fixed)

pub plain_place : (p : Place) → Plain (place_words p)
plain_place First = search words
plain_place (Second after) = search words depth 20

-- what a page is made of
pub ruleset plains = (plain_filled, plain_text, plain_counted, plain_flat_map, all_nil, all_cons, plain_place, plain_of_profile, plain_of_switch, plain_of_axis, words)
