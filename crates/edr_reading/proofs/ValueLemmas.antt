-- Numbers, words and values of a report, and the bytes that spell them.
use Rattle.std.proofs.{lemmas.List.take-append-drop, Math.Seq.{drop-append_seam, take-append_seam}}
use Rattle.std.proofs.Common.{arith, ◌≡◌, ◌∙◌, sym, ap, subst, refl, ℕ, zero, suc, ◌<◌, ◌≤◌, ◌^◌, ◌&&◌, Bool, true, false, List, [], ◌∷◌, ◌++◌, length, take, drop, decimal, nat_eq, Ok, ◌+◌, ℤ, pos, negsuc, Option, Some, None, option_map, codes, add-one, append_assoc, get_or}
use Rattle.std.specs.{List.list_all, Cmp.Lexicographic.{pointwise, same_text, bytes_decides}, Fmt.signed_decimal, Option.IfSome}
use Rattle.edr_text.specs.Numbers.{is_digit, is_numeral, numeral, natural_in, below}
use Rattle.edr_text.proofs.{SpellingLemmas.{is_numeral-numeral, decimal-numeral}, ReadingLemmas.{below-numeral, below-spelled}}
use Rattle.edr_reading.specs.{Answers.{EndsNumber, AreUpTo, IsFromTo, ReadsTwo, two_numbers}, declared.values.CycleRow.CycleRow}
use Rattle.edr_reading.specs.declared.values.CycleRow.TheVariants.{StartStopped, Ran}
use Rattle.edr_reading.specs.Reading.{IsDamagedView, view_words, IsStopCall, IsCycleRow, row_words}
use Rattle.edr_record.specs.Bounds.{IsUpTo, IsChange}
use Rattle.edr_report.specs.Words.{firing_words, stop_words, missing_words, damage_words, yes_no, cycle_words, ack_words, kind_word}
use Rattle.edr_image.specs.declared.{BankView.{BankView, TheVariants.{Damaged, Event, Void}}, Kind.Kind}

-- ---- digits in front of bytes, and words in front of bytes

and-parts : (a b : Bool) → (a && b) ≡ true → (a ≡ true) × (b ≡ true)
and-parts true b h = (refl, h)
and-parts false b h = cc

pub first-digit : (d : ℕ) (ds : List ℕ) → list_all is_digit (d ∷ ds) ≡ true → (is_digit d ≡ true) × (list_all is_digit ds ≡ true)
first-digit d ds h = and-parts (is_digit d) (list_all is_digit ds) h

-- digits and what ends them stand in one way
pub parted : (ds more : List ℕ) (k : ℕ) → list_all is_digit ds ≡ true → EndsNumber more → k ≤ length (ds ++ more) → list_all is_digit (take k (ds ++ more)) ≡ true → EndsNumber (drop k (ds ++ more))
    → (take k (ds ++ more) ≡ ds) × (drop k (ds ++ more) ≡ more)
parted [] more zero all ends h front back = (refl, refl)
parted [] [] (suc k) all ends h front back = absurd (omega arith)
parted [] (b ∷ more) (suc k) all ends h front back = let p = (first-digit b (take k more) front).0 in cc
parted (d ∷ ds) more zero all ends h front back = let p = (first-digit d ds all).0 in cc
parted (d ∷ ds) more (suc k) all ends h front back =
    let r = parted ds more k (first-digit d ds all).1 ends (omega arith) (first-digit d (take k (ds ++ more)) front).1 back in
    (ap (λ (x : List ℕ). d ∷ x) r.0, r.1)

digits-of : (bs : List ℕ) → is_numeral bs ≡ true → list_all is_digit bs ≡ true
digits-of [] h = cc
digits-of (b ∷ bs) h = (and-parts (list_all is_digit (b ∷ bs)) _ h).0

pub numeral-digits : (n : ℕ) → list_all is_digit (numeral n) ≡ true
numeral-digits n = digits-of (numeral n) (is_numeral-numeral n).0

-- a number in front is found with what stands after it
pub number-parted : (bs more : List ℕ) (n k : ℕ) → n < 2 ^ 64 → EndsNumber more → bs ≡ decimal n ++ more → k ≤ length bs → list_all is_digit (take k bs) ≡ true → EndsNumber (drop k bs)
    → (take k bs ≡ numeral n) × (drop k bs ≡ more)
number-parted bs more n k small ends is h front back =
    let e : bs ≡ numeral n ++ more = is ∙ ap (λ (x : List ℕ). x ++ more) (decimal-numeral n small) in
    at bs e h front back
  where
    at : (xs : List ℕ) → xs ≡ numeral n ++ more → k ≤ length xs → list_all is_digit (take k xs) ≡ true → EndsNumber (drop k xs) → (take k xs ≡ numeral n) × (drop k xs ≡ more)
    at xs e h front back = (subst (λ (ys : List ℕ). k ≤ length ys → list_all is_digit (take k ys) ≡ true → EndsNumber (drop k ys) → (take k ys ≡ numeral n) × (drop k ys ≡ more)) (sym e) (λ h2 f2 b2. parted (numeral n) more k (numeral-digits n) ends h2 f2 b2) h front back)

-- digits in front that are read as a number
pub number-front : (bs : List ℕ) (n k : ℕ) → n < 2 ^ 64 → below (2 ^ 32) (natural_in (take k bs)) ≡ Ok n → bs ≡ decimal n ++ drop k bs
number-front bs n k small read =
    sym (take-append-drop k bs) ∙ ap (λ (x : List ℕ). x ++ drop k bs) (sym (decimal-numeral n small ∙ below-spelled (2 ^ 32) (take k bs) n read))

pub number-read : (bs more : List ℕ) (n k : ℕ) → n < 2 ^ 32 → EndsNumber more → bs ≡ decimal n ++ more → k ≤ length bs → list_all is_digit (take k bs) ≡ true → EndsNumber (drop k bs)
    → (below (2 ^ 32) (natural_in (take k bs)) ≡ Ok n) × (drop k bs ≡ more)
number-read bs more n k small ends is h front back =
    let p = number-parted bs more n k (omega arith) ends is h front back in
    (ap (λ (x : List ℕ). below (2 ^ 32) (natural_in x)) p.0 ∙ below-numeral (2 ^ 32) n small, p.1)

-- what a test of the first bytes tells
pub front-is : (bs front : List ℕ) → pointwise nat_eq (take (length front) bs) front ≡ true → bs ≡ front ++ drop (length front) bs
front-is bs front e = sym (take-append-drop (length front) bs) ∙ ap (λ (x : List ℕ). x ++ drop (length front) bs) (same_text (take (length front) bs) front (sym e))

pub front-stands : (bs front more : List ℕ) → bs ≡ front ++ more → (pointwise nat_eq (take (length front) bs) front ≡ true) × (drop (length front) bs ≡ more)
front-stands bs front more is =
    let t : take (length front) bs ≡ front = ap (take (length front)) is ∙ take-append_seam front more in
    ((bytes_decides (take (length front) bs) front).1 t, ap (drop (length front)) is ∙ drop-append_seam front more)

-- what begins with a number begins with a digit
pub first-of-numeral : (n : ℕ) → n < 2 ^ 64 → (d : ℕ) × (ds : List ℕ) × (decimal n ≡ d ∷ ds) × (is_digit d ≡ true)
first-of-numeral n small = by (numeral n) (is_numeral-numeral n).0 (decimal-numeral n small)
  where
    by : (bs : List ℕ) → is_numeral bs ≡ true → decimal n ≡ bs → (d : ℕ) × (ds : List ℕ) × (decimal n ≡ d ∷ ds) × (is_digit d ≡ true)
    by [] h e = cc
    by (b ∷ bs) h e = (b, bs, e, (first-digit b bs (digits-of (b ∷ bs) h)).0)

-- a byte that is no digit stands in front of no number
pub not-number : (n b : ℕ) (bs more : List ℕ) → n < 2 ^ 64 → is_digit b ≡ false → b ∷ bs ≡ decimal n ++ more → ⊥
not-number n b bs more small other is =
    let f = first-of-numeral n small in
    let e : b ∷ bs ≡ f.0 ∷ (f.1 ++ more) = is ∙ ap (λ (x : List ℕ). x ++ more) f.2 in
    let same : b ≡ f.0 = cc in
    let digit = f.3 in
    cc

-- ---- values of a report and the bytes that spell them

-- `none` is no time
pub none-fires : (bytes : List ℕ) (latest : ℕ) (t : Option ℕ) → latest < 2 ^ 64 → IsUpTo latest t → bytes ≡ codes "none" → bytes ≡ firing_words t → None ≡ t
none-fires bytes latest None small h e f = refl
none-fires bytes latest (Some k) small h e f = absurd (not-number k 110 (codes "one") (codes " ms") (omega (arith, h)) refl (sym e ∙ f))

-- after `-` stands a number
pub minus-change : (bytes digits more : List ℕ) (z : ℤ) → IsChange z → bytes ≡ 45 ∷ digits → bytes ≡ signed_decimal z ++ more
    → (k : ℕ) × (z ≡ negsuc k) × (digits ≡ decimal (k + 1) ++ more) × (k + 1 ≤ 3_000)
minus-change bytes digits more (pos n) h e f = absurd (not-number n 45 digits more (omega (arith, h)) refl (sym e ∙ f))
minus-change bytes digits more (negsuc k) h e f = let s : 45 ∷ digits ≡ 45 ∷ (decimal (suc k) ++ more) = sym e ∙ f in (k, refl, rw (add-one k) (tail-is s), rw (add-one k) h)
  where
    tail-is : {xs ys : List ℕ} → 45 ∷ xs ≡ 45 ∷ ys → xs ≡ ys
    tail-is e = cc

-- where the bytes are not those of a cycle that went on to its end, they tell of its stop
pub stop-whole : (bytes : List ℕ) (r s : Option ℕ) → (bytes ≡ codes ", power off" → ⊥) → ((k : ℕ) → IsFromTo 1 4_294_967_295 k → bytes ≡ codes ", stopped in call " ++ decimal k → r ≡ Some k) → IsStopCall s → bytes ≡ codes ", " ++ stop_words s
    → option_map Some r ≡ Some s
stop-whole bytes r None other whole h is = absurd (other is)
stop-whole bytes r (Some k) other whole h is = ap (option_map Some) (whole k h is)

pub missing-is : (m n : ℕ) → missing_words m n ≡ decimal m ++ (codes " longitudinal, " ++ (decimal n ++ codes " lateral"))
missing-is m n = simp append_assoc

pub missing-read : (bytes : List ℕ) (high window : ℕ) (r : Option (ℕ × ℕ)) → high ≡ window → ReadsTwo (two_numbers (codes " longitudinal, ") (codes " lateral")) (AreUpTo high) bytes r → ReadsTwo missing_words (AreUpTo window) bytes r
missing-read bytes high window r e h = record { read = by r h.read; whole = λ m n k is. h.whole m n (subst (λ (w : ℕ). AreUpTo w m n) (sym e) k) (is ∙ missing-is m n) }
  where
    by : (r : Option (ℕ × ℕ)) → IfSome r (λ p. (bytes ≡ two_numbers (codes " longitudinal, ") (codes " lateral") p.0 p.1) × AreUpTo high p.0 p.1) → IfSome r (λ p. (bytes ≡ missing_words p.0 p.1) × AreUpTo window p.0 p.1)
    by None h = tt
    by (Some p) h = (h.0 ∙ sym (missing-is p.0 p.1), subst (λ (w : ℕ). AreUpTo w p.0 p.1) e h.1)

-- what a damaged bank shows after its byte, and after its place
abbrev pub lock_words : Bool → List ℕ
lock_words locked = codes " locked " ++ yes_no locked

abbrev pub byte_words : ℕ → Bool → List ℕ
byte_words found locked = codes " found " ++ (decimal found ++ lock_words locked)

pub damage-is : (o x : ℕ) (l : Bool) → damage_words o x l ≡ codes "damaged at " ++ (decimal o ++ byte_words x l)
damage-is o x l = simp append_assoc

-- who reads what a damaged bank shows reads its view
pub damaged-read : (bytes : List ℕ) (r : Option BankView) → ((o x : ℕ) (l : Bool) → o ≤ 1_023 → x ≤ 255 → bytes ≡ codes "damaged at " ++ (decimal o ++ byte_words x l) → r ≡ Some (Damaged o x l)) → (v : BankView) → IsDamagedView v → bytes ≡ view_words v → r ≡ Some v
damaged-read bytes r read Void h is = absurd h
damaged-read bytes r read (Event e) h is = absurd h
damaged-read bytes r read (Damaged o x l) h is = read o x l h.0 h.1 (is ∙ damage-is o x l)

-- ---- the rows of block 0

-- how a call is spelled in which a start was stopped, and how the number of a cycle that ran is, with its end
abbrev pub start_words : ℕ → List ℕ
start_words call = row_words (StartStopped call)

abbrev pub ran_words : ℕ → List ℕ → List ℕ
ran_words n more = codes "number " ++ (decimal n ++ more)

pub ran-is : (n : ℕ) (stop : Option ℕ) → row_words (Ran n stop) ≡ ran_words n (codes ", " ++ stop_words stop)
ran-is n stop = simp append_assoc

-- a value that tells of a stopped start tells of no other cycle
pub start-whole : (bytes : List ℕ) (call : ℕ) (r : CycleRow) → ((j : ℕ) → IsFromTo 1 6 j → bytes ≡ start_words j → Some call ≡ Some j) → bytes ≡ start_words call → IsCycleRow r → bytes ≡ row_words r
    → Some (StartStopped call) ≡ Some r
start-whole bytes call (StartStopped j) whole read h is = let e = whole j h is in cc
start-whole bytes call (Ran n stop) whole read h is =
    let first : 115 ≡ 110 = ap (λ (l : List ℕ). get_or l 0 0) (sym read ∙ is) in
    absurd (omega (arith, first))

-- where the bytes tell of no stopped start, they tell of a cycle that ran
pub not-start : (bytes : List ℕ) (res : Option CycleRow) → ((j : ℕ) → IsFromTo 1 6 j → bytes ≡ start_words j → ⊥) → ((n : ℕ) (stop : Option ℕ) → IsFromTo 1 4_294_967_295 n → IsStopCall stop → bytes ≡ ran_words n (codes ", " ++ stop_words stop) → res ≡ Some (Ran n stop))
    → (r : CycleRow) → IsCycleRow r → bytes ≡ row_words r → res ≡ Some r
not-start bytes res start ran (StartStopped j) h is = absurd (start j h is)
not-start bytes res start ran (Ran n s) h is = ran n s h.0 h.1 (is ∙ ran-is n s)

all-in : (xs ys : List ℕ) (y : ℕ) → list_all is_digit (xs ++ y ∷ ys) ≡ true → is_digit y ≡ true
all-in [] ys y h = (first-digit y ys h).0
all-in (x ∷ xs) ys y h = all-in xs ys y (first-digit x (xs ++ y ∷ ys) h).1

ack-is : (i : ℕ) (k : Kind) (t : ℕ) → ack_words i k t ≡ codes "cycle " ++ (decimal i ++ (codes " " ++ (kind_word k ++ (codes " at " ++ decimal t))))
ack-is i k t = simp append_assoc

-- the name of a cycle is that of no acknowledgement
pub words-apart : (i j : ℕ) (k : Kind) (t : ℕ) → j < 2 ^ 64 → cycle_words j ≡ ack_words i k t → ⊥
words-apart i j k t small e =
    let digits = ap (drop 6) (e ∙ ack-is i k t) in
    let all : list_all is_digit (decimal j) ≡ true = ap (list_all is_digit) (decimal-numeral j small) ∙ numeral-digits j in
    let bad = all-in (decimal i) (kind_word k ++ (codes " at " ++ decimal t)) 32 (ap (list_all is_digit) (sym digits) ∙ all) in
    cc
