-- The bytes of rows, one part after the other.
use Rattle.std.proofs.Common.{arith, ◌≡◌, ◌∙◌, sym, ap, ap₂, refl, ℕ, ◌+◌, ◌-◌, ◌*◌, ◌<◌, zero, suc, ℤ, pos, negsuc, List, [], ◌∷◌, ◌++◌, map, flat_map, codes, append_assoc, add-one, FitsSigned, w32}
use Rattle.std.proofs.lemmas.Int.{ints}
use Rattle.std.specs.Fmt.{signed_decimal}
use Rattle.edr_text.specs.Numbers.{signed_numeral}
use Rattle.edr_text.proofs.SpellingLemmas.{decimal-numeral}
use Rattle.std.proofs.lemmas.List.{append-nil, map-append}
use Rattle.std.proofs.lemmas.Grind.{flat_map-append}
use Rattle.edr_spell.specs.declared.Row.{Row}
use Rattle.edr_spell.specs.Lines.{line_for, line_text, text_of}
use Rattle.edr_spell.specs.Samples.{Sample, row_for}
use Rattle.edr_gen.specs.declared.plan.Impulse.{Impulse}
use Rattle.edr_gen.specs.Cycles.{samples_after, samples_at}
use Rattle.edr_gen.specs.Texts.{samples_text}

pub text-append : (a b : List Row) → text_of (a ++ b) ≡ text_of a ++ text_of b
text-append a b = ap (flat_map line_text) (map-append line_for a b) ∙ flat_map-append line_text (map line_for a) (map line_for b)

pub samples_text-append : (a b : List Sample) → samples_text (a ++ b) ≡ samples_text a ++ samples_text b
samples_text-append a b = ap text_of (map-append row_for a b) ∙ text-append (map row_for a) (map row_for b)

-- the ticks of a part begin with one
pub samples-next : (impulses : List Impulse) (t m n : ℕ) → n ≡ m + 1 → samples_after impulses t n ≡ samples_at impulses (t + 1) ++ samples_after impulses (t + 1) m
unfolding samples_after
samples-next impulses t m n e = ap (samples_after impulses t) (e ∙ add-one m)

-- ticks in two parts
pub samples-split : (impulses : List Impulse) (t a b : ℕ) → samples_after impulses t (a + b) ≡ samples_after impulses t a ++ samples_after impulses (t + a) b
unfolding samples_after
samples-split impulses t zero b = ap₂ (λ (u n : ℕ). samples_after impulses u n) (omega arith) (omega arith)
samples-split impulses t (suc a) b =
    let e : suc a + b ≡ suc (a + b) = omega arith in
    let u : t + 1 + a ≡ t + suc a = omega arith in
    ap (samples_after impulses t) e
    ∙ ap (λ (xs : List Sample). samples_at impulses (t + 1) ++ xs) (samples-split impulses (t + 1) a b ∙ ap (λ (k : ℕ). samples_after impulses (t + 1) a ++ samples_after impulses k b) u)
    ∙ sym (append_assoc (samples_at impulses (t + 1)) (samples_after impulses (t + 1) a) (samples_after impulses (t + suc a) b))

-- the spelling of a number below zero has its digits after the sign
pub signed-text : (z : ℤ) → FitsSigned w32 z → signed_decimal z ≡ signed_numeral z
signed-text (pos n) h = decimal-numeral n (omega (arith, ints, h.sfits))
signed-text (negsuc n) h = ap (λ (xs : List ℕ). 45 ∷ xs) (decimal-numeral (suc n) (omega (arith, ints, h.sfits)))

-- two rows in five pieces
pub crash-bytes : (front one two three four five m a b : List ℕ)
    → one ≡ front ++ (codes "along," ++ (m ++ codes ",")) → two ≡ one ++ a → three ≡ two ++ (codes "\nacross," ++ (m ++ codes ",")) → four ≡ three ++ b → five ≡ four ++ codes "\n"
    → five ≡ front ++ flat_map line_text (record { first = codes "along"; second = m; third = a } ∷ record { first = codes "across"; second = m; third = b } ∷ [])
crash-bytes front one two three four five m a b e f g h i = rw (i, h, g, f, e) (simp (append-nil, append_assoc))

-- the row of a cut in three pieces
pub cut-bytes : (front one two three m : List ℕ) → one ≡ front ++ codes "cut," → two ≡ one ++ m → three ≡ two ++ codes ",\n"
    → three ≡ front ++ flat_map line_text (record { first = codes "cut"; second = m; third = [] } ∷ [])
cut-bytes front one two three m e f g = rw (g, f, e) (simp (append-nil, append_assoc))

-- a page goes on with the rows of its ticks, and the rows of later ticks are left
pub page-next : (page more after all cut full : List ℕ) → all ≡ more ++ after → full ≡ page ++ more → page ++ (all ++ cut) ≡ full ++ (after ++ cut)
page-next page more after all cut full e f = rw (e, f) (simp append_assoc)

pub page-done : (page cut full : List ℕ) → full ≡ page ++ cut → page ++ ([] ++ cut) ≡ full ++ []
page-done page cut full e = sym e ∙ sym (append-nil full)

-- the ticks of one page, and those of the later ones
pub pages-next : (impulses : List Impulse) (n : ℕ) → n < 50
    → samples_text (samples_after impulses (360 * n) (360 * (50 - n))) ≡ samples_text (samples_after impulses (360 * n) 360) ++ samples_text (samples_after impulses (360 * (n + 1)) (360 * (50 - (n + 1))))
pages-next impulses n h =
    let e : 360 * (50 - n) ≡ 360 + 360 * (50 - (n + 1)) = omega (arith, h) in
    let u : 360 * n + 360 ≡ 360 * (n + 1) = omega arith in
    ap (λ (k : ℕ). samples_text (samples_after impulses (360 * n) k)) e
    ∙ ap samples_text (samples-split impulses (360 * n) 360 (360 * (50 - (n + 1))))
    ∙ samples_text-append (samples_after impulses (360 * n) 360) (samples_after impulses (360 * n + 360) (360 * (50 - (n + 1))))
    ∙ ap (λ (k : ℕ). samples_text (samples_after impulses (360 * n) 360) ++ samples_text (samples_after impulses k (360 * (50 - (n + 1))))) u

pub no-samples : (impulses : List Impulse) (t : ℕ) → samples_after impulses t 0 ≡ []
unfolding samples_after
no-samples impulses t = refl

-- one tick more on a page
pub tick-next : (impulses : List Impulse) (from k : ℕ) (page full : List ℕ) → k < 360 → full ≡ page ++ samples_text (samples_at impulses (from + k + 1))
    → full ++ samples_text (samples_after impulses (from + (k + 1)) (360 - (k + 1))) ≡ page ++ samples_text (samples_after impulses (from + k) (360 - k))
tick-next impulses from k page full h e =
    let rest : List Sample = samples_after impulses (from + (k + 1)) (360 - (k + 1)) in
    let u : from + k + 1 ≡ from + (k + 1) = omega arith in
    let s : samples_after impulses (from + k) (360 - k) ≡ samples_at impulses (from + k + 1) ++ rest =
    samples-next impulses (from + k) (360 - (k + 1)) (360 - k) (omega (arith, h)) ∙ ap (λ (i : ℕ). samples_at impulses (from + k + 1) ++ samples_after impulses i (360 - (k + 1))) u in
    ap (λ (xs : List ℕ). xs ++ samples_text rest) e
    ∙ append_assoc page (samples_text (samples_at impulses (from + k + 1))) (samples_text rest)
    ∙ ap (λ (xs : List ℕ). page ++ xs) (sym (samples_text-append (samples_at impulses (from + k + 1)) rest) ∙ ap samples_text (sym s))
