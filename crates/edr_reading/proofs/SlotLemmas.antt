-- Lists of slots, slot by slot, and the points of an axis.
use Rattle.std.proofs.lemmas.{Int.{ints, to_z-of_z}, Bool.eqb-true}
use Rattle.std.proofs.lemmas.List.Elements.{All-append, All-drop, All-take, All-replicate}
use Rattle.std.proofs.Math.Seq.{take-length, take-append_seam, drop-append_seam}
use Rattle.std.proofs.Common.{ap₂, arith, ◌≡◌, ◌∙◌, sym, ap, subst, refl, ℕ, zero, suc, ◌+◌, ◌<◌, List, [], ◌∷◌, ◌++◌, length, map, take, drop, get_or, set, append_assoc, ◌^◌, Option, Some, None, codes, nat_eq, true, ◌≤◌, ℤ, pos, replicate, length-append, length-take-le, length-drop, slice_get, max, FitsSigned, w16, to_z, of_z}
use Rattle.std.proofs.lemmas.List.{append-nil, drop_all, drop_more, take_all, take_more, take_more_set, map-append, append_cancel_left, drop-replicate, take-append-drop, length-replicate}
use Rattle.std.specs.{List.All, Fmt.signed_decimal}
use Rattle.edr_record.specs.Parts.{CrashPart}
use Rattle.edr_record.specs.Bounds.{IsUpTo, ArePoints, IsChange, point_count, IsCrash, IsExtreme, window_from_end}
use Rattle.edr_report.specs.Words.{spaced_words, number_or_none, points_words, milliseconds, none_word}
use Rattle.edr_reading.proofs.ValueLemmas.{not-number}
use Rattle.edr_reading.specs.Answers.{EndsNumber, Reads, each_spaced, spaced_after, space_at, ReadsSlots}

-- ---- lists of slots, slot by slot

-- the first word has no space before it
pub spaced-first : (w : List ℕ) (ws : List (List ℕ)) → spaced_words (w ∷ ws) ≡ w ++ each_spaced ws
spaced-first w [] = sym (append-nil w)
spaced-first w (v ∷ ws) = ap (λ (x : List ℕ). w ++ (32 ∷ x)) (spaced-first v ws)

pub after-one : (n : ℕ) (w : List ℕ) (ws : List (List ℕ)) → spaced_after n (w ∷ ws) ≡ space_at n ++ (w ++ spaced_after (n + 1) ws)
after-one zero w ws = spaced-first w ws
after-one (suc n) w ws =
    let e : suc (suc n) ≡ suc n + 1 = omega arith in
    ap (λ (k : ℕ). 32 ∷ (w ++ spaced_after k ws)) e

pub after-ends : (n : ℕ) (ws : List (List ℕ)) → EndsNumber (spaced_after (suc n) ws)
after-ends n [] = tt
after-ends n (w ∷ ws) = refl

-- `none` in front is no number
pub none-slot : (bytes rest more : List ℕ) (highest : ℕ) (x : Option ℕ) → highest < 2 ^ 64 → IsUpTo highest x → bytes ≡ codes "none" ++ rest → bytes ≡ number_or_none x ++ more → (None ≡ x) × (rest ≡ more)
none-slot bytes rest more highest None small h e f = (refl, append_cancel_left (codes "none") rest more (sym e ∙ f))
none-slot bytes rest more highest (Some k) small h e f = absurd (not-number k 110 (codes "one" ++ rest) more (omega (arith, h)) refl (sym e ∙ f))

module _ {X : Type 0} (words : X → List ℕ) where
  -- one slot more was taken
  pub taken-more : (bytes rest more front : List ℕ) (slots : List X) (i : ℕ) (x : X) → i < length slots → ((ws : List (List ℕ)) → rest ≡ spaced_after i ws → bytes ≡ spaced_words (map words (take i slots) ++ ws))
      → front ≡ space_at i → rest ≡ front ++ (words x ++ more) → (ws : List (List ℕ)) → more ≡ spaced_after (i + 1) ws → bytes ≡ spaced_words (map words (take (i + 1) (set slots i x)) ++ ws)
  taken-more bytes rest more front slots i x h before f r ws m =
      let e : rest ≡ spaced_after i (words x ∷ ws) = r ∙ ap (λ (a : List ℕ). a ++ (words x ++ more)) f ∙ ap (λ (a : List ℕ). space_at i ++ (words x ++ a)) m ∙ sym (after-one i (words x) ws) in
      let t : map words (take (i + 1) (set slots i x)) ≡ map words (take i slots) ++ words x ∷ [] = ap (map words) (take_more_set slots i x h) ∙ map-append words (take i slots) (x ∷ []) in
      before (words x ∷ ws) e ∙ ap spaced_words (sym (ap (λ (a : List (List ℕ)). a ++ ws) t ∙ append_assoc (map words (take i slots)) (words x ∷ []) ws))

  -- what is left begins with the next slot
  pub left-one : (xs : List X) (rest front : List ℕ) (i : ℕ) (d : X) → i < length xs → rest ≡ spaced_after i (map words (drop i xs)) → front ≡ space_at i
      → rest ≡ front ++ (words (get_or xs i d) ++ spaced_after (i + 1) (map words (drop (i + 1) xs)))
  left-one xs rest front i d h e f =
      e ∙ ap (λ (ys : List X). spaced_after i (map words ys)) (drop_more xs i d h) ∙ after-one i (words (get_or xs i d)) (map words (drop (i + 1) xs))
      ∙ ap (λ (a : List ℕ). a ++ (words (get_or xs i d) ++ spaced_after (i + 1) (map words (drop (i + 1) xs)))) (sym f)

pub are-more : {X : Type 0} (ok : X → Type 0) (slots : List X) (i : ℕ) (x : X) → i < length slots → All ok (take i slots) → ok x → All ok (take (i + 1) (set slots i x))
are-more ok slots i x h before this = subst (All ok) (sym (take_more_set slots i x h)) (All-append ok (take i slots) (x ∷ []) before (λ k d m. by k d m))
  where
    by : (k : ℕ) (d : _) → k < 1 → ok (get_or (x ∷ []) k d)
    by zero d m = this
    by (suc k) d m = absurd (omega arith)

pub ends-more : (n : ℕ) (ws : List (List ℕ)) → EndsNumber (spaced_after (n + 1) ws)
ends-more n ws = let e : suc n ≡ n + 1 = omega arith in subst (λ (k : ℕ). EndsNumber (spaced_after k ws)) e (after-ends n ws)

pub same-more : {X : Type 0} (slots xs : List X) (i : ℕ) (x d : X) → i < length slots → i < length xs → take i slots ≡ take i xs → x ≡ get_or xs i d → take (i + 1) (set slots i x) ≡ take (i + 1) xs
same-more slots xs i x d h k e f = take_more_set slots i x h ∙ ap (λ (a : List _). a ++ x ∷ []) e ∙ ap (λ (y : _). take i xs ++ y ∷ []) f ∙ sym (take_more xs i d k)

-- an element of a list that has one
pub some-in : {X : Type 0} (xs : List X) (i : ℕ) → i < length xs → X
some-in [] i h = absurd (omega arith)
some-in (x ∷ xs) i h = x

nothing : (k : ℕ) → [] ≡ spaced_after k []
nothing zero = refl
nothing (suc k) = refl

-- where all slots were taken that the bytes show, nothing is left
pub all-same : {X : Type 0} (words : X → List ℕ) (rest : List ℕ) (slots xs : List X) (i : ℕ) → i ≡ length slots → length xs ≡ length slots → (take i slots ≡ take i xs) × (rest ≡ spaced_after i (map words (drop i xs)))
    → (nat_eq (length rest) 0 ≡ true) × (slots ≡ xs)
all-same words rest slots xs i all long h =
    let none : rest ≡ [] = h.1 ∙ ap (λ (ys : List _). spaced_after i (map words ys)) (drop_all i xs (omega (arith, all, long))) ∙ sym (nothing i) in
    (ap (λ (l : List ℕ). nat_eq (length l) 0) none, sym (take_all i slots (omega (arith, all))) ∙ h.0 ∙ take_all i xs (omega (arith, all, long)))

-- where all slots were taken and nothing is left, the bytes are these slots
pub read-all : {X : Type 0} (words : X → List ℕ) (ok : X → Type 0) (bytes rest : List ℕ) (slots : List X) (i : ℕ) → i ≡ length slots → rest ≡ [] → ((ws : List (List ℕ)) → rest ≡ spaced_after i ws → bytes ≡ spaced_words (map words (take i slots) ++ ws))
    → All ok (take i slots) → (bytes ≡ spaced_words (map words slots)) × All ok slots
read-all words ok bytes rest slots i all none read are =
    let t : take i slots ≡ slots = ap (λ (k : ℕ). take k slots) all ∙ take-length slots in
    (read [] (none ∙ nothing i) ∙ ap spaced_words (append-nil (map words (take i slots))) ∙ ap (λ (a : List _). spaced_words (map words a)) t, subst (All ok) t are)

pub none-left : (xs : List ℕ) → nat_eq (length xs) 0 ≡ true → xs ≡ []
none-left [] e = refl
none-left (x ∷ xs) e = let z = eqb-true (length (x ∷ xs)) 0 e in absurd (omega arith)

-- ---- the points of an axis, of which those past the end are 0, and a crash part in which nothing changed

pub count-fits : (end : ℕ) → (1 ≤ point_count end) × (point_count end ≤ 26)
count-fits end = (omega arith, omega arith)

pub zeros-change : All IsChange (replicate 26 (pos 0))
zeros-change = λ k d h. rw (zero-at k 26 d h) (omega arith)
  where
    zero-at : (k n : ℕ) (d : ℤ) → k < length (replicate n (pos 0)) → get_or (replicate n (pos 0)) k d ≡ pos 0
    zero-at k zero d h = absurd (omega arith)
    zero-at zero (suc n) d h = refl
    zero-at (suc k) (suc n) d h = zero-at k n d (omega arith)

pub first-is : (ps : List ℤ) → length ps ≡ 26 → get_or ps 0 (pos 0) ≡ pos 0 → slice_get ps 0 ≡ Some (pos 0)
first-is [] long e = absurd (omega arith)
first-is (p ∷ ps) long e = ap Some e

pub change-fits : (z : ℤ) → IsChange z → FitsSigned w16 z
change-fits z h = grind (arith, ints)

-- slots that were read, with zeros past them, are points
pub points-are : (bytes : List ℕ) (end n : ℕ) (front : List ℤ) → n ≡ point_count end → ReadsSlots signed_decimal IsChange bytes (take n (replicate 26 (pos 0))) front (Some tt) → of_z w16 (get_or (front ++ drop n (replicate 26 (pos 0))) 0 (pos 0)) ≡ 0
    → Reads (points_words end) (ArePoints (point_count end)) bytes (Some (front ++ drop n (replicate 26 (pos 0))))
points-are bytes end n front e r none = subst (λ (k : ℕ). ReadsSlots signed_decimal IsChange bytes (take k zeros) front (Some tt) → of_z w16 (get_or (front ++ drop k zeros) 0 (pos 0)) ≡ 0 → Reads (points_words end) (ArePoints (point_count end)) bytes (Some (front ++ drop k zeros))) (sym e) at r none
  where
    zeros : List ℤ
    zeros = replicate 26 (pos 0)

    at : ReadsSlots signed_decimal IsChange bytes (take (point_count end) zeros) front (Some tt) → of_z w16 (get_or (front ++ drop (point_count end) zeros) 0 (pos 0)) ≡ 0 → Reads (points_words end) (ArePoints (point_count end)) bytes (Some (front ++ drop (point_count end) zeros))
    at r none =
        let m = point_count end in
        let fits = count-fits end in
        let all = length-replicate 26 (pos 0) in
        let old : length (take m zeros) ≡ m = length-take-le m zeros (omega (arith, all, fits.1)) in
        let long : length front ≡ m = r.long ∙ old in
        let zs = drop m zeros in
        let room : length (front ++ zs) ≡ 26 = length-append front zs ∙ (let d = length-drop m zeros in omega (arith, d, all, long, fits.1)) in
        let changes = All-append IsChange front zs r.read.1 (All-drop IsChange m zeros zeros-change) in
        let first : get_or (front ++ zs) 0 (pos 0) ≡ pos 0 = sym (to_z-of_z w16 _ (change-fits _ (changes 0 (pos 0) (omega (arith, room))))) ∙ ap (to_z w16) none in
        let front-of : take m (front ++ zs) ≡ front = ap (λ (k : ℕ). take k (front ++ zs)) (sym long) ∙ take-append_seam front zs in
        let after-of : drop m (front ++ zs) ≡ zs = ap (λ (k : ℕ). drop k (front ++ zs)) (sym long) ∙ drop-append_seam front zs in
        record {
          read = (
            r.read.0 ∙ ap (λ (a : List ℤ). spaced_words (map signed_decimal a)) (sym front-of),
            record { room = room; first = first-is (front ++ zs) room first; changes = changes; past = after-of ∙ drop-replicate m 26 (pos 0) },
          );
          whole = λ ps are is.
              let long2 = length-take-le m ps (omega (arith, are.room, fits.1)) in
              ap Some (ap₂ (λ (a b : List ℤ). a ++ b) (r.whole (take m ps) (long2 ∙ sym old) (is, All-take IsChange m ps are.changes)) (drop-replicate m 26 (pos 0) ∙ sym are.past) ∙ take-append-drop m ps);
        }

-- the points of an axis on which nothing changed
pub no-points : (n : ℕ) → ArePoints n (replicate 26 (pos 0))
no-points n = record { room = length-replicate 26 (pos 0); first = refl; changes = zeros-change; past = drop-replicate n 26 (pos 0) }

-- an end is not absent
pub end-none : (end : ℕ) → end < 2_000 → none_word ≡ milliseconds end → ⊥
end-none end small e = not-number end 110 (codes "one") (codes " ms") (omega (arith, small)) refl e

pub no-change : (end : ℕ) → 20 ≤ end → end ≤ 500 → (c : CrashPart) → c.end ≡ end → c.along ≡ replicate 26 (pos 0) → c.across ≡ replicate 26 (pos 0) → c.max_along ≡ record { kmh = pos 0; at = 0 } → c.max_across ≡ record { kmh = pos 0; at = 0 }
    → c.result_at ≡ 0 → c.missing_along ≡ 0 → c.missing_across ≡ 0 → c.fired ≡ replicate 8 None → IsCrash c
no-change end h k c e a b x y r m n f = record {
  end_from = omega (arith, h, e);
  end_to = omega (arith, k, e);
  along = subst (ArePoints (point_count c.end)) (sym a) (no-points (point_count c.end));
  across = subst (ArePoints (point_count c.end)) (sym b) (no-points (point_count c.end));
  max_along = subst (IsExtreme (window_from_end c.end)) (sym x) (record { change = omega arith; time = omega arith });
  max_across = subst (IsExtreme (window_from_end c.end)) (sym y) (record { change = omega arith; time = omega arith });
  result_at = omega (arith, r);
  missing_along = omega (arith, m);
  missing_across = omega (arith, n);
  restraints = ap length f;
  fired = subst (All (IsUpTo (max c.end (window_from_end c.end)))) (sym f) (All-replicate (IsUpTo (max c.end (window_from_end c.end))) 8 None tt);
}
