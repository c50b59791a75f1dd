-- What is taken of a source piece by piece.
use Rattle.std.proofs.Common.{arith, ◌≡◌, ◌∙◌, refl, sym, ap, ap₂, subst, ℕ, ◌+◌, ◌-◌, ◌≤◌, ◌<◌, Option, Some, None, List, [], ◌++◌, length, take, drop, length-drop, append_assoc, zero-add}
use Rattle.std.proofs.lemmas.List.{append-nil, length-append, nil_from_length, length-take-le, take_at, take-append-drop}
use Rattle.std.proofs.lemmas.List.Edits.{take-paste}
use Rattle.std.proofs.Math.Seq.{drop-append_seam, drop-length, paste, take-add, take-append-add}
use Rattle.edr_device.specs.Stream.{Moves}
use Rattle.edr_device.specs.Told.{Told}
use Rattle.edr_device.specs.Transfer.{Carries, GivesAll, GivesAtMost, GivesTooMany}
use Rattle.edr_device.proofs.TellingLemmas.{told_again}
use Rattle.edr_device.proofs.TransferLemmas.{Gives}

-- what holds of the bytes that are told follows from what is known of them
told_so : (P Q : List ℕ → List ℕ → Type 0) → ((a b : List ℕ) → P a b → Q a b) → (x y : Option (List ℕ)) → Told P x y → Told Q x y
told_so P Q so None None t = tt
told_so P Q so (Some a) (Some b) t = so a b t
told_so P Q so None (Some b) t = t
told_so P Q so (Some a) None t = t

-- where a piece has no bytes, all were taken
pub gives_all : (n : ℕ) (v w : List ℕ) (x y z : Option (List ℕ)) → n ≡ 0 → length w ≡ length v + n → Told (Gives v) x y → Told (Carries n v w) y z → Told (GivesAll w) x z
gives_all n v w x y z zero long = told_again (Gives v) (Carries n v w) (GivesAll w)
    (λ a b d p q.
    let over = ap length (q.end zero) in
    let whole = ap length q.carried in
    let left = length-append v b in
    let right = length-append w d in
    let none : d ≡ [] = nil_from_length d (omega (arith, over, whole, left, right, long, zero)) in
    (p ∙ q.carried ∙ ap (λ t. w ++ t) none ∙ append-nil w, none))
    x y z

-- so many bytes were taken, and no more
pub gives_most : (most : ℕ) (v : List ℕ) (x y : Option (List ℕ)) → length v ≤ most → Told (Gives v) x y → Told (GivesAtMost most) x y
gives_most most v x y few = told_so (Gives v) (GivesAtMost most) (λ a b p. (length v, few, sym (drop-append_seam v b) ∙ ap (λ t. drop (length v) t) (sym p))) x y

-- all bytes are few
pub all_most : (most : ℕ) (v : List ℕ) (x y : Option (List ℕ)) → length v ≤ most → Told (GivesAll v) x y → Told (GivesAtMost most) x y
all_most most v x y few = told_so (GivesAll v) (GivesAtMost most) (λ a b p. (length v, few, p.1 ∙ sym (drop-length v) ∙ ap (λ t. drop (length v) t) (sym p.0))) x y

-- nothing was taken
pub none_taken : (most : ℕ) (x : Option (List ℕ)) → Told (GivesAtMost most) x x
none_taken most None = tt
none_taken most (Some a) = (0, omega arith, refl)

pub gives_too_many : (limit : ℕ) (v : List ℕ) (x y : Option (List ℕ)) → length v ≡ limit + 1 → Told (Gives v) x y → Told (GivesTooMany limit) x y
gives_too_many limit v x y long = told_so (Gives v) (GivesTooMany limit)
    (λ a b p.
    let whole = ap length p in
    let parts = length-append v b in
    (omega (arith, whole, parts, long), sym (drop-append_seam v b) ∙ ap (λ t. drop (length v) t) (sym p) ∙ ap (λ k. drop k a) long))
    x y

pub too_many : (limit : ℕ) (bytes : List ℕ) (x y : Option (List ℕ)) → x ≡ Some bytes → Told (GivesTooMany limit) x y → limit < length bytes
too_many limit bytes x y is t = by_told y (subst (λ (o : Option (List ℕ)). Told (GivesTooMany limit) o y) is t) where
  by_told : (y : Option (List ℕ)) → Told (GivesTooMany limit) (Some bytes) y → limit < length bytes
  by_told (Some b) t = t.0
  by_told None t = absurd t

-- n bytes of the source were put after the kept ones
after_kept : (kept n : ℕ) (buffer into into' post left left' : List ℕ) → kept ≤ length buffer → Moves n into into' left left' → Carries n (take kept buffer) (take (kept + n) (take kept buffer ++ (into' ++ post))) left left'
after_kept kept n buffer into into' post left left' within m =
    let front = take kept buffer in
    let place = ap (λ k. take (k + n) (front ++ (into' ++ post))) (sym (length-take-le kept buffer within)) ∙ take-append-add front (into' ++ post) n in
    let moved = ap (λ xs. take n (xs ++ post)) m.moved ∙ ap (take n) (append_assoc (take n left) (drop n into) post) ∙ take_at (take n left) (drop n into ++ post) n (length-take-le n left m.within) in
    let whole = append_assoc front (take n left) (drop n left) ∙ ap (λ xs. front ++ xs) (take-append-drop n left) in
    record {
      carried = sym (ap₂ (λ xs ys. xs ++ ys) (place ∙ ap (λ xs. front ++ xs) moved) m.rest ∙ whole);
      end = m.end.0;
    }

pub carries_after : (kept n : ℕ) (buffer into into' post : List ℕ) (x y : Option (List ℕ)) → kept ≤ length buffer → Told (Moves n into into') x y → Told (Carries n (take kept buffer) (take (kept + n) (take kept buffer ++ (into' ++ post)))) x y
carries_after kept n buffer into into' post x y within = told_so (Moves n into into') (Carries n (take kept buffer) (take (kept + n) (take kept buffer ++ (into' ++ post)))) (λ a b m. after_kept kept n buffer into into' post a b within m) x y

-- what was moved to the front stood after what was taken
pub moved_front : (old new : List ℕ) (at end : ℕ) → at ≤ end → end ≤ length old → new ≡ paste old 0 (drop at old) (end - at) → take (end - (end - at)) old ++ take (end - at) new ≡ take end old
moved_front old new at end within room after =
    let n = end - at in
    let left = length-drop at old in
    let front : end - n ≡ at = omega arith in
    let whole : at + n ≡ end = omega arith in
    let moved = ap (λ (k : ℕ). take k (paste old 0 (drop at old) n)) (sym (zero-add n)) ∙ take-paste old 0 (drop at old) n (omega arith) (omega (arith, left)) in
    ap₂ (λ (k : ℕ) (xs : List ℕ). take k old ++ xs) front (ap (take n) after ∙ moved) ∙ sym (take-add at n old) ∙ ap (λ (k : ℕ). take k old) whole

-- nothing was taken
pub gives_none : (x : Option (List ℕ)) → Told (Gives []) x x
gives_none None = tt
gives_none (Some a) = refl

-- n more bytes came after those that were left of the taken ones, and some of them were given on
pub gives_more : (n : ℕ) (before v w p q : List ℕ) (x y z : Option (List ℕ)) → p ++ q ≡ w → Told (Gives (before ++ v)) x y → Told (Carries n v w) y z → Told (Gives ((before ++ p) ++ q)) x z
gives_more n before v w p q x y z parts = told_again (Gives (before ++ v)) (Carries n v w) (Gives ((before ++ p) ++ q))
    (λ a b d e h.
    e ∙ append_assoc before v b ∙ ap (λ t. before ++ t) (h.carried ∙ ap (λ t. t ++ d) (sym parts) ∙ append_assoc p q d) ∙ sym (append_assoc before p (q ++ d)) ∙ sym (append_assoc (before ++ p) q d))
    x y z

-- no more came, so all were taken
pub gives_end : (n : ℕ) (before v w : List ℕ) (x y z : Option (List ℕ)) → n ≡ 0 → length w ≡ length v + n → Told (Gives (before ++ v)) x y → Told (Carries n v w) y z → Told (GivesAll (before ++ w)) x z
gives_end n before v w x y z zero long gives carries =
    let past : Told (Carries n (before ++ v) (before ++ w)) y z =
    told_so (Carries n v w) (Carries n (before ++ v) (before ++ w)) (λ b d h. record { carried = append_assoc before v b ∙ ap (λ t. before ++ t) h.carried ∙ sym (append_assoc before w d); end = h.end }) y z carries in
    let old = length-append before v in
    let new = length-append before w in
    gives_all n (before ++ v) (before ++ w) x y z zero (omega (arith, old, new, long)) gives past

-- a slice that was lent by a list of bytes, and is as long, is what the list has then
pub restored : (n : ℕ) (part items : List ℕ) → length part ≡ n → take n (part ++ drop (length part) items) ≡ part
restored n part items long = take_at part (drop (length part) items) n long
