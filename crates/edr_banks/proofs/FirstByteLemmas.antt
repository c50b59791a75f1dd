-- The bytes that were read before anything was written.
use Rattle.std.proofs.Common.{◌≡◌, ◌≤◌, ◌<◌, ◌+◌, ◌∙◌, ℕ, zero, suc, Bool, true, false, cond, not, List, length, slice_index, nat_eq, Option, Some, None, Result, Ok, Err, OnOk, refl, sym, ap, subst, ⊎_elim, inl, inr, arith, get_or-take}
use Rattle.std.specs.Prelude.{find, is_err, is_some}
use Rattle.std.specs.List.{range_with_len}
use Rattle.std.proofs.lemmas.Bool.{false≢true}
use Rattle.edr_device.specs.Device.{Elapses, Shows, Stays}
use Rattle.edr_image.specs.Image.{magic, not_magic}

-- the piece has the first bytes
abbrev pub ShowsFirst : List ℕ → List ℕ → Type 0
ShowsFirst piece bytes = (k : ℕ) → k < length piece → slice_index piece k ≡ slice_index bytes k

pub shown_first : (piece bytes : List ℕ) (content : Option (List ℕ)) → content ≡ Some bytes → Shows 0 piece content → ShowsFirst piece bytes
shown_first piece bytes content told shows =
    let here : Shows 0 piece (Some bytes) = subst (λ (c : Option (List ℕ)). Shows 0 piece c) told shows in
    λ k below. ap (λ (xs : List ℕ). slice_index xs k) here ∙ get_or-take (length piece) bytes k 0 below

find_same : (f g : ℕ → Bool) (s n : ℕ) → ((k : ℕ) → s ≤ k → k < s + n → f k ≡ g k) → find f (range_with_len s n) ≡ find g (range_with_len s n)
find_same f g s zero h = refl
find_same f g s (suc n) h =
    let here = h s (omega arith) (omega arith) in
    let rest = find_same f g (s + 1) n (λ k low high. h k (omega arith) (omega arith)) in
    ap (λ (b : Bool). cond b (Some s) (find f (range_with_len (s + 1) n))) here ∙ ap (λ (o : Option ℕ). cond (g s) (Some s) o) rest

-- whether the magic stands is seen from eight bytes
pub magic_same : (piece bytes : List ℕ) → ((k : ℕ) → k < 8 → slice_index piece k ≡ slice_index bytes k) → not_magic piece ≡ not_magic bytes
magic_same piece bytes shows =
    find_same (λ k. not (nat_eq (slice_index piece k) (slice_index magic k))) (λ k. not (nat_eq (slice_index bytes k) (slice_index magic k))) 0 8
    (λ k low high. ap (λ (n : ℕ). not (nat_eq n (slice_index magic k))) (shows k (omega arith)))

-- a run after a call that changed nothing
pub elapses_after : (c0 c1 : ℕ) (content content' : Option (List ℕ)) (settled settled' : ℕ → Bool) (s0 s1 s2 : ℕ → List ℕ → Type 0) (P : List ℕ → Type 0) → Stays content settled s0 content' settled' s1 → c1 ≡ c0 → Elapses c1 s1 s2 P → Elapses c0 s0 s2 P
elapses_after c0 c1 content content' settled settled' s0 s1 s2 P stays same run = record {
  nothing_else = λ t image within left. ⊎_elim
      (λ (before : s1 t image). inl (stays.nothing_else t image before))
      (λ (p : P image). inr p)
      (run.nothing_else t image (omega (arith, same)) left);
  past_stays = λ t image within left. run.past_stays t image (omega (arith, same)) (stays.past_stays t image left);
}

-- a call that didn't fail
pub where_ok : {T E P : Type 0} (r : Result T E) (b : Bool) → b ≡ is_err r → b ≡ false → OnOk r P → P
where_ok (Ok x) b is e p = p
where_ok (Err x) b is e p = absurd cc

-- the magic doesn't stand where it wasn't read
pub not_read : (piece bytes : List ℕ) (o : Option ℕ) (b : Bool) → 8 ≤ length piece → ShowsFirst piece bytes → o ≡ not_magic piece → is_some o ≡ not b → b ≡ false → not_magic bytes ≡ None → ⊥
not_read piece bytes o b long shows is some e stands =
    let none : o ≡ None = is ∙ magic_same piece bytes (λ k below. shows k (omega arith)) ∙ stands in
    let f : false ≡ true = sym (ap (λ (x : Option ℕ). is_some x) none) ∙ some ∙ ap not e in false≢true f
