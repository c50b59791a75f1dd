-- What a stop leaves: a write or nothing, and then the power away and back.
use Rattle.std.proofs.Common.{◌≡◌, ◌<◌, ◌≤◌, ◌+◌, ◌∙◌, ℕ, Bool, true, false, min, length, List, Option, Some, None, Result, Ok, Err, slice_index, inl, inr, ⊎_elim, refl, ap, subst, sym, arith}
use Rattle.std.proofs.lemmas.Bool.{false≢true}
use Rattle.std.proofs.lemmas.Option.{same_Some}
use Rattle.edr_device.specs.Device.{Comes, Cycled, Elapses, KeepsOutside, MayLeave, Wrote, is_in, outside}
use Rattle.edr_device.specs.Fuse.{FusedSince}
use Rattle.edr_device.specs.Told.{Told}
use Rattle.edr_device.proofs.RangeLemmas.{both_parts, outside_part, written_size}
use Rattle.edr_device.proofs.SettlingLemmas.{both, in_nothing}
use Rattle.edr_device.proofs.TellingLemmas.{told_again}

same_told : (old new : Option (List ℕ)) → new ≡ old → Told (λ a b. b ≡ a) old new
same_told None None e = tt
same_told (Some a) (Some b) e = same_Some b a e
same_told None (Some b) e = absurd (cc)
same_told (Some a) None e = absurd (cc)

-- a write keeps what lies outside its range
pub wrote_keeps : {T E : Type 0} (at : ℕ) (piece : List ℕ) (r : Result T E) (old new : Option (List ℕ)) (settled settled' : ℕ → Bool) → ((bytes : List ℕ) → old ≡ Some bytes → at + length piece ≤ length bytes)
    → Wrote at piece r old settled new settled' → Told (λ a b. KeepsOutside at (length piece) settled a b settled') old new
wrote_keeps at piece (Err e) old new settled settled' fits w = w
wrote_keeps at piece (Ok x) None None settled settled' fits w = tt
wrote_keeps at piece (Ok x) (Some a) (Some b) settled settled' fits w = record {
  size = written_size a piece b at w.bytes (fits a refl);
  same = λ i below set aside. (outside_part a piece b at i w.bytes (fits a refl) aside, w.unsettled i ∙ both (settled i) (is_in at (length piece) i) set aside);
}
wrote_keeps at piece (Ok x) None (Some b) settled settled' fits w = absurd w
wrote_keeps at piece (Ok x) (Some a) None settled settled' fits w = absurd w

pub nothing_keeps : (content : Option (List ℕ)) (settled : ℕ → Bool) → Told (λ a b. KeepsOutside 0 0 settled a b settled) content content
nothing_keeps None settled = tt
nothing_keeps (Some a) settled = record { size = refl; same = λ i below set aside. (refl, set) }

-- a power cycle keeps what is settled
pub cycled_keeps : {T E : Type 0} (at n : ℕ) (r : Result T E) (old mid new : Option (List ℕ)) (settled settled' settled'' : ℕ → Bool) (past since : ℕ → List ℕ → Type 0)
    → Told (λ a b. KeepsOutside at n settled a b settled') old mid → Cycled r mid settled' past new settled'' since → Told (λ a b. KeepsOutside at n settled a b settled'') old new
cycled_keeps at n (Ok x) old mid new settled settled' settled'' past since kept cycled =
    told_again (λ a b. KeepsOutside at n settled a b settled') (Comes settled' settled'') (λ a b. KeepsOutside at n settled a b settled'')
    (λ a b d k c. record {
      size = c.0.size ∙ k.size;
      same = λ i below set aside. let one = k.same i below set aside in (c.0.same i (subst (λ (m : ℕ). i < m) (sym k.size) below) one.1 ∙ one.0, c.1 i);
    })
    old mid new kept cycled
cycled_keeps at n (Err x) old mid new settled settled' settled'' past since kept cycled =
    told_again (λ a b. KeepsOutside at n settled a b settled') (λ b d. d ≡ b) (λ a b. KeepsOutside at n settled a b settled'')
    (λ a b d k e. record {
      size = ap length e ∙ k.size;
      same = λ i below set aside. let one = k.same i below set aside in (ap (λ (xs : List ℕ). slice_index xs i) e ∙ one.0, cycled.same_settled i ∙ one.1);
    })
    old mid new kept (same_told mid new cycled.same_content)

-- what a crash after the call leaves a crash in it may leave
pub kept_leaves : (at n : ℕ) (old new : Option (List ℕ)) (settled settled' : ℕ → Bool) (image : List ℕ) → Told (λ a b. KeepsOutside at n settled a b settled') old new → MayLeave new settled' image → MayLeave old (outside at n settled) image
kept_leaves at n None new settled settled' image kept left = tt
kept_leaves at n (Some a) None settled settled' image kept left = absurd kept
kept_leaves at n (Some a) (Some b) settled settled' image kept left = record {
  size = left.size ∙ kept.size;
  same = λ i below set.
      let parts = both_parts (settled i) (is_in at n i) set in
      let one = kept.same i below parts.0 parts.1 in
      left.same i (subst (λ (m : ℕ). i < m) (sym kept.size) below) one.1 ∙ one.0;
}

pub all_leaves : (old new : Option (List ℕ)) (settled settled' : ℕ → Bool) (image : List ℕ) → Told (λ a b. KeepsOutside 0 0 settled a b settled') old new → MayLeave new settled' image → MayLeave old settled image
all_leaves None new settled settled' image kept left = tt
all_leaves (Some a) None settled settled' image kept left = absurd kept
all_leaves (Some a) (Some b) settled settled' image kept left = record {
  size = left.size ∙ kept.size;
  same = λ i below set.
      let one = kept.same i below set (in_nothing i) in
      left.same i (subst (λ (m : ℕ). i < m) (sym kept.size) below) one.1 ∙ one.0;
}

-- what the call inside leaves at each moment of the device, the stop leaves at each moment of the fuse
pub stop_elapses : (spent : Bool) (cut cut' ticks start last clock middle before now : ℕ) (past past' between since : ℕ → List ℕ → Type 0) (leaves leaves' during : List ℕ → Type 0) → spent ≡ false → cut' ≡ ticks + 1 → clock ≡ min (start + ticks) last
    → clock ≤ middle → middle ≤ last → Elapses clock past between during → ((image : List ℕ) → leaves' image → during image)
    → Elapses ticks (FusedSince spent cut start clock before past past' leaves) (FusedSince true cut' start now middle since between leaves') during
stop_elapses true cut cut' ticks start last clock middle before now past past' between since leaves leaves' during is at exact later room inner does = absurd (false≢true (sym is))
stop_elapses false cut cut' ticks start last clock middle before now past past' between since leaves leaves' during is at exact later room inner does = record {
  nothing_else = λ t image le left. ⊎_elim
      (λ (had : (t < cut') × between (min (start + t) middle) image). ⊎_elim
      (λ (p : past (min (start + t) middle) image). inl (subst (λ (u : ℕ). past u image) (same t le) p))
      (λ (d : during image). inr d)
      (inner.nothing_else (min (start + t) middle) image (omega (arith, same t le)) had.1))
      (λ (l : leaves' image). inr (does image l))
      left;
  past_stays = λ t image le left. inl (omega (arith, le, at), subst (λ (u : ℕ). between u image) (sym (same t le)) (inner.past_stays (min (start + t) clock) image (omega arith) left));
}
  where
    same : (t : ℕ) → t ≤ ticks → min (start + t) middle ≡ min (start + t) clock
    same t le = omega (arith, le, exact, later, room)

-- the same of a snapshot of the device as the call inside left it
pub snapshot_elapses : {D : Type 0} (clock_of : D → ℕ) (since_of : D → ℕ → List ℕ → Type 0) (mid m : D) (start now ticks : ℕ) (past since : ℕ → List ℕ → Type 0) (leaves during : List ℕ → Type 0) → m ≡ mid
    → Elapses ticks past (FusedSince true (ticks + 1) start now (clock_of mid) since (since_of mid) leaves) during → Elapses ticks past (FusedSince true (ticks + 1) start now (clock_of m) since (since_of m) leaves) during
snapshot_elapses {D = D} clock_of since_of mid m start now ticks past since leaves during same elapses =
    let P : D → Type 0 = λ x. Elapses ticks past (FusedSince true (ticks + 1) start now (clock_of x) since (since_of x) leaves) during in
    subst P (sym same) elapses
