-- A write and a sync keep all that they do not touch, at any moment.
use Rattle.std.proofs.Common.{◌≡◌, ◌⊎◌, ◌≤◌, ◌<◌, ◌+◌, ◌&&◌, ◌∙◌, ℕ, Bool, true, false, not, List, length, slice_index, Option, Some, None, Result, Ok, Err, OnErr, OnOk, ◌-◌, ◌≢◌, min, refl, sym, ap, subst, inl, inr, ⊎_elim, arith}
use Rattle.std.proofs.lemmas.Grind.{same_number_lists}
use Rattle.std.proofs.lemmas.Bool.Decides.{nat_tests}
use Rattle.std.proofs.lemmas.Bool.{false≢true}
use Rattle.edr_device.specs.Device.{Agrees, Elapses, IsQuiet, MayLeave, Settles, Stays, StillTells, Synced, Writes, Wrote, is_in, outside}
use Rattle.edr_device.specs.Faults.{last_number}
use Rattle.edr_device.specs.Told.{Told}
use Rattle.edr_device.specs.Pieces.{IsGatedStop, SameBut, put_at}
use Rattle.edr_device.proofs.RangeLemmas.{outside_part, written_size}

-- the device tells bytes that are these outside the range, and settled there
abbrev pub Near : ℕ → ℕ → List ℕ → Option (List ℕ) → (ℕ → Bool) → Type 0
Near at n bytes None settled = ⊥
Near at n bytes (Some now) settled = (length now ≡ length bytes) × ((i : ℕ) → i < length bytes → is_in at n i ≡ false → (slice_index now i ≡ slice_index bytes i) × (settled i ≡ true))

pub near_leaves : (at n : ℕ) (bytes : List ℕ) (content : Option (List ℕ)) (settled : ℕ → Bool) (image : List ℕ) → Near at n bytes content settled → MayLeave content settled image → SameBut at n bytes image
near_leaves at n bytes None settled image near left = absurd near
near_leaves at n bytes (Some now) settled image near left = record {
  size = left.size ∙ near.0;
  same = λ i below out. let k = near.1 i below out in left.same i (subst (λ m. i < m) (sym near.0) below) k.1 ∙ k.0;
}

pub both : (a b : Bool) → a ≡ true → b ≡ false → (a && not b) ≡ true
both a b e f = grind arith

-- a write from a state where nothing is pending
pub near_write : {T E : Type 0} (at : ℕ) (piece bytes : List ℕ) (r : Result T E) (old new : Option (List ℕ)) (settled settled' : ℕ → Bool) → at + length piece ≤ length bytes
    → IsQuiet old settled bytes → Wrote at piece r old settled new settled' → Near at (length piece) bytes new settled'
near_write at piece bytes r old new settled settled' fits q w =
    go r new (subst (λ (c : Option (List ℕ)). Wrote at piece r c settled new settled') q.0 w)
  where
    go : {T E : Type 0} (r : Result T E) (new : Option (List ℕ)) → Wrote at piece r (Some bytes) settled new settled' → Near at (length piece) bytes new settled'
    go (Ok x) None w = w
    go (Ok x) (Some now) w = (
      written_size bytes piece now at w.bytes fits,
      λ i below out. (outside_part bytes piece now at i w.bytes fits out, w.unsettled i ∙ both (settled i) (is_in at (length piece) i) (q.1 i) out),
    )
    go (Err x) None w = w
    go (Err x) (Some now) w = (w.size, λ i below out. w.same i below (q.1 i) out)

pub during_write : (at n : ℕ) (bytes : List ℕ) (old : Option (List ℕ)) (settled : ℕ → Bool) (image : List ℕ) → IsQuiet old settled bytes → MayLeave old (outside at n settled) image → SameBut at n bytes image
during_write at n bytes old settled image q left = go (subst (λ (c : Option (List ℕ)). MayLeave c (outside at n settled) image) q.0 left)
  where
    go : Agrees (outside at n settled) bytes image → SameBut at n bytes image
    go a = record { size = a.size; same = λ i below out. a.same i below (both (settled i) (is_in at n i) (q.1 i) out) }

pub in_nothing : (i : ℕ) → is_in 0 0 i ≡ false
in_nothing i = grind (arith, nat_tests)

-- a sync keeps what is near
pub near_sync : {T E : Type 0} (at n : ℕ) (bytes : List ℕ) (r : Result T E) (old new : Option (List ℕ)) (settled settled' : ℕ → Bool)
    → Near at n bytes old settled → Synced r old settled new settled' → Near at n bytes new settled'
near_sync at n bytes (Ok x) None new settled settled' near w = absurd near
near_sync at n bytes (Ok x) (Some now) None settled settled' near w = w
near_sync at n bytes (Ok x) (Some now) (Some after) settled settled' near w = (rw w.0 near.0, λ i below out. (rw w.0 (near.1 i below out).0, w.1 i))
near_sync at n bytes (Err x) None new settled settled' near w = absurd near
near_sync at n bytes (Err x) (Some now) None settled settled' near w = w
near_sync at n bytes (Err x) (Some now) (Some after) settled settled' near w = (
  w.size ∙ near.0,
  λ i below out.
      let k = near.1 i below out in let s = w.same i (subst (λ m. i < m) (sym near.0) below) k.1 (in_nothing i) in (s.0 ∙ k.0, s.1),
)

-- a good write and a good sync leave nothing pending
pub quiet_written : (at : ℕ) (piece bytes : List ℕ) (old mid new : Option (List ℕ)) (settled settled' settled'' : ℕ → Bool) → IsQuiet old settled bytes
    → Told (λ a b. Writes at piece settled a b settled') old mid → Told (Settles settled'') mid new → IsQuiet new settled'' (put_at at piece bytes)
quiet_written at piece bytes old mid new settled settled' settled'' q w s = go mid new (subst (λ (c : Option (List ℕ)). Told (λ a b. Writes at piece settled a b settled') c mid) q.0 w) s
  where
    go : (mid new : Option (List ℕ)) → Told (λ a b. Writes at piece settled a b settled') (Some bytes) mid → Told (Settles settled'') mid new → IsQuiet new settled'' (put_at at piece bytes)
    go None new w s = absurd w
    go (Some now) None w s = absurd s
    go (Some now) (Some after) w s = (ap Some (s.0 ∙ w.bytes), s.1)

-- a good write, and a sync that may have been good
pub written_if_synced : {T E : Type 0} (at : ℕ) (piece : List ℕ) (r : Result T E) (old mid new : Option (List ℕ)) (settled settled' settled'' : ℕ → Bool)
    → Told (λ a b. Writes at piece settled a b settled') old mid → Synced r mid settled' new settled'' → OnOk r ((bytes : List ℕ) → IsQuiet old settled bytes → IsQuiet new settled'' (put_at at piece bytes))
written_if_synced at piece (Ok x) old mid new settled settled' settled'' w s = λ bytes q. quiet_written at piece bytes old mid new settled settled' settled'' q w s
written_if_synced at piece (Err e) old mid new settled settled' settled'' w s = tt

-- where nothing is pending, a crash leaves just the bytes
pub quiet_leaves : (bytes : List ℕ) (content : Option (List ℕ)) (settled : ℕ → Bool) (image : List ℕ) → IsQuiet content settled bytes → MayLeave content settled image → image ≡ bytes
quiet_leaves bytes content settled image q left = go (subst (λ (c : Option (List ℕ)). MayLeave c settled image) q.0 left)
  where
    go : Agrees settled bytes image → image ≡ bytes
    go a = same_number_lists image bytes a.size (λ i below. a.same i (subst (λ m. i < m) a.size below) (q.1 i))

pub stays_quiet : (bytes : List ℕ) (old new : Option (List ℕ)) (settled settled' : ℕ → Bool) (past since : ℕ → List ℕ → Type 0) → IsQuiet old settled bytes → Stays old settled past new settled' since → IsQuiet new settled' bytes
stays_quiet bytes old new settled settled' past since q s = (s.same_content ∙ q.0, λ i. s.same_settled i ∙ q.1 i)

pub same_all : (at n : ℕ) (bytes image : List ℕ) → image ≡ bytes → SameBut at n bytes image
same_all at n bytes image e = record { size = ap length e; same = λ i below out. ap (λ (xs : List ℕ). slice_index xs i) e }

-- one run after another
pub elapses_again : (c0 c1 : ℕ) (s0 s1 s2 : ℕ → List ℕ → Type 0) (P Q R : List ℕ → Type 0) → Elapses c0 s0 s1 P → Elapses c1 s1 s2 Q → c0 ≤ c1 → ((image : List ℕ) → P image → R image) → ((image : List ℕ) → Q image → R image)
    → Elapses c0 s0 s2 R
elapses_again c0 c1 s0 s1 s2 P Q R first second le does does' = record {
  nothing_else = λ t image within left. ⊎_elim
      (λ (earlier : s1 t image). ⊎_elim
      (λ (before : s0 t image). inl before)
      (λ (p : P image). inr (does image p))
      (first.nothing_else t image within earlier))
      (λ (q : Q image). inr (does' image q))
      (second.nothing_else t image (omega arith) left);
  past_stays = λ t image within left. second.past_stays t image (omega arith) (first.past_stays t image within left);
}

pub elapses_more : (c0 : ℕ) (s0 s1 : ℕ → List ℕ → Type 0) (P R : List ℕ → Type 0) → Elapses c0 s0 s1 P → ((image : List ℕ) → P image → R image) → Elapses c0 s0 s1 R
elapses_more c0 s0 s1 P R first does = record {
  nothing_else = λ t image within left. ⊎_elim (λ (before : s0 t image). inl before) (λ (p : P image). inr (does image p)) (first.nothing_else t image within left);
  past_stays = first.past_stays;
}

-- a clause of a call that failed
pub on_err : {T E P : Type 0} (r : Result T E) → P → OnErr r P
on_err (Ok x) p = tt
on_err (Err e) p = p

-- a sync that failed after a write that did not
pub sync_stopped : {T E T' E' : Type 0} (before mid now : ℕ) (at : ℕ) (piece bytes : List ℕ) (r : Result T E) (r' : Result T' E') (old middle new : Option (List ℕ)) (settled settled' settled'' : ℕ → Bool) (image : List ℕ)
    → at + length piece ≤ length bytes → before < mid → mid ≤ now → Wrote at piece r old settled middle settled' → Synced r' middle settled' new settled''
    → IsQuiet old settled bytes → MayLeave new settled'' image → SameBut at (length piece) bytes image × (now ≡ before → image ≡ bytes)
sync_stopped before mid now at piece bytes r r' old middle new settled settled' settled'' image fits rose later w s quiet left = (
  near_leaves at (length piece) bytes new settled'' image (near_sync at (length piece) bytes r' middle new settled' settled'' (near_write at piece bytes r old middle settled settled' fits quiet w) s) left,
  λ same. absurd (omega arith),
)

pub rose_of : {A : Type 0} (before now : ℕ) → now ≡ min (before + 1) last_number → before ≤ last_number → (before ≡ last_number → (false ≡ true) × A) → before < now
rose_of before now e le full = let some_left : before ≢ last_number = λ x. false≢true (full x).0 in omega arith

-- the piece stands where it was put, and all else is as it was
pub put_same : (k : ℕ) (piece bytes : List ℕ) → k + length piece ≤ length bytes → SameBut k (length piece) bytes (put_at k piece bytes)
put_same k piece bytes fits = record {
  size = written_size bytes piece (put_at k piece bytes) k refl fits;
  same = λ i below out. outside_part bytes piece (put_at k piece bytes) k i refl fits out;
}

pub put_size : (k : ℕ) (piece bytes : List ℕ) → k + length piece ≤ length bytes → length (put_at k piece bytes) ≡ length bytes
put_size k piece bytes fits = written_size bytes piece (put_at k piece bytes) k refl fits

pub map_err : {T E P Q : Type 0} (r : Result T E) → OnErr r P → (P → Q) → OnErr r Q
map_err (Ok x) p f = tt
map_err (Err e) p f = f p

pub map_ok : {T E P Q : Type 0} (r : Result T E) → OnOk r P → (P → Q) → OnOk r Q
map_ok (Ok x) p f = f p
map_ok (Err e) p f = tt

-- a gate that was not opened after a piece that was put
pub gate_stopped : (old mid new : ℕ) (at : ℕ) (piece : List ℕ) (gate_at : ℕ) (bytes image : List ℕ) → at + length piece ≤ length bytes → mid ≡ old + 2 → mid ≤ new
    → SameBut gate_at 1 (put_at at piece bytes) image × (new ≡ mid → image ≡ put_at at piece bytes) → IsGatedStop (new - old) at piece gate_at bytes image
gate_stopped old mid new at piece gate_at bytes image fits two later s = ⊎_elim
    (λ (more : mid < new). inr (omega arith, s.0))
    (λ (same : new ≡ mid). inl (subst (λ (xs : List ℕ). SameBut at (length piece) bytes xs) (sym (s.1 same)) (put_same at piece bytes fits)))
    (split later)
  where
    split : {a b : ℕ} → a ≤ b → (a < b) ⊎ (b ≡ a)
    split le = grind arith

pub told_tells : (does : List ℕ → List ℕ → Type 0) (old new : Option (List ℕ)) → Told does old new → StillTells old new
told_tells does None None w = tt
told_tells does (Some a) (Some b) w = tt
told_tells does None (Some b) w = w
told_tells does (Some a) None w = w

pub tells_again : (a b c : Option (List ℕ)) → StillTells a b → StillTells b c → StillTells a c
tells_again None None None p q = tt
tells_again None None (Some z) p q = q
tells_again None (Some y) c p q = absurd p
tells_again (Some x) None c p q = absurd p
tells_again (Some x) (Some y) None p q = q
tells_again (Some x) (Some y) (Some z) p q = tt

pub wrote_tells : {T E : Type 0} (at : ℕ) (piece : List ℕ) (r : Result T E) (old new : Option (List ℕ)) (settled settled' : ℕ → Bool) → Wrote at piece r old settled new settled' → StillTells old new
wrote_tells at piece (Ok x) old new settled settled' w = told_tells _ old new w
wrote_tells at piece (Err x) old new settled settled' w = told_tells _ old new w

pub synced_tells : {T E : Type 0} (r : Result T E) (old new : Option (List ℕ)) (settled settled' : ℕ → Bool) → Synced r old settled new settled' → StillTells old new
synced_tells (Ok x) old new settled settled' w = told_tells _ old new w
synced_tells (Err x) old new settled settled' w = told_tells _ old new w

-- at each moment of a write and a sync after it, a crash leaves what was there but for the piece's place
pub write_then_sync : {T E : Type 0} (before mid : ℕ) (past between since : ℕ → List ℕ → Type 0) (at : ℕ) (piece bytes : List ℕ) (r : Result T E) (old middle : Option (List ℕ)) (settled settled' : ℕ → Bool) → at + length piece ≤ length bytes
    → IsQuiet old settled bytes → before ≤ mid → Wrote at piece r old settled middle settled' → Elapses before past between (MayLeave old (outside at (length piece) settled)) → Elapses mid between since (MayLeave middle settled')
    → Elapses before past since (SameBut at (length piece) bytes)
write_then_sync before mid past between since at piece bytes r old middle settled settled' fits quiet later w first second =
    elapses_again before mid past between since (MayLeave old (outside at (length piece) settled)) (MayLeave middle settled') (SameBut at (length piece) bytes) first second later
    (λ image left. during_write at (length piece) bytes old settled image quiet left)
    (λ image left. near_leaves at (length piece) bytes middle settled' image (near_write at piece bytes r old middle settled settled' fits quiet w) left)
