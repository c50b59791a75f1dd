-- What an image says after the writes of a step, and after only some of them.
use Rattle.std.proofs.Common.{◌≡◌, ◌⊎◌, ◌≤◌, ◌<◌, ◌+◌, ◌-◌, ◌∙◌, ℕ, true, false, Some, List, [], ◌∷◌, length, slice_index, slice_set, refl, sym, ap, subst, inl, inr, ⊎_elim, arith}
use Rattle.std.proofs.lemmas.Bool.Decides.{nat_tests}
use Rattle.std.proofs.lemmas.List.{set-get_or}
use Rattle.std.proofs.lemmas.Option.{get_or_from_slice_get}
use Rattle.edr_device.specs.Device.{is_in}
use Rattle.edr_device.specs.Pieces.{SameBut, put_at}
use Rattle.edr_device.proofs.SettlingLemmas.{put_same, put_size}
use Rattle.edr_record.specs.Parts.{PrePart, CrashPart}
use Rattle.edr_record.specs.declared.Record.{Record}
use Rattle.edr_image.specs.declared.BankView.{BankView}
use Rattle.edr_image.specs.declared.BankView.TheVariants.{Void, Event}
use Rattle.edr_image.specs.Banks.{bank_at, with_bank}
use Rattle.edr_image.specs.Image.{View, open_gate, place_of, view_of, writes_of}
use Rattle.edr_image.specs.Steps.{BankStep, Erase, Fill, Lock, Done, after, new_record, with_crash, with_lock}
use Rattle.edr_gates.specs.Taken.{HasDone, BankHolds, IsUnwritten, MayTake, bank_of}
use Rattle.edr_gates.proofs.BankByteLemmas.{Shows}
use Rattle.edr_gates.proofs.BankStepLemmas.{IsEnding, IsFilling, done_either, done_front, done_made, erase_either, erase_made, fill_either, fill_front, fill_made, lock_either, lock_made}
use Rattle.edr_gates.proofs.ViewLemmas.{IsWhole, view_but, view_shows}

-- the step is not done, or done
abbrev pub Either : BankStep → List ℕ → View → List ℕ → Type 0
Either s bytes v image = HasDone (s ∷ []) [] bytes v image ⊎ HasDone (s ∷ []) (s ∷ []) bytes v image

-- ---- bytes

in_wider : (k n at m i : ℕ) → at ≤ k → k + n ≤ at + m → is_in at m i ≡ false → is_in k n i ≡ false
in_wider k n at m i low high out = grind (arith, nat_tests)

same_wider : (k n at m : ℕ) (bytes image : List ℕ) → at ≤ k → k + n ≤ at + m → SameBut k n bytes image → SameBut at m bytes image
same_wider k n at m bytes image low high s = record { size = s.size; same = λ i below out. s.same i below (in_wider k n at m i low high out) }

same_chain : (at m : ℕ) (bytes mid image : List ℕ) → SameBut at m bytes mid → SameBut at m mid image → SameBut at m bytes image
same_chain at m bytes mid image a b = record { size = b.size ∙ a.size; same = λ i below out. b.same i (subst (λ l. i < l) (sym a.size) below) out ∙ a.same i below out }

-- a piece that is put into a bank, and then a gate of it that may have changed
gated_in : (at k gate : ℕ) (piece bytes image : List ℕ) → at + 1024 ≤ length bytes → at ≤ k → k + length piece ≤ at + 1024 → at ≤ gate → gate + 1 ≤ at + 1024 → SameBut gate 1 (put_at k piece bytes) image → SameBut at 1024 bytes image
gated_in at k gate piece bytes image fits low high gate_low gate_high s =
    same_chain at 1024 bytes (put_at k piece bytes) image (same_wider k (length piece) at 1024 bytes (put_at k piece bytes) low high (put_same k piece bytes (omega arith)))
    (same_wider gate 1 at 1024 (put_at k piece bytes) image gate_low gate_high s)

-- ---- bytes that a step doesn't write

abbrev KeepsUnwritten : BankStep → List ℕ → List ℕ → Type 0
KeepsUnwritten s bytes image = (i : ℕ) → i < length bytes → IsUnwritten (s ∷ []) i → slice_index image i ≡ slice_index bytes i

erase_keeps : (m : ℕ) (bytes image : List ℕ) → SameBut (place_of m) 1 bytes image → KeepsUnwritten (Erase m) bytes image
unfolding writes_of
erase_keeps m bytes image s i below out = s.same i below (out.0 0 (open_gate 0) (omega arith))

lock_keeps : (m : ℕ) (bytes image : List ℕ) → SameBut (place_of m + 1) 1 bytes image → KeepsUnwritten (Lock m) bytes image
unfolding writes_of
lock_keeps m bytes image s i below out = s.same i below (out.0 0 (open_gate 0) (omega arith))

fill_keeps_front : (m : ℕ) (pre : PrePart) (piece bytes image : List ℕ) → IsFilling piece pre → SameBut (place_of m + 1) (length piece) bytes image → KeepsUnwritten (Fill m pre) bytes image
unfolding writes_of
fill_keeps_front m pre piece bytes image is s i below out = s.same i below (subst (λ (xs : List ℕ). is_in (place_of m + 1) (length xs) i ≡ false) (sym is.written) (out.0 0 (open_gate 0) (omega arith)))

fill_keeps : (m : ℕ) (pre : PrePart) (piece bytes image : List ℕ) → place_of m + 1 + length piece ≤ length bytes → IsFilling piece pre → SameBut (place_of m) 1 (put_at (place_of m + 1) piece bytes) image → KeepsUnwritten (Fill m pre) bytes image
unfolding writes_of
fill_keeps m pre piece bytes image fits is s i below out =
    let put = put_same (place_of m + 1) piece bytes fits in
    s.same i (subst (λ n. i < n) (sym put.size) below) (out.0 1 (open_gate 0) (omega arith)) ∙ fill_keeps_front m pre piece bytes (put_at (place_of m + 1) piece bytes) is put i below out

done_keeps_front : (m : ℕ) (crash : CrashPart) (piece bytes image : List ℕ) → IsEnding piece crash → SameBut (place_of m + 864) (length piece) bytes image → KeepsUnwritten (Done m crash) bytes image
unfolding writes_of
done_keeps_front m crash piece bytes image is s i below out = s.same i below (subst (λ (xs : List ℕ). is_in (place_of m + 864) (length xs) i ≡ false) (sym is.written) (out.0 0 (open_gate 0) (omega arith)))

done_keeps : (m : ℕ) (crash : CrashPart) (piece bytes image : List ℕ) → place_of m + 864 + length piece ≤ length bytes → IsEnding piece crash → SameBut (place_of m + 2) 1 (put_at (place_of m + 864) piece bytes) image → KeepsUnwritten (Done m crash) bytes image
unfolding writes_of
done_keeps m crash piece bytes image fits is s i below out =
    let put = put_same (place_of m + 864) piece bytes fits in
    s.same i (subst (λ n. i < n) (sym put.size) below) (out.0 1 (open_gate 0) (omega arith)) ∙ done_keeps_front m crash piece bytes (put_at (place_of m + 864) piece bytes) is put i below out

-- ---- views

event_is_whole : (r : Record) → IsWhole (Event r)
event_is_whole r o b l e = cc

void_is_whole : IsWhole Void
void_is_whole o b l e = cc

set_same : (banks : List BankView) (m : ℕ) (view : BankView) → BankHolds banks m view → with_bank banks m view ≡ banks
set_same banks m view holds = ap (λ (x : BankView). slice_set banks (m - 1) x) (sym (get_or_from_slice_get banks (m - 1) view view holds.1)) ∙ set-get_or banks (m - 1) view

bank_is : (banks : List BankView) (m : ℕ) (view : BankView) → BankHolds banks m view → bank_at banks m ≡ view
bank_is banks m view holds = get_or_from_slice_get banks (m - 1) view Void holds.1

-- the bank of the step says what it said
not_done : (s : BankStep) (bytes image : List ℕ) (v : View) (old : BankView) → view_of bytes ≡ Some v → BankHolds v.store.banks (bank_of s) old → SameBut (place_of (bank_of s)) 1024 bytes image → KeepsUnwritten s bytes image → Shows image (place_of (bank_of s)) old → HasDone (s ∷ []) [] bytes v image
not_done s bytes image v old e holds same keeps shows = record {
  size = same.size;
  same = λ i below aside. same.same i below aside.0;
  unwritten = keeps;
  view = view_but bytes image v (bank_of s) old old e holds same shows ∙ ap (λ (banks : List BankView). Some (record v { store = record v.store { banks = banks } })) (set_same v.store.banks (bank_of s) old holds);
}

-- the bank of the step says what the step makes of it
is_done : (s : BankStep) (bytes image : List ℕ) (v : View) (old new : BankView) → view_of bytes ≡ Some v → BankHolds v.store.banks (bank_of s) old → SameBut (place_of (bank_of s)) 1024 bytes image → KeepsUnwritten s bytes image → Shows image (place_of (bank_of s)) new
    → with_bank v.store.banks (bank_of s) new ≡ (after v.store (s ∷ [])).banks → HasDone (s ∷ []) (s ∷ []) bytes v image
is_done s bytes image v old new e holds same keeps shows makes = record {
  size = same.size;
  same = λ i below aside. same.same i below aside.0;
  unwritten = keeps;
  view = view_but bytes image v (bank_of s) old new e holds same shows ∙ ap (λ (banks : List BankView). Some (record v { store = record v.store { banks = banks } })) makes;
}

lock_makes : (banks : List BankView) (m : ℕ) (r : Record) → BankHolds banks m (Event r) → with_bank banks m (Event (record r { locked = true })) ≡ with_bank banks m (with_lock (bank_at banks m))
lock_makes banks m r holds = ap (λ (b : BankView). with_bank banks m (with_lock b)) (sym (bank_is banks m (Event r) holds))

done_makes : (banks : List BankView) (m : ℕ) (r : Record) (crash : CrashPart) → BankHolds banks m (Event r) → with_bank banks m (Event (record r { crash = Some crash })) ≡ with_bank banks m (with_crash crash (bank_at banks m))
done_makes banks m r crash holds = ap (λ (b : BankView). with_bank banks m (with_crash crash b)) (sym (bank_is banks m (Event r) holds))

-- ---- erase

pub erase_image : (m : ℕ) (bytes image : List ℕ) (v : View) → view_of bytes ≡ Some v → MayTake v.store.banks (Erase m) → SameBut (place_of m) 1 bytes image → Either (Erase m) bytes v image
erase_image m bytes image v e may s =
    let at = place_of m in
    let old = view_shows bytes v m (Event may.0) e may.1 (event_is_whole may.0) in
    let wide = same_wider at 1 at 1024 bytes image (omega arith) (omega arith) s in
    let keeps = erase_keeps m bytes image s in
    ⊎_elim
    (λ (same : Shows image at (Event may.0)). inl (not_done (Erase m) bytes image v (Event may.0) e may.1 wide keeps same))
    (λ (void : Shows image at Void). inr (is_done (Erase m) bytes image v (Event may.0) Void e may.1 wide keeps void refl))
    (erase_either at bytes image may.0 old.0 s old.1)

pub erase_whole : (m : ℕ) (bytes : List ℕ) (v : View) → view_of bytes ≡ Some v → MayTake v.store.banks (Erase m) → HasDone (Erase m ∷ []) (Erase m ∷ []) bytes v (put_at (place_of m) (0 ∷ []) bytes)
erase_whole m bytes v e may =
    let at = place_of m in
    let old = view_shows bytes v m (Event may.0) e may.1 (event_is_whole may.0) in
    let fits = old.0 in
    let wide = same_wider at 1 at 1024 bytes _ (omega arith) (omega arith) (put_same at (0 ∷ []) bytes (omega arith)) in
    let keeps = erase_keeps m bytes (put_at at (0 ∷ []) bytes) (put_same at (0 ∷ []) bytes (omega arith)) in
    is_done (Erase m) bytes _ v (Event may.0) Void e may.1 wide keeps (erase_made at bytes fits) refl

-- ---- lock

pub lock_image : (m : ℕ) (bytes image : List ℕ) (v : View) → view_of bytes ≡ Some v → MayTake v.store.banks (Lock m) → SameBut (place_of m + 1) 1 bytes image → Either (Lock m) bytes v image
lock_image m bytes image v e may s =
    let at = place_of m in
    let r = may.0 in
    let old = view_shows bytes v m (Event r) e may.1 (event_is_whole r) in
    let wide = same_wider (at + 1) 1 at 1024 bytes image (omega arith) (omega arith) s in
    let keeps = lock_keeps m bytes image s in
    ⊎_elim
    (λ (same : Shows image at (Event r)). inl (not_done (Lock m) bytes image v (Event r) e may.1 wide keeps same))
    (λ (lock : Shows image at (Event (record r { locked = true }))). inr (is_done (Lock m) bytes image v (Event r) (Event (record r { locked = true })) e may.1 wide keeps lock (lock_makes v.store.banks m r may.1)))
    (lock_either at bytes image r old.0 s may.2 old.1)

pub lock_whole : (m : ℕ) (bytes : List ℕ) (v : View) → view_of bytes ≡ Some v → MayTake v.store.banks (Lock m) → HasDone (Lock m ∷ []) (Lock m ∷ []) bytes v (put_at (place_of m + 1) (165 ∷ []) bytes)
lock_whole m bytes v e may =
    let at = place_of m in
    let r = may.0 in
    let old = view_shows bytes v m (Event r) e may.1 (event_is_whole r) in
    let fits = old.0 in
    let wide = same_wider (at + 1) 1 at 1024 bytes _ (omega arith) (omega arith) (put_same (at + 1) (165 ∷ []) bytes (omega arith)) in
    let keeps = lock_keeps m bytes (put_at (at + 1) (165 ∷ []) bytes) (put_same (at + 1) (165 ∷ []) bytes (omega arith)) in
    is_done (Lock m) bytes _ v (Event r) (Event (record r { locked = true })) e may.1 wide keeps (lock_made at bytes r fits old.1) (lock_makes v.store.banks m r may.1)

-- ---- fill

pub fill_before : (m : ℕ) (pre : PrePart) (piece bytes image : List ℕ) (v : View) → view_of bytes ≡ Some v → MayTake v.store.banks (Fill m pre) → IsFilling piece pre → SameBut (place_of m + 1) (length piece) bytes image → HasDone (Fill m pre ∷ []) [] bytes v image
fill_before m pre piece bytes image v e may is same =
    let at = place_of m in
    let s = subst (λ (n : ℕ). SameBut (at + 1) n bytes image) is.long same in
    let old = view_shows bytes v m Void e may void_is_whole in
    let wide = same_wider (at + 1) 863 at 1024 bytes image (omega arith) (omega arith) s in
    let keeps = fill_keeps_front m pre piece bytes image is same in
    not_done (Fill m pre) bytes image v Void e may wide keeps (fill_front at bytes image old.0 s old.1)

pub fill_image : (m : ℕ) (pre : PrePart) (piece bytes image : List ℕ) (v : View) → view_of bytes ≡ Some v → MayTake v.store.banks (Fill m pre) → IsFilling piece pre → SameBut (place_of m) 1 (put_at (place_of m + 1) piece bytes) image → Either (Fill m pre) bytes v image
fill_image m pre piece bytes image v e may is s =
    let at = place_of m in
    let old = view_shows bytes v m Void e may void_is_whole in
    let fits = old.0 in
    let long = is.long in
    let wide = gated_in at (at + 1) at piece bytes image fits (omega arith) (omega arith) (omega arith) (omega arith) s in
    let keeps = fill_keeps m pre piece bytes image (omega arith) is s in
    ⊎_elim
    (λ (same : Shows image at Void). inl (not_done (Fill m pre) bytes image v Void e may wide keeps same))
    (λ (event : Shows image at (Event (new_record pre))). inr (is_done (Fill m pre) bytes image v Void (Event (new_record pre)) e may wide keeps event refl))
    (fill_either at bytes image piece pre fits is s)

pub fill_whole : (m : ℕ) (pre : PrePart) (piece bytes : List ℕ) (v : View) → view_of bytes ≡ Some v → MayTake v.store.banks (Fill m pre) → IsFilling piece pre → HasDone (Fill m pre ∷ []) (Fill m pre ∷ []) bytes v (put_at (place_of m) (165 ∷ []) (put_at (place_of m + 1) piece bytes))
fill_whole m pre piece bytes v e may is =
    let at = place_of m in
    let old = view_shows bytes v m Void e may void_is_whole in
    let fits = old.0 in
    let long = is.long in
    let mid = put_at (at + 1) piece bytes in
    let size : length mid ≡ length bytes = put_size (at + 1) piece bytes (omega arith) in
    let wide = gated_in at (at + 1) at piece bytes _ fits (omega arith) (omega arith) (omega arith) (omega arith) (put_same at (165 ∷ []) mid (omega arith)) in
    let keeps = fill_keeps m pre piece bytes (put_at at (165 ∷ []) mid) (omega arith) is (put_same at (165 ∷ []) mid (omega arith)) in
    is_done (Fill m pre) bytes _ v Void (Event (new_record pre)) e may wide keeps (fill_made at bytes piece pre fits is) refl

-- ---- done

pub done_before : (m : ℕ) (crash : CrashPart) (piece bytes image : List ℕ) (v : View) → view_of bytes ≡ Some v → MayTake v.store.banks (Done m crash) → IsEnding piece crash → SameBut (place_of m + 864) (length piece) bytes image → HasDone (Done m crash ∷ []) [] bytes v image
done_before m crash piece bytes image v e may is same =
    let at = place_of m in
    let s = subst (λ (n : ℕ). SameBut (at + 864) n bytes image) is.long same in
    let r = may.0 in
    let old = view_shows bytes v m (Event r) e may.1 (event_is_whole r) in
    let wide = same_wider (at + 864) 160 at 1024 bytes image (omega arith) (omega arith) s in
    let keeps = done_keeps_front m crash piece bytes image is same in
    not_done (Done m crash) bytes image v (Event r) e may.1 wide keeps (done_front at bytes image r old.0 s may.2 old.1)

pub done_image : (m : ℕ) (crash : CrashPart) (piece bytes image : List ℕ) (v : View) → view_of bytes ≡ Some v → MayTake v.store.banks (Done m crash) → IsEnding piece crash
    → SameBut (place_of m + 2) 1 (put_at (place_of m + 864) piece bytes) image → Either (Done m crash) bytes v image
done_image m crash piece bytes image v e may is s =
    let at = place_of m in
    let long = is.long in
    let r = may.0 in
    let old = view_shows bytes v m (Event r) e may.1 (event_is_whole r) in
    let fits = old.0 in
    let wide = gated_in at (at + 864) (at + 2) piece bytes image fits (omega arith) (omega arith) (omega arith) (omega arith) s in
    let keeps = done_keeps m crash piece bytes image (omega arith) is s in
    ⊎_elim
    (λ (same : Shows image at (Event r)). inl (not_done (Done m crash) bytes image v (Event r) e may.1 wide keeps same))
    (λ (done : Shows image at (Event (record r { crash = Some crash }))). inr (is_done (Done m crash) bytes image v (Event r) (Event (record r { crash = Some crash })) e may.1 wide keeps done (done_makes v.store.banks m r crash may.1)))
    (done_either at bytes image piece r crash fits is s may.2 old.1)

pub done_whole : (m : ℕ) (crash : CrashPart) (piece bytes : List ℕ) (v : View) → view_of bytes ≡ Some v → MayTake v.store.banks (Done m crash) → IsEnding piece crash
    → HasDone (Done m crash ∷ []) (Done m crash ∷ []) bytes v (put_at (place_of m + 2) (165 ∷ []) (put_at (place_of m + 864) piece bytes))
done_whole m crash piece bytes v e may is =
    let at = place_of m in
    let long = is.long in
    let r = may.0 in
    let old = view_shows bytes v m (Event r) e may.1 (event_is_whole r) in
    let fits = old.0 in
    let mid = put_at (at + 864) piece bytes in
    let size : length mid ≡ length bytes = put_size (at + 864) piece bytes (omega arith) in
    let wide = gated_in at (at + 864) (at + 2) piece bytes _ fits (omega arith) (omega arith) (omega arith) (omega arith) (put_same (at + 2) (165 ∷ []) mid (omega arith)) in
    let keeps = done_keeps m crash piece bytes (put_at (at + 2) (165 ∷ []) mid) (omega arith) is (put_same (at + 2) (165 ∷ []) mid (omega arith)) in
    is_done (Done m crash) bytes _ v (Event r) (Event (record r { crash = Some crash })) e may.1 wide keeps (done_made at bytes piece r crash fits is old.1) (done_makes v.store.banks m r crash may.1)
