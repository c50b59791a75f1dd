-- What a bank shows after the writes of a step, and after only some of them.
use Rattle.std.proofs.Common.{◌≡◌, ◌⊎◌, ◌≤◌, ◌<◌, ◌+◌, ◌++◌, ◌∙◌, ℕ, Bool, true, false, Option, Some, None, List, [], ◌∷◌, length, replicate, slice_index, refl, sym, ap, subst, inl, inr, arith}
use Rattle.std.proofs.lemmas.Grind.{common_steps}
use Rattle.std.proofs.lemmas.Bool.Decides.{nat_tests}
use Rattle.edr_device.specs.Device.{is_in}
use Rattle.edr_device.specs.Pieces.{SameBut, put_at}
use Rattle.edr_device.proofs.SettlingLemmas.{put_same, put_size}
use Rattle.edr_record.specs.Parts.{PrePart, CrashPart}
use Rattle.edr_record.specs.declared.Record.{Record}
use Rattle.edr_image.specs.declared.BankView.TheVariants.{Void, Event}
use Rattle.edr_image.specs.Image.{is_open}
use Rattle.edr_image.specs.PartBytes.{crash_bytes, pre_bytes}
use Rattle.edr_image.specs.Steps.{new_record}
use Rattle.edr_gates.proofs.MatchingLemmas.{Match, match_chain, match_part}
use Rattle.edr_gates.proofs.BankByteLemmas.{IsCrashFrom, IsPreFrom, Shows, ShowsCrash, ShowsEvent, crash_moves, event_stays, gate_first, gate_same, pre_moves}

-- ---- bytes beside a range, and in it

out_of : (k n i : ℕ) → (i < k) ⊎ (k + n ≤ i) → is_in k n i ≡ false
out_of k n i h = grind (arith, nat_tests)

pub beside : (k n : ℕ) (bytes image : List ℕ) (a m : ℕ) → SameBut k n bytes image → a + m ≤ length bytes → (a + m ≤ k) ⊎ (k + n ≤ a) → Match bytes a image a m
beside k n bytes image a m s fits (inl before) = record { same = λ j below. sym (s.same (a + j) (omega arith) (out_of k n (a + j) (inl (omega arith)))) }
beside k n bytes image a m s fits (inr behind) = record { same = λ j below. sym (s.same (a + j) (omega arith) (out_of k n (a + j) (inr (omega arith)))) }

pub gate_beside : (k n : ℕ) (bytes image : List ℕ) (a : ℕ) → SameBut k n bytes image → a < length bytes → (a < k) ⊎ (k + n ≤ a) → is_open image a ≡ is_open bytes a
gate_beside k n bytes image a s fits out = rw (s.same a fits (out_of k n a out)) refl

zero_first : (xs : List ℕ) (j : ℕ) → slice_index xs (0 + j) ≡ slice_index xs j
zero_first xs j = let e : 0 + j ≡ j = omega arith in rw e refl

-- the piece stands where it was put
pub put_there : (k : ℕ) (piece bytes : List ℕ) → k + length piece ≤ length bytes → Match piece 0 (put_at k piece bytes) k (length piece)
put_there k piece bytes fits = record { same = λ j below. zero_first piece j ∙ sym (there k j piece bytes fits below) }
  where
    there : (k j : ℕ) (piece bytes : List ℕ) → k + length piece ≤ length bytes → j < length piece → slice_index (put_at k piece bytes) (k + j) ≡ slice_index piece j
    there k j piece bytes fits below = grind (arith, common_steps)

put_gate : (k : ℕ) (bytes : List ℕ) → k + 1 ≤ length bytes → is_open (put_at k (165 ∷ []) bytes) k ≡ true
put_gate k bytes fits = gate_first (165 ∷ []) 0 (put_at k (165 ∷ []) bytes) k 1 true (put_there k (165 ∷ []) bytes fits) (omega arith) refl

-- ---- erase: only the gate of the bank may have changed

erase_gate : (at : ℕ) (bytes image : List ℕ) (r : Record) → at + 1024 ≤ length bytes → SameBut at 1 bytes image → is_open image at ≡ true → ShowsEvent bytes at r → Shows image at (Event r)
erase_gate at bytes image r fits s gate e =
    event_stays bytes at image at r r.locked gate (gate_beside at 1 bytes image (at + 1) s (omega arith) (inr (omega arith)) ∙ e.lock) (gate_beside at 1 bytes image (at + 2) s (omega arith) (inr (omega arith)))
    (beside at 1 bytes image (at + 16) 848 s (omega arith) (inr (omega arith))) (beside at 1 bytes image (at + 864) 160 s (omega arith) (inr (omega arith))) e

pub erase_either : (at : ℕ) (bytes image : List ℕ) (r : Record) → at + 1024 ≤ length bytes → SameBut at 1 bytes image → ShowsEvent bytes at r → Shows image at (Event r) ⊎ Shows image at Void
erase_either at bytes image r fits s e = by_gate (is_open image at) refl where
  by_gate : (o : Bool) → is_open image at ≡ o → Shows image at (Event r) ⊎ Shows image at Void
  by_gate true gate = inl (erase_gate at bytes image r fits s gate e)
  by_gate false gate = inr gate

pub erase_made : (at : ℕ) (bytes : List ℕ) → at + 1024 ≤ length bytes → Shows (put_at at (0 ∷ []) bytes) at Void
erase_made at bytes fits = gate_first (0 ∷ []) 0 (put_at at (0 ∷ []) bytes) at 1 false (put_there at (0 ∷ []) bytes (omega arith)) (omega arith) refl

-- ---- lock: only its gate may have changed

lock_gate : (at : ℕ) (bytes image : List ℕ) (r : Record) (o : Bool) → at + 1024 ≤ length bytes → SameBut (at + 1) 1 bytes image → is_open image (at + 1) ≡ o → ShowsEvent bytes at r → Shows image at (Event (record r { locked = o }))
lock_gate at bytes image r o fits s gate e =
    event_stays bytes at image at r o (gate_beside (at + 1) 1 bytes image at s (omega arith) (inl (omega arith)) ∙ e.opened) gate (gate_beside (at + 1) 1 bytes image (at + 2) s (omega arith) (inr (omega arith)))
    (beside (at + 1) 1 bytes image (at + 16) 848 s (omega arith) (inr (omega arith))) (beside (at + 1) 1 bytes image (at + 864) 160 s (omega arith) (inr (omega arith))) e

pub lock_either : (at : ℕ) (bytes image : List ℕ) (r : Record) → at + 1024 ≤ length bytes → SameBut (at + 1) 1 bytes image → r.locked ≡ false → ShowsEvent bytes at r → Shows image at (Event r) ⊎ Shows image at (Event (record r { locked = true }))
lock_either at bytes image r fits s unlocked e = by_gate (is_open image (at + 1)) refl where
  by_gate : (o : Bool) → is_open image (at + 1) ≡ o → Shows image at (Event r) ⊎ Shows image at (Event (record r { locked = true }))
  by_gate true gate = inr (lock_gate at bytes image r true fits s gate e)
  by_gate false gate = inl (subst (λ (l : Bool). ShowsEvent image at (record r { locked = l })) (sym unlocked) (lock_gate at bytes image r false fits s gate e))

pub lock_made : (at : ℕ) (bytes : List ℕ) (r : Record) → at + 1024 ≤ length bytes → ShowsEvent bytes at r → Shows (put_at (at + 1) (165 ∷ []) bytes) at (Event (record r { locked = true }))
lock_made at bytes r fits e = lock_gate at bytes (put_at (at + 1) (165 ∷ []) bytes) r true fits (put_same (at + 1) (165 ∷ []) bytes (omega arith)) (put_gate (at + 1) bytes (omega arith)) e

-- ---- fill: closed gates, zeros and the pre part are written while the gate is closed

pub fill_front : (at : ℕ) (bytes image : List ℕ) → at + 1024 ≤ length bytes → SameBut (at + 1) 863 bytes image → Shows bytes at Void → Shows image at Void
fill_front at bytes image fits s void = gate_beside (at + 1) 863 bytes image at s (omega arith) (inl (omega arith)) ∙ void

-- 15 zeros and a pre part
pub record IsFilling (piece : List ℕ) (pre : PrePart) : Type 0 where
  pub written : piece ≡ replicate 15 0 ++ pre_bytes pre
  pub long : length piece ≡ 863
  pub lock : is_open piece 0 ≡ false
  pub done : is_open piece 1 ≡ false
  pub part : IsPreFrom piece 15 pre

pub filling_is : (part : List ℕ) (pre : PrePart) → part ≡ pre_bytes pre → length part ≡ 848 → IsPreFrom part 0 pre → IsFilling (replicate 15 0 ++ part) pre
filling_is part pre same long whole = record {
  written = ap (λ (xs : List ℕ). replicate 15 0 ++ xs) same;
  long = grind (arith, common_steps);
  lock = refl;
  done = refl;
  part = pre_moves part 0 (replicate 15 0 ++ part) 15 pre (record { same = λ j below. zero_first part j ∙ behind part j }) whole;
}
  where
    behind : (part : List ℕ) (j : ℕ) → slice_index part j ≡ slice_index (replicate 15 0 ++ part) (15 + j)
    behind part j = grind (arith, common_steps)

fill_gate : (at : ℕ) (bytes image piece : List ℕ) (pre : PrePart) → at + 1024 ≤ length bytes → IsFilling piece pre → SameBut at 1 (put_at (at + 1) piece bytes) image → is_open image at ≡ true → Shows image at (Event (new_record pre))
fill_gate at bytes image piece pre fits is s gate =
    let mid = put_at (at + 1) piece bytes in
    let long = is.long in
    let size : length mid ≡ length bytes = put_size (at + 1) piece bytes (omega arith) in
    let there : Match piece 0 mid (at + 1) 863 = subst (λ (n : ℕ). Match piece 0 mid (at + 1) n) is.long (put_there (at + 1) piece bytes (omega arith)) in
    let stays = beside at 1 mid image (at + 1) 863 s (omega arith) (inr (omega arith)) in
    let all : Match piece 0 image (at + 1) 863 = match_chain piece 0 mid (at + 1) image (at + 1) 863 there stays in
    record {
      opened = gate;
      lock = gate_first piece 0 image (at + 1) 863 false all (omega arith) is.lock;
      begins = let e : at + 1 + 15 ≡ at + 16 = omega arith in subst (λ (k : ℕ). IsPreFrom image k pre) e (pre_moves piece 15 image (at + 1 + 15) pre (match_part piece 0 image (at + 1) 863 15 848 all (omega arith)) is.part);
      ends = let e : at + 1 + 1 ≡ at + 2 = omega arith in subst (λ (k : ℕ). is_open image k ≡ false) e (gate_same piece 0 image (at + 1) 863 1 false all (omega arith) is.done);
    }

pub fill_either : (at : ℕ) (bytes image piece : List ℕ) (pre : PrePart) → at + 1024 ≤ length bytes → IsFilling piece pre → SameBut at 1 (put_at (at + 1) piece bytes) image → Shows image at Void ⊎ Shows image at (Event (new_record pre))
fill_either at bytes image piece pre fits is s = by_gate (is_open image at) refl where
  by_gate : (o : Bool) → is_open image at ≡ o → Shows image at Void ⊎ Shows image at (Event (new_record pre))
  by_gate true gate = inr (fill_gate at bytes image piece pre fits is s gate)
  by_gate false gate = inl gate

pub fill_made : (at : ℕ) (bytes piece : List ℕ) (pre : PrePart) → at + 1024 ≤ length bytes → IsFilling piece pre → Shows (put_at at (165 ∷ []) (put_at (at + 1) piece bytes)) at (Event (new_record pre))
fill_made at bytes piece pre fits is =
    let mid = put_at (at + 1) piece bytes in
    let long = is.long in
    let size : length mid ≡ length bytes = put_size (at + 1) piece bytes (omega arith) in
    fill_gate at bytes (put_at at (165 ∷ []) mid) piece pre fits is (put_same at (165 ∷ []) mid (omega arith)) (put_gate at mid (omega arith))

-- ---- done: the crash part is written while its gate is closed

-- the bytes of a crash part
pub record IsEnding (piece : List ℕ) (crash : CrashPart) : Type 0 where
  pub written : piece ≡ crash_bytes crash
  pub long : length piece ≡ 160
  pub part : IsCrashFrom piece 0 crash

done_opens : (at : ℕ) (bytes : List ℕ) (r : Record) → r.crash ≡ None → ShowsEvent bytes at r → is_open bytes (at + 2) ≡ false
done_opens at bytes r none e = go r.crash none e.ends
  where
    go : (crash : Option CrashPart) → crash ≡ None → ShowsCrash bytes at crash → is_open bytes (at + 2) ≡ false
    go None is ends = ends
    go (Some crash) is ends = absurd cc

pub done_front : (at : ℕ) (bytes image : List ℕ) (r : Record) → at + 1024 ≤ length bytes → SameBut (at + 864) 160 bytes image → r.crash ≡ None → ShowsEvent bytes at r → Shows image at (Event r)
done_front at bytes image r fits s none e = record {
  opened = gate_beside (at + 864) 160 bytes image at s (omega arith) (inl (omega arith)) ∙ e.opened;
  lock = gate_beside (at + 864) 160 bytes image (at + 1) s (omega arith) (inl (omega arith)) ∙ e.lock;
  begins = pre_moves bytes (at + 16) image (at + 16) r.pre (beside (at + 864) 160 bytes image (at + 16) 848 s (omega arith) (inl (omega arith))) e.begins;
  ends = subst (λ (c : Option CrashPart). ShowsCrash image at c) (sym none) (gate_beside (at + 864) 160 bytes image (at + 2) s (omega arith) (inl (omega arith)) ∙ done_opens at bytes r none e);
}

-- a crash part is put, and its gate may have changed: the event with what the gate says of its crash part
done_gate : (at : ℕ) (bytes image piece : List ℕ) (r : Record) (crash : Option CrashPart) → at + 1024 ≤ length bytes → length piece ≡ 160 → SameBut (at + 2) 1 (put_at (at + 864) piece bytes) image
    → (Match piece 0 image (at + 864) 160 → ShowsCrash image at crash) → ShowsEvent bytes at r → Shows image at (Event (record r { crash = crash }))
done_gate at bytes image piece r crash fits long s ends e =
    let mid = put_at (at + 864) piece bytes in
    let size : length mid ≡ length bytes = put_size (at + 864) piece bytes (omega arith) in
    let put : SameBut (at + 864) 160 bytes mid = subst (λ (n : ℕ). SameBut (at + 864) n bytes mid) long (put_same (at + 864) piece bytes (omega arith)) in
    let there : Match piece 0 mid (at + 864) 160 = subst (λ (n : ℕ). Match piece 0 mid (at + 864) n) long (put_there (at + 864) piece bytes (omega arith)) in
    record {
      opened = gate_beside (at + 2) 1 mid image at s (omega arith) (inl (omega arith)) ∙ gate_beside (at + 864) 160 bytes mid at put (omega arith) (inl (omega arith)) ∙ e.opened;
      lock = gate_beside (at + 2) 1 mid image (at + 1) s (omega arith) (inl (omega arith)) ∙ gate_beside (at + 864) 160 bytes mid (at + 1) put (omega arith) (inl (omega arith)) ∙ e.lock;
      begins = pre_moves mid (at + 16) image (at + 16) r.pre (beside (at + 2) 1 mid image (at + 16) 848 s (omega arith) (inr (omega arith)))
          (pre_moves bytes (at + 16) mid (at + 16) r.pre (beside (at + 864) 160 bytes mid (at + 16) 848 put (omega arith) (inl (omega arith))) e.begins);
      ends = ends (match_chain piece 0 mid (at + 864) image (at + 864) 160 there (beside (at + 2) 1 mid image (at + 864) 160 s (omega arith) (inr (omega arith))));
    }

pub done_either : (at : ℕ) (bytes image piece : List ℕ) (r : Record) (crash : CrashPart) → at + 1024 ≤ length bytes → IsEnding piece crash → SameBut (at + 2) 1 (put_at (at + 864) piece bytes) image
    → r.crash ≡ None → ShowsEvent bytes at r → Shows image at (Event r) ⊎ Shows image at (Event (record r { crash = Some crash }))
done_either at bytes image piece r crash fits is s none e = by_gate (is_open image (at + 2)) refl where
  by_gate : (o : Bool) → is_open image (at + 2) ≡ o → Shows image at (Event r) ⊎ Shows image at (Event (record r { crash = Some crash }))
  by_gate true gate = inr (done_gate at bytes image piece r (Some crash) fits is.long s (λ h. (gate, crash_moves piece 0 image (at + 864) crash h is.part)) e)
  by_gate false gate = inl (subst (λ (c : Option CrashPart). ShowsEvent image at (record r { crash = c })) (sym none) (done_gate at bytes image piece r None fits is.long s (λ h. gate) e))

pub done_made : (at : ℕ) (bytes piece : List ℕ) (r : Record) (crash : CrashPart) → at + 1024 ≤ length bytes → IsEnding piece crash → ShowsEvent bytes at r
    → Shows (put_at (at + 2) (165 ∷ []) (put_at (at + 864) piece bytes)) at (Event (record r { crash = Some crash }))
done_made at bytes piece r crash fits is e =
    let long = is.long in
    let mid = put_at (at + 864) piece bytes in
    let image = put_at (at + 2) (165 ∷ []) mid in
    let size : length mid ≡ length bytes = put_size (at + 864) piece bytes (omega arith) in
    done_gate at bytes image piece r (Some crash) fits long (put_same (at + 2) (165 ∷ []) mid (omega arith)) (λ h. (put_gate (at + 2) mid (omega arith), crash_moves piece 0 image (at + 864) crash h is.part)) e
