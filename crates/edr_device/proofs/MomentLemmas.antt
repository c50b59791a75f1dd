-- What a crash since an earlier moment may have left, after one moment more.
use Rattle.std.proofs.Common.{◌≡◌, ◌⊎◌, ◌≤◌, ◌<◌, ◌+◌, ◌∙◌, ℕ, zero, suc, Bool, true, false, List, [], ◌∷◌, ◌++◌, length, drop, slice_get, slice_index, slice_index_or, replicate, get_or, ap, inl, inr, ⊎_elim, sym, subst, zero-le, Some, None, arith}
use Rattle.std.proofs.Math.Nat.{not-suc-le-zero, le_of_suc-le-suc, suc_inj}
use Rattle.std.proofs.lemmas.Option.{slice_get_cases}
use Rattle.edr_device.specs.Device.{Agrees, Comes, Elapses, IsSettled, Settles, Stays, Writes, is_in, outside}
use Rattle.edr_device.specs.Past.{HadLeft, MayBeLeft, MayBeLeftSince, settled_at}
use Rattle.edr_device.specs.declared.moment.HeldBytes.{HeldBytes}
use Rattle.edr_device.specs.declared.moment.Call.{Call}
use Rattle.edr_device.specs.declared.mem_nvm.MemNvm.{MemNvm}
use Rattle.edr_device.specs.Memory.{HasKept, Remembers}
use Rattle.edr_device.specs.Pieces.{put_at}
use Rattle.edr_device.specs.Draw.{image_after}
use Rattle.edr_device.proofs.DrawLemmas.{came_agrees}
use Rattle.edr_device.proofs.RangeLemmas.{all_set, both_parts, outside_part, unset_range, written_size}

abbrev AtCall : Call → List ℕ → Type 0
AtCall c image = MayBeLeft c.before.value image ⊎ MayBeLeft c.after.value image

had_more : (past : List Call) (c : Call) (t : ℕ) (image : List ℕ) → t ≤ length past → HadLeft (drop t (past ++ c ∷ [])) image → HadLeft (drop t past) image ⊎ AtCall c image
had_more [] c zero image h (inl here) = inr here
had_more [] c zero image h (inr bad) = absurd bad
had_more [] c (suc t) image h had = absurd (not-suc-le-zero h)
had_more (p ∷ past) c zero image h (inl here) = inl (inl here)
had_more (p ∷ past) c zero image h (inr had) = ⊎_elim (λ x. inl (inr x)) (λ y. inr y) (had_more past c zero image zero-le had)
had_more (p ∷ past) c (suc t) image h had = had_more past c t image (le_of_suc-le-suc h) had

had_still : (past : List Call) (c : Call) (t : ℕ) (image : List ℕ) → HadLeft (drop t past) image → HadLeft (drop t (past ++ c ∷ [])) image
had_still [] c zero image had = absurd had
had_still [] c (suc t) image had = absurd had
had_still (p ∷ past) c zero image (inl here) = inl here
had_still (p ∷ past) c zero image (inr had) = inr (had_still past c zero image had)
had_still (p ∷ past) c (suc t) image had = had_still past c t image had

had_last : (past : List Call) (c : Call) (t : ℕ) (image : List ℕ) → t ≤ length past → AtCall c image → HadLeft (drop t (past ++ c ∷ [])) image
had_last [] c zero image h left = inl left
had_last [] c (suc t) image h left = absurd (not-suc-le-zero h)
had_last (p ∷ past) c zero image h left = inr (had_last past c zero image zero-le left)
had_last (p ∷ past) c (suc t) image h left = had_last past c t image (le_of_suc-le-suc h) left

-- a call that is kept counts since each moment up to it
had_at : (past : List Call) (c : Call) (t k : ℕ) (image : List ℕ) → t ≤ k → slice_get past k ≡ Some c → MayBeLeft c.after.value image → HadLeft (drop t past) image
had_at [] c t zero image h e left = absurd (cc)
had_at [] c t (suc k) image h e left = absurd (cc)
had_at (p ∷ past) c zero zero image h e left = inl (inr (subst (λ (x : Call). MayBeLeft x.after.value image) (sym (some_is e)) left))
  where
    some_is : {A : Type 0} {x y : A} → Some x ≡ Some y → x ≡ y
    some_is e = cc
had_at (p ∷ past) c zero (suc k) image h e left = inr (had_at past c zero k image zero-le e left)
had_at (p ∷ past) c (suc t) zero image h e left = absurd (not-suc-le-zero h)
had_at (p ∷ past) c (suc t) (suc k) image h e left = had_at past c t k image (le_of_suc-le-suc h) e left

pub get_before : (past : List Call) (c d : Call) (k : ℕ) → k < length past → slice_get (past ++ c ∷ []) k ≡ Some d → slice_get past k ≡ Some d
get_before [] c d k below e = absurd (not-suc-le-zero below)
get_before (p ∷ past) c d zero below e = e
get_before (p ∷ past) c d (suc k) below e = get_before past c d k (le_of_suc-le-suc below) e

pub get_last : (past : List Call) (c d : Call) (k : ℕ) → length past ≡ k → slice_get (past ++ c ∷ []) k ≡ Some d → c ≡ d
get_last [] c d zero same e = cc
get_last [] c d (suc k) same e = absurd (omega arith)
get_last (p ∷ past) c d zero same e = absurd (omega arith)
get_last (p ∷ past) c d (suc k) same e = get_last past c d k (suc_inj same) e

-- what a crash now may leave was there at the last good call: after a call that failed, and after one that did not
pub covered_still : (past past' : List Call) (now : HeldBytes) (c : Call) (good : ℕ) → past' ≡ past ++ c ∷ [] → good ≤ length past
    → ((k : ℕ) (c : Call) (image : List ℕ) → good ≡ k + 1 → slice_get past k ≡ Some c → MayBeLeft now image → MayBeLeft c.after.value image)
    → (k : ℕ) (d : Call) (image : List ℕ) → good ≡ k + 1 → slice_get past' k ≡ Some d → MayBeLeft now image → MayBeLeft d.after.value image
covered_still past past' now c good grown within had k d image is e left =
    had k d image is (get_before past c d k (omega arith) (subst (λ (p : List Call). slice_get p k ≡ Some d) grown e)) left

pub covered_last : (past past' : List Call) (now : HeldBytes) (c : Call) (good : ℕ) → past' ≡ past ++ c ∷ [] → good ≡ length past + 1 → c.after.value ≡ now
    → (k : ℕ) (d : Call) (image : List ℕ) → good ≡ k + 1 → slice_get past' k ≡ Some d → MayBeLeft now image → MayBeLeft d.after.value image
covered_last past past' now c good grown more is' k d image is e left =
    let same : c ≡ d = get_last past c d k (omega arith) (subst (λ (p : List Call). slice_get p k ≡ Some d) grown e) in
    subst (λ (x : Call). MayBeLeft x.after.value image) same (subst (λ (m : HeldBytes). MayBeLeft m image) (sym is') left)

-- one moment more, which is kept
pub kept_elapses : (past past' : List Call) (now now' : HeldBytes) (c : Call) (clock : ℕ) (during : List ℕ → Type 0) → length past ≡ clock → c.before.value ≡ now → c.after.value ≡ now'
    → past' ≡ past ++ c ∷ [] → ((image : List ℕ) → MayBeLeft now' image → MayBeLeft now image ⊎ during image) → Elapses clock (MayBeLeftSince past now) (MayBeLeftSince past' now') during
kept_elapses past past' now now' c clock during long is is' grown does = record {
  nothing_else = λ t image le left. ⊎_elim
      (λ (here : MayBeLeft now' image). side t image (does image here))
      (λ (had : HadLeft (drop t past') image). ⊎_elim
      (λ (x : HadLeft (drop t past) image). inl (inr x))
      (λ (y : AtCall c image). ⊎_elim
      (λ (b : MayBeLeft c.before.value image). inl (inl (subst (λ (m : HeldBytes). MayBeLeft m image) is b)))
      (λ (a : MayBeLeft c.after.value image). side t image (does image (subst (λ (m : HeldBytes). MayBeLeft m image) is' a)))
      y)
      (had_more past c t image (subst (λ (n : ℕ). t ≤ n) (sym long) le) (subst (λ (p : List Call). HadLeft (drop t p) image) grown had)))
      left;
  past_stays = λ t image le left. inr (subst (λ (p : List Call). HadLeft (drop t p) image) (sym grown) (⊎_elim
      (λ (here : MayBeLeft now image). had_last past c t image (subst (λ (n : ℕ). t ≤ n) (sym long) le) (inl (subst (λ (m : HeldBytes). MayBeLeft m image) (sym is) here)))
      (λ (had : HadLeft (drop t past) image). had_still past c t image had)
      left));
}
  where
    side : (t : ℕ) (image : List ℕ) → MayBeLeft now image ⊎ during image → MayBeLeftSince past now t image ⊎ during image
    side t image x = ⊎_elim (λ (a : MayBeLeft now image). inl (inl a)) (λ (d : during image). inr d) x

-- nothing kept, and nothing changed
pub same_elapses : (past past' : List Call) (now now' : HeldBytes) (clock : ℕ) (during : List ℕ → Type 0) → now' ≡ now → past' ≡ past → Elapses clock (MayBeLeftSince past now) (MayBeLeftSince past' now') during
same_elapses past past' now now' clock during same past_same = record {
  nothing_else = λ t image le left. inl (⊎_elim
      (λ (here : MayBeLeft now' image). inl (subst (λ (m : HeldBytes). MayBeLeft m image) same here))
      (λ (had : HadLeft (drop t past') image). inr (subst (λ (p : List Call). HadLeft (drop t p) image) past_same had)) left);
  past_stays = λ t image le left. ⊎_elim
      (λ (here : MayBeLeft now image). inl (subst (λ (m : HeldBytes). MayBeLeft m image) (sym same) here))
      (λ (had : HadLeft (drop t past) image). inr (subst (λ (p : List Call). HadLeft (drop t p) image) (sym past_same) had)) left;
}

-- a call that failed
pub refused_elapses : (old new : MemNvm) (during : List ℕ → Type 0) → Remembers old new → new.state ≡ old.state → Elapses old.clock (MayBeLeftSince old.past.items old.state) (MayBeLeftSince new.past.items new.state) during
refused_elapses old new during r same =
    ⊎_elim
    (λ (k : HasKept old new). kept_elapses old.past.items new.past.items old.state new.state k.1 old.clock during k.0 k.2 k.3 k.4 (λ image left. inl (subst (λ (m : HeldBytes). MayBeLeft m image) same left)))
    (λ (p : (new.past.items ≡ old.past.items) × (new.state ≡ old.state)). same_elapses old.past.items new.past.items old.state new.state old.clock during same p.0)
    r

pub stays_same : (past past' : List Call) (now now' : HeldBytes) → now' ≡ now → past' ≡ past → Stays (Some now.image.items) (settled_at now) (MayBeLeftSince past now) (Some now'.image.items) (settled_at now') (MayBeLeftSince past' now')
stays_same past past' now now' same past_same = record {
  same_content = ap (λ (m : HeldBytes). Some m.image.items) same;
  same_settled = λ i. ap (λ (m : HeldBytes). settled_at m i) same;
  nothing_else = λ t image left. ⊎_elim
      (λ (here : MayBeLeft now' image). inl (subst (λ (m : HeldBytes). MayBeLeft m image) same here))
      (λ (had : HadLeft (drop t past') image). inr (subst (λ (p : List Call). HadLeft (drop t p) image) past_same had)) left;
  past_stays = λ t image left. ⊎_elim
      (λ (here : MayBeLeft now image). inl (subst (λ (m : HeldBytes). MayBeLeft m image) (sym same) here))
      (λ (had : HadLeft (drop t past) image). inr (subst (λ (p : List Call). HadLeft (drop t p) image) (sym past_same) had)) left;
}

-- ---- a power cycle

-- what may be left after it might have been left before it
pub comes_less : (settled settled' : ℕ → Bool) (old new image : List ℕ) → Comes settled settled' old new → Agrees settled' new image → Agrees settled old image
comes_less settled settled' old new image c a = record {
  size = a.size ∙ c.0.size;
  same = λ i below s. a.same i (subst (λ m. i < m) (sym c.0.size) below) (c.1 i) ∙ c.0.same i below s;
}

-- what was left at the last good call stays
pub cycle_stays : (past : List Call) (now : HeldBytes) (good t : ℕ) (image : List ℕ) → good ≤ length past
    → ((k : ℕ) (c : Call) (image : List ℕ) → good ≡ k + 1 → slice_get past k ≡ Some c → MayBeLeft now image → MayBeLeft c.after.value image)
    → t < good → MayBeLeftSince past now t image → HadLeft (drop t past) image
cycle_stays past now zero t image h covered below left = absurd (not-suc-le-zero below)
cycle_stays past now (suc k) t image h covered below (inr had) = had
cycle_stays past now (suc k) t image h covered below (inl here) = ⊎_elim
    (λ (f : (x : Call) × (k < length past) × (slice_get past k ≡ Some x) × (get_or past k x ≡ x)). had_at past f.0 t k image (omega arith) f.2 (covered k f.0 image (omega arith) f.2 here))
    (λ (n : (length past ≤ k) × (slice_get past k ≡ None)). absurd (omega arith))
    (slice_get_cases past k).1

-- ---- the calls of the bytes, as those of a device

pub moment_writes : (old new : HeldBytes) (at : ℕ) (piece : List ℕ) → at + length piece ≤ length old.image.items → new.image.items ≡ put_at at piece old.image.items → new.settled.items ≡ put_at at (replicate (length piece) false) old.settled.items
    → Writes at piece (settled_at old) old.image.items new.image.items (settled_at new)
moment_writes old new at piece fits image flags = record {
  bytes = image;
  unsettled = λ i. ap (λ (xs : List Bool). slice_index_or xs i true) flags ∙ unset_range old.settled.items at (length piece) i (subst (λ (n : ℕ). at + length piece ≤ n) (sym old.sizes.0) fits);
}

all_settled : (m : HeldBytes) (n : ℕ) → m.settled.items ≡ replicate n true → IsSettled (settled_at m)
all_settled m n flags i = ap (λ (xs : List Bool). slice_index_or xs i true) flags ∙ all_set n i

pub moment_settles : (old new : HeldBytes) (n : ℕ) → new.image.items ≡ old.image.items → new.settled.items ≡ replicate n true → Settles (settled_at new) old.image.items new.image.items
moment_settles old new n image flags = (image, all_settled new n flags)

pub moment_comes_back : (m : MemNvm) (stored : List ℕ) (new : HeldBytes) (n : ℕ) → stored ≡ m.stored.items → new.image.items ≡ image_after m.pick m.state.settled.items stored m.state.image.items → new.settled.items ≡ replicate n true
    → Comes (settled_at m.state) (settled_at new) m.state.image.items new.image.items
moment_comes_back m stored new n same image flags = (
  came_agrees m.pick m.state.settled.items m.stored.items m.state.image.items new.image.items m.state.sizes.0 m.stored_size m.stored_is
      (subst (λ (xs : List ℕ). new.image.items ≡ image_after m.pick m.state.settled.items xs m.state.image.items) same image),
  all_settled new n flags,
)

-- ---- a write

-- what a crash may leave after a write that succeeded, a crash during it may leave too
pub written_during : (at : ℕ) (piece : List ℕ) (settled settled' : ℕ → Bool) (old new image : List ℕ) → at + length piece ≤ length old → Writes at piece settled old new settled' → Agrees settled' new image
    → Agrees (outside at (length piece) settled) old image
written_during at piece settled settled' old new image fits w a = record {
  size = a.size ∙ written_size old piece new at w.bytes fits;
  same = λ i below s.
      let out : is_in at (length piece) i ≡ false = (both_parts (settled i) (is_in at (length piece) i) s).1 in
      a.same i (subst (λ (m : ℕ). i < m) (sym (written_size old piece new at w.bytes fits)) below) (w.unsettled i ∙ s) ∙ outside_part old piece new at i w.bytes fits out;
}

-- the bytes that were stored stay the settled ones
pub stored_after : (at : ℕ) (piece : List ℕ) (settled settled' : ℕ → Bool) (old new stored : List ℕ) → at + length piece ≤ length old → Writes at piece settled old new settled'
    → ((i : ℕ) → i < length old → settled i ≡ true → slice_index stored i ≡ slice_index old i) → (i : ℕ) → i < length new → settled' i ≡ true → slice_index stored i ≡ slice_index new i
stored_after at piece settled settled' old new stored fits w had i below s =
    let below_old : i < length old = subst (λ (m : ℕ). i < m) (written_size old piece new at w.bytes fits) below in
    let both = both_parts (settled i) (is_in at (length piece) i) (sym (w.unsettled i) ∙ s) in
    had i below_old both.0 ∙ sym (outside_part old piece new at i w.bytes fits both.1)

-- ---- a sync

pub settled_less : (settled settled' : ℕ → Bool) (old new image : List ℕ) → Settles settled' old new → Agrees settled' new image → Agrees settled old image
settled_less settled settled' old new image s a = record {
  size = a.size ∙ ap length s.0;
  same = λ i below t. a.same i (subst (λ (xs : List ℕ). i < length xs) (sym s.0) below) (s.1 i) ∙ ap (λ (xs : List ℕ). slice_index xs i) s.0;
}
