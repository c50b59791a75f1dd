-- The steps of a command may be taken on opened banks, and leave them opened.
use Rattle.std.proofs.Common.{◌≡◌, ◌≤◌, ◌<◌, ◌+◌, ◌-◌, ◌∙◌, cond, ℕ, zero, suc, Bool, true, false, not, List, [], ◌∷◌, length, Option, Some, None, refl, sym, ap, arith}
use Rattle.std.specs.Prelude.{All, slice_get, slice_set, slice_index_or}
use Rattle.std.proofs.lemmas.List.{length-set}
use Rattle.std.proofs.lemmas.List.Elements.{All-cons, All-nil}
use Rattle.std.proofs.lemmas.Option.{slice_get_within}
use Rattle.edr_record.specs.Parts.{PrePart, CrashPart}
use Rattle.edr_record.specs.declared.Record.{Record}
use Rattle.edr_record.specs.declared.Command.{Command}
use Rattle.edr_record.specs.declared.Command.TheVariants as command
use Rattle.edr_image.specs.declared.Applied.TheVariants as applied
use Rattle.edr_image.specs.declared.Choice.{Choice}
use Rattle.edr_image.specs.declared.Choice.TheVariants.{Keep, Overwrite}
use Rattle.edr_image.specs.declared.BankView.{BankView}
use Rattle.edr_image.specs.declared.BankView.TheVariants.{Void, Event}
use Rattle.edr_image.specs.Banks.{bank_at, is_unlocked, least_unlocked, lowest_void, to_overwrite, with_bank}
use Rattle.edr_image.specs.Steps.{BankStep, Done, Erase, Fill, Lock, Reply, banks_after, done_reply, lock_reply, new_record, not_kept, reply_to, take_reply, with_crash, with_lock}
use Rattle.edr_image.proofs.StepLaws.{get_set_here, least_unlocked-is, lowest_void-is, place_holds}
use Rattle.edr_gates.specs.Taken.{BankHolds, MayTake, MayTakeAll}
use Rattle.edr_banks.specs.Opened.{IsOpened, OpenedBanks}
use Rattle.edr_banks.specs.Applying.{reply_of}
use Rattle.edr_banks.specs.Tasks.{IsStepWithin}

-- ---- which steps may be taken

numbered : (i m : ℕ) → m ≡ i + 1 → (1 ≤ m) × (m - 1 ≡ i)
numbered i m e = (omega (arith, e), omega (arith, e))

void_holds : (banks : List BankView) (m : ℕ) → lowest_void banks ≡ Some m → BankHolds banks m Void
void_holds banks m e =
    let found = lowest_void-is banks m e in
    let n = numbered found.0 m found.1 in (n.0, ap (λ (i : ℕ). slice_get banks i) n.1 ∙ found.2)

-- an older event may go: its bank is void then
older_holds : (banks : List BankView) (m : ℕ) → least_unlocked banks ≡ Some m → (r : Record) × BankHolds banks m (Event r)
older_holds banks m e =
    let found = least_unlocked-is banks m e in
    let n = numbered found.0 m found.1 in (found.2, (n.0, ap (λ (i : ℕ). slice_get banks i) n.1 ∙ found.3))

set_holds : (banks : List BankView) (m : ℕ) (old new : BankView) → BankHolds banks m old → BankHolds (with_bank banks m new) m new
set_holds banks m old new h = (h.0, get_set_here banks (m - 1) old new h.1)

take_may : (banks : List BankView) (pre : PrePart) (void older : Option ℕ) → ((m : ℕ) → void ≡ Some m → BankHolds banks m Void) → ((m : ℕ) → older ≡ Some m → (r : Record) × BankHolds banks m (Event r)) → MayTakeAll banks (take_reply pre void older).steps
take_may banks pre (Some m) older voids olders = (voids m refl, tt)
take_may banks pre None (Some m) voids olders = let was = olders m refl in (was, (set_holds banks m (Event was.0) Void was.1, tt))
take_may banks pre None None voids olders = tt

-- the held event is not locked
unlocked_record : (r : Record) → is_unlocked (Event r) ≡ true → r.locked ≡ false
unlocked_record r e = by_lock r.locked e where
  by_lock : (b : Bool) → not b ≡ true → b ≡ false
  by_lock true e = cc
  by_lock false e = refl

lock_held : (banks : List BankView) (m : ℕ) (r : Record) (b : Bool) → BankHolds banks m (Event r) → is_unlocked (bank_at banks m) ≡ b → MayTakeAll banks (let x : Reply = cond b (record { steps = Lock m ∷ []; answer = applied.Locked m }) not_kept in x.steps)
lock_held banks m r true h e =
    let there : bank_at banks m ≡ Event r = place_holds banks (m - 1) (Event r) Void h.1 in
    ((r, h, unlocked_record r (ap is_unlocked (sym there) ∙ e)), tt)
lock_held banks m r false h e = tt

lock_may : (banks : List BankView) (pre : PrePart) (held older : Option ℕ) → ((m : ℕ) → held ≡ Some m → (r : Record) × BankHolds banks m (Event r)) → ((m : ℕ) → older ≡ Some m → (r : Record) × BankHolds banks m (Event r)) → MayTakeAll banks (lock_reply pre banks held older).steps
lock_may banks pre (Some m) older helds olders = let h = helds m refl in lock_held banks m h.0 (is_unlocked (bank_at banks m)) h.1 refl
lock_may banks pre None (Some m) helds olders =
    let was = olders m refl in
    let void = set_holds banks m (Event was.0) Void was.1 in
    let new = set_holds (with_bank banks m Void) m Void (Event (new_record pre)) void in
    (was, (void, ((new_record pre, new, refl), tt)))
lock_may banks pre None None helds olders = tt

done_may : (banks : List BankView) (crash : CrashPart) (held : Option ℕ) → ((m : ℕ) → held ≡ Some m → (r : Record) × BankHolds banks m (Event r) × (r.crash ≡ None)) → MayTakeAll banks (done_reply crash held).steps
done_may banks crash (Some m) helds = (helds m refl, tt)
done_may banks crash None helds = tt

held_holds : (o : OpenedBanks) (m : ℕ) → IsOpened o → o.held ≡ Some m → (r : Record) × BankHolds o.store.banks m (Event r) × (r.crash ≡ None)
held_holds o m is e = let h = is.held m e in (h.1, (h.0, h.2), h.3)

overwritten_holds : (choice : Choice) (banks : List BankView) (m : ℕ) → to_overwrite choice banks ≡ Some m → (r : Record) × BankHolds banks m (Event r)
overwritten_holds Keep banks m e = absurd cc
overwritten_holds Overwrite banks m e = older_holds banks m e

pub reply_may : (o : OpenedBanks) (c : Command) → IsOpened o → MayTakeAll o.store.banks (reply_of o c).steps
unfolding reply_to
reply_may o (command.Take pre) is = take_may o.store.banks pre (lowest_void o.store.banks) (to_overwrite o.store.header.choice o.store.banks) (void_holds o.store.banks) (overwritten_holds o.store.header.choice o.store.banks)
reply_may o (command.Lock pre) is = lock_may o.store.banks pre o.held (least_unlocked o.store.banks) (λ m e. let h = held_holds o m is e in (h.0, h.1)) (older_holds o.store.banks)
reply_may o (command.Done crash) is = done_may o.store.banks crash o.held (λ m e. held_holds o m is e)

-- ---- the bank of a step is there

holds_within : (banks : List BankView) (n m : ℕ) (view : BankView) → length banks ≡ n → BankHolds banks m view → (1 ≤ m) × (m ≤ n)
holds_within banks n m view long h = let below = slice_get_within banks (m - 1) view h.1 in (h.0, omega (arith, long, below, h.0))

step_within : (s : BankStep) (banks : List BankView) (n : ℕ) → length banks ≡ n → MayTake banks s → IsStepWithin n s
step_within (Erase m) banks n long may = holds_within banks n m (Event may.0) long may.1
step_within (Fill m pre) banks n long may = holds_within banks n m Void long may
step_within (Lock m) banks n long may = holds_within banks n m (Event may.0) long may.1
step_within (Done m crash) banks n long may = holds_within banks n m (Event may.0) long may.1

as_many : (s : BankStep) (banks : List BankView) → length (banks_after banks s) ≡ length banks
as_many (Erase m) banks = length-set banks (m - 1) Void
as_many (Fill m pre) banks = length-set banks (m - 1) (Event (new_record pre))
as_many (Lock m) banks = length-set banks (m - 1) (with_lock (bank_at banks m))
as_many (Done m crash) banks = length-set banks (m - 1) (with_crash crash (bank_at banks m))

pub steps_within : (steps : List BankStep) (banks : List BankView) (n : ℕ) → length banks ≡ n → MayTakeAll banks steps → All (IsStepWithin n) steps
steps_within [] banks n long may = All-nil (IsStepWithin n)
steps_within (s ∷ steps) banks n long may =
    All-cons (IsStepWithin n) s steps (step_within s banks n long may.0) (steps_within steps (banks_after banks s) n (as_many s banks ∙ long) may.1)

-- ---- what they leave

pub replaced_locked : (banks : List BankView) (i : ℕ) (r : Record)
    → slice_set (slice_set (slice_set banks i Void) i (Event r)) i (with_lock (slice_index_or (slice_set (slice_set banks i Void) i (Event r)) i Void)) ≡ slice_set banks i (Event (record r { locked = true }))
replaced_locked [] i r = refl
replaced_locked (b ∷ banks) zero r = refl
replaced_locked (b ∷ banks) (suc i) r = ap (λ (bs : List BankView). b ∷ bs) (replaced_locked banks i r)

-- a bank that is there holds what it is given
set_there : (banks : List BankView) (i : ℕ) (view : BankView) → i < length banks → slice_get (slice_set banks i view) i ≡ Some view
set_there [] i view below = absurd (omega (arith, below))
set_there (b ∷ banks) zero view below = refl
set_there (b ∷ banks) (suc i) view below = set_there banks i view (omega arith)

pub hold_still : (o : OpenedBanks) (m : ℕ) (r : Record) → IsOpened o → 1 ≤ m → m ≤ o.store.header.banks → r.crash ≡ None
    → IsOpened (record o { store = record o.store { banks = with_bank o.store.banks m (Event r) }; held = Some m })
hold_still o m r is low high none = record {
  from = is.from;
  to = is.to;
  all = length-set o.store.banks (m - 1) (Event r) ∙ is.all;
  held = λ k e.
      let same : m ≡ k = cc in
      (omega (arith, same), r, ap (λ (j : ℕ). slice_get (with_bank o.store.banks m (Event r)) (j - 1)) (sym same) ∙ set_there o.store.banks (m - 1) (Event r) (omega (arith, is.all, low, high)), none);
}

-- a lock leaves each event without a crash part so
lock_keeps : (banks : List BankView) (i j : ℕ) (r : Record) → slice_get banks j ≡ Some (Event r) → r.crash ≡ None → (s : Record) × (slice_get (slice_set banks i (with_lock (slice_index_or banks i Void))) j ≡ Some (Event s)) × (s.crash ≡ None)
lock_keeps [] i j r e none = absurd cc
lock_keeps (b ∷ banks) zero zero r e none = let same : b ≡ Event r = cc in (record r { locked = true }, ap (λ (x : BankView). Some (with_lock x)) same, none)
lock_keeps (b ∷ banks) zero (suc j) r e none = (r, e, none)
lock_keeps (b ∷ banks) (suc i) zero r e none = (r, e, none)
lock_keeps (b ∷ banks) (suc i) (suc j) r e none = lock_keeps banks i j r e none

pub lock_still : (o : OpenedBanks) (m : ℕ) → IsOpened o → IsOpened (record o { store = record o.store { banks = with_bank o.store.banks m (with_lock (bank_at o.store.banks m)) } })
lock_still o m is = record {
  from = is.from;
  to = is.to;
  all = length-set o.store.banks (m - 1) (with_lock (bank_at o.store.banks m)) ∙ is.all;
  held = λ k e. let h = is.held k e in let l = lock_keeps o.store.banks (m - 1) (k - 1) h.1 h.2 h.3 in (h.0, l.0, l.1, l.2);
}
