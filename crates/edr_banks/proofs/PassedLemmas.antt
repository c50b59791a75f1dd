-- What an image keeps of the banks after some first steps of a command.
use Rattle.std.proofs.Common.{◌≡◌, ◌≢◌, ◌≤◌, ◌⊎◌, ◌+◌, ◌-◌, ◌∙◌, cond, ℕ, zero, suc, Bool, true, false, List, [], ◌∷◌, take, Option, Some, None, refl, sym, ap, subst, inl, inr, ⊎_elim, arith}
use Rattle.std.specs.Prelude.{Contains, fold, slice_get}
use Rattle.edr_record.specs.Parts.{PrePart, CrashPart}
use Rattle.edr_record.specs.declared.Record.{Record}
use Rattle.edr_record.specs.declared.Command.{Command}
use Rattle.edr_record.specs.declared.Command.TheVariants as command
use Rattle.edr_image.specs.declared.Applied.TheVariants as applied
use Rattle.edr_image.specs.declared.BankView.{BankView}
use Rattle.edr_image.specs.declared.BankView.TheVariants.{Void, Event, Damaged}
use Rattle.edr_image.specs.Banks.{Store, bank_at, is_unlocked, least_unlocked, lowest_void, to_overwrite, with_bank}
use Rattle.edr_image.specs.Image.{View, view_of}
use Rattle.edr_image.specs.Steps.{BankStep, Erase, Fill, Lock, Done, Reply, after, banks_after, done_reply, lock_reply, new_record, not_kept, reply_to, take_reply, with_crash, with_lock}
use Rattle.edr_image.proofs.KeptLaws.{in_place, set_cases}
use Rattle.edr_image.proofs.StepLaws.{locked-stays_or_done}
use Rattle.edr_image.proofs.StopLaws.{contains_cases, contains_here, contains_later, contains_none}
use Rattle.edr_gates.specs.Taken.{IsPassed, MayTake, MayTakeAll}
use Rattle.edr_banks.specs.Opened.{IsOpened, OpenedBanks, state_of}
use Rattle.edr_banks.specs.Applying.{IsOldOrDone, IsSameOrDone, steps_for}
use Rattle.edr_banks.proofs.TaskLemmas.{reply_may}

-- ---- crash parts

-- the bank of place i holds an event with this crash part
abbrev HasCrash : List BankView → ℕ → CrashPart → Type 0
HasCrash banks i crash = (r : Record) × (slice_get banks i ≡ Some (Event r)) × (r.crash ≡ Some crash)

lock_had : (banks : List BankView) (m i : ℕ) (crash : CrashPart) → HasCrash (with_bank banks m (with_lock (bank_at banks m))) i crash → HasCrash banks i crash
lock_had banks m i crash h = ⊎_elim
    (λ (here : (i ≡ m - 1) × (with_lock (bank_at banks m) ≡ Event h.0)). by_view (bank_at banks m) refl here.0 here.1)
    (λ (other : slice_get banks i ≡ Some (Event h.0)). (h.0, other, h.2))
    (set_cases banks i (m - 1) (with_lock (bank_at banks m)) (Event h.0) h.1)
  where
    by_view : (b : BankView) → bank_at banks m ≡ b → i ≡ m - 1 → with_lock b ≡ Event h.0 → HasCrash banks i crash
    by_view Void is place e = absurd cc
    by_view (Event s) is place e =
        let some : Event s ≢ Void = λ x. cc in
        let there : slice_get banks (m - 1) ≡ Some (Event s) = in_place banks (m - 1) (Event s) some is in
        let same : record s { locked = true } ≡ h.0 = cc in
        (s, ap (λ (j : ℕ). slice_get banks j) place ∙ there, ap (λ (x : Record). x.crash) same ∙ h.2)
    by_view (Damaged o x l) is place e = absurd cc

fill_had : (banks : List BankView) (m i : ℕ) (pre : PrePart) (crash : CrashPart) → HasCrash (with_bank banks m (Event (new_record pre))) i crash → HasCrash banks i crash
fill_had banks m i pre crash h = ⊎_elim
    (λ (here : (i ≡ m - 1) × (Event (new_record pre) ≡ Event h.0)).
    let same : new_record pre ≡ h.0 = let e : Event (new_record pre) ≡ Event h.0 = here.1 in cc in
    let none : None ≡ Some crash = ap (λ (x : Record). x.crash) same ∙ h.2 in absurd (let x : ⊥ = cc in x))
    (λ (other : slice_get banks i ≡ Some (Event h.0)). (h.0, other, h.2))
    (set_cases banks i (m - 1) (Event (new_record pre)) (Event h.0) h.1)

erase_had : (banks : List BankView) (m i : ℕ) (crash : CrashPart) → HasCrash (with_bank banks m Void) i crash → HasCrash banks i crash
erase_had banks m i crash h = ⊎_elim
    (λ (here : (i ≡ m - 1) × (Void ≡ Event h.0)). let e : Void ≡ Event h.0 = here.1 in absurd (let x : ⊥ = cc in x))
    (λ (other : slice_get banks i ≡ Some (Event h.0)). (h.0, other, h.2))
    (set_cases banks i (m - 1) Void (Event h.0) h.1)

done_had : (banks : List BankView) (m i : ℕ) (given crash : CrashPart) → 1 ≤ m → HasCrash (with_bank banks m (with_crash given (bank_at banks m))) i crash → HasCrash banks i crash ⊎ (Done m given ≡ Done (i + 1) crash)
done_had banks m i given crash low h = ⊎_elim
    (λ (here : (i ≡ m - 1) × (with_crash given (bank_at banks m) ≡ Event h.0)). by_view (bank_at banks m) here.0 here.1)
    (λ (other : slice_get banks i ≡ Some (Event h.0)). inl (h.0, other, h.2))
    (set_cases banks i (m - 1) (with_crash given (bank_at banks m)) (Event h.0) h.1)
  where
    by_view : (b : BankView) → i ≡ m - 1 → with_crash given b ≡ Event h.0 → HasCrash banks i crash ⊎ (Done m given ≡ Done (i + 1) crash)
    by_view Void place e = absurd cc
    by_view (Event s) place e =
        let same : record s { crash = Some given } ≡ h.0 = cc in
        let some : Some given ≡ Some crash = ap (λ (x : Record). x.crash) same ∙ h.2 in
        let part : given ≡ crash = cc in
        let number : m ≡ i + 1 = omega (arith, low, place) in inr (let x : Done m given ≡ Done (i + 1) crash = cc in x)
    by_view (Damaged o x l) place e = absurd cc

-- a crash part that a step leaves stood there before, or the step gives it
step_had : (banks : List BankView) (s : BankStep) (i : ℕ) (crash : CrashPart) → MayTake banks s → HasCrash (banks_after banks s) i crash → HasCrash banks i crash ⊎ (s ≡ Done (i + 1) crash)
step_had banks (Erase m) i crash may h = inl (erase_had banks m i crash h)
step_had banks (Fill m pre) i crash may h = inl (fill_had banks m i pre crash h)
step_had banks (Lock m) i crash may h = inl (lock_had banks m i crash h)
step_had banks (Done m given) i crash may h = done_had banks m i given crash may.1.0 h

steps_had : (steps : List BankStep) (p : ℕ) (banks : List BankView) (i : ℕ) (crash : CrashPart) → MayTakeAll banks steps → HasCrash (fold banks_after banks (take p steps)) i crash → HasCrash banks i crash ⊎ Contains steps (Done (i + 1) crash)
steps_had [] zero banks i crash may h = inl h
steps_had [] (suc p) banks i crash may h = inl h
steps_had (s ∷ steps) zero banks i crash may h = inl h
steps_had (s ∷ steps) (suc p) banks i crash may h = ⊎_elim
    (λ (after_it : HasCrash (banks_after banks s) i crash). ⊎_elim
    (λ (before : HasCrash banks i crash). inl before)
    (λ (given : s ≡ Done (i + 1) crash). inr (subst (λ (x : BankStep). Contains (s ∷ steps) x) given (contains_here s steps)))
    (step_had banks s i crash may.0 after_it))
    (λ (later : Contains steps (Done (i + 1) crash)). inr (contains_later s steps (Done (i + 1) crash) later))
    (steps_had steps p (banks_after banks s) i crash may.1 h)

-- only a Done of the bank that is held gives a crash part
no_done : (s : BankStep) (steps : List BankStep) (m : ℕ) (crash : CrashPart) (P : Type 0) → (s ≡ Done m crash → P) → (Contains steps (Done m crash) → P) → Contains (s ∷ steps) (Done m crash) → P
no_done s steps m crash P here later h = ⊎_elim here later (contains_cases s steps (Done m crash) h)

take_gives : (pre : PrePart) (void older : Option ℕ) (m : ℕ) (crash : CrashPart) (P : Type 0) → Contains (take_reply pre void older).steps (Done m crash) → P
take_gives pre (Some k) older m crash P h = no_done (Fill k pre) [] m crash P (λ e. absurd cc) (contains_none (Done m crash) P) h
take_gives pre None (Some k) m crash P h = no_done (Erase k) (Fill k pre ∷ []) m crash P (λ e. absurd cc) (no_done (Fill k pre) [] m crash P (λ e. absurd cc) (contains_none (Done m crash) P)) h
take_gives pre None None m crash P h = contains_none (Done m crash) P h

lock_held_gives : (b : Bool) (k m : ℕ) (crash : CrashPart) (P : Type 0) → Contains (let x : Reply = cond b (record { steps = Lock k ∷ []; answer = applied.Locked k }) not_kept in x.steps) (Done m crash) → P
lock_held_gives true k m crash P h = no_done (Lock k) [] m crash P (λ e. absurd cc) (contains_none (Done m crash) P) h
lock_held_gives false k m crash P h = contains_none (Done m crash) P h

lock_gives : (pre : PrePart) (banks : List BankView) (held older : Option ℕ) (m : ℕ) (crash : CrashPart) (P : Type 0) → Contains (lock_reply pre banks held older).steps (Done m crash) → P
lock_gives pre banks (Some k) older m crash P h = lock_held_gives (is_unlocked (bank_at banks k)) k m crash P h
lock_gives pre banks None (Some k) m crash P h =
    no_done (Erase k) (Fill k pre ∷ Lock k ∷ []) m crash P (λ e. absurd cc)
    (no_done (Fill k pre) (Lock k ∷ []) m crash P (λ e. absurd cc) (no_done (Lock k) [] m crash P (λ e. absurd cc) (contains_none (Done m crash) P))) h
lock_gives pre banks None None m crash P h = contains_none (Done m crash) P h

done_gives : (given : CrashPart) (held : Option ℕ) (m : ℕ) (crash : CrashPart) → Contains (done_reply given held).steps (Done m crash) → (held ≡ Some m) × (command.Done given ≡ command.Done crash)
done_gives given (Some k) m crash h = no_done (Done k given) [] m crash _ (λ e. let number : k ≡ m = cc in let part : given ≡ crash = cc in (ap Some number, ap command.Done part)) (contains_none (Done m crash) _) h
done_gives given None m crash h = contains_none (Done m crash) _ h

reply_gives : (o : OpenedBanks) (c : Command) (m : ℕ) (crash : CrashPart) → Contains (steps_for o c) (Done m crash) → (o.held ≡ Some m) × (c ≡ command.Done crash)
unfolding reply_to
reply_gives o (command.Take pre) m crash h = take_gives pre (lowest_void o.store.banks) (to_overwrite o.store.header.choice o.store.banks) m crash _ h
reply_gives o (command.Lock pre) m crash h = lock_gives pre o.store.banks o.held (least_unlocked o.store.banks) m crash _ h
reply_gives o (command.Done given) m crash h = done_gives given o.held m crash h

-- ---- images after some first steps

seen_banks : (v w : View) (image : List ℕ) (o : OpenedBanks) (steps : List BankStep) → v.store ≡ o.store → view_of image ≡ Some (record v { store = after v.store steps }) → view_of image ≡ Some w → w.store.banks ≡ (after o.store steps).banks
seen_banks v w image o steps same is seen =
    let both : Some w ≡ Some (record v { store = after v.store steps }) = sym seen ∙ is in
    let one : w ≡ record v { store = after v.store steps } = cc in
    ap (λ (x : View). x.store.banks) one ∙ ap (λ (x : Store). (after x steps).banks) same

pub locked_passed : (o : OpenedBanks) (c : Command) (bytes image : List ℕ) (v w : View) (i : ℕ) (r : Record) → IsOpened o → v.store ≡ o.store → IsPassed (steps_for o c) bytes v image → view_of image ≡ Some w
    → slice_get v.store.banks i ≡ Some (Event r) → r.locked ≡ true → IsSameOrDone c o.held i r w.store.banks
locked_passed o c bytes image v w i r is same passed seen stands locked =
    let steps = take passed.p (steps_for o c) in
    let banks = seen_banks v w image o steps same passed.has.view seen in
    let here : slice_get o.store.banks i ≡ Some (Event r) = ap (λ (x : Store). slice_get x.banks i) (sym same) ∙ stands in
    subst (λ (x : List BankView). IsSameOrDone c o.held i r x) (sym banks) (locked-stays_or_done (state_of o) c passed.p i r here locked (λ m e. (is.held m e).0))

pub crash_passed : (o : OpenedBanks) (c : Command) (bytes image : List ℕ) (v w : View) (i : ℕ) (r : Record) (crash : CrashPart) → IsOpened o → v.store ≡ o.store → IsPassed (steps_for o c) bytes v image → view_of image ≡ Some w
    → slice_get w.store.banks i ≡ Some (Event r) → r.crash ≡ Some crash → IsOldOrDone c o.held v.store.banks i crash
crash_passed o c bytes image v w i r crash is same passed seen stands has =
    let steps = take passed.p (steps_for o c) in
    let banks = seen_banks v w image o steps same passed.has.view seen in
    let there : HasCrash (after o.store steps).banks i crash = (r, ap (λ (x : List BankView). slice_get x i) (sym banks) ∙ stands, has) in
    ⊎_elim
    (λ (old : HasCrash o.store.banks i crash). inl (old.0, ap (λ (x : Store). slice_get x.banks i) same ∙ old.1, old.2))
    (λ (given : Contains (steps_for o c) (Done (i + 1) crash)). inr (reply_gives o c (i + 1) crash given))
    (steps_had (steps_for o c) passed.p o.store.banks i crash (reply_may o c is) there)
