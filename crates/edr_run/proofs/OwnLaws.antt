-- Each event in the banks after a run stood there before, or is an event of the cycle that had its number.
use Rattle.std.proofs.Common.{◌≡◌, refl, ap, sym, subst, ◌∙◌, arith, ℕ, suc, ◌+◌, ◌≤◌, ◌⊎◌, inl, inr, Bool, true, false, cond, nat_le, Option, Some, None, List, [], ◌∷◌, ◌++◌, length, map, take, filter}
use Rattle.std.specs.Prelude.{flat_map, slice_get, Contains}
use Rattle.std.proofs.Math.Seq.{take-length}
use Rattle.edr_items.specs.SensorLists.{SensorLists, horizon_of}
use Rattle.edr_record.specs.Parts.{PrePart, CrashPart}
use Rattle.edr_record.specs.declared.Place.{Place}
use Rattle.edr_record.specs.declared.Record.{Record}
use Rattle.edr_record.specs.declared.Command.TheVariants as command
use Rattle.edr_definitions.specs.Ticks.{first_tick}
use Rattle.edr_definitions.specs.Signals.{signals_of}
use Rattle.edr_definitions.specs.Selection.{Event, close_of}
use Rattle.edr_definitions.specs.Parts.{pre_part, crash_part}
use Rattle.edr_definitions.specs.Commands.{Issue, issues_of, locks_at, is_locking, placed_events}
use Rattle.edr_image.specs.declared.Ack.{Ack}
use Rattle.edr_image.specs.declared.BankView.TheVariants as bank
use Rattle.edr_image.specs.Banks.{Store}
use Rattle.edr_image.specs.Steps.{after}
use Rattle.edr_image.specs.Kept.{AreKept}
use Rattle.edr_image.specs.Order.{AreOwn}
use Rattle.edr_image.proofs.StopLaws.{stop-prefix, contains_here, contains_later}
use Rattle.edr_image.proofs.OwnLaws.{own-steps}
use Rattle.edr_spell.specs.declared.CycleInput.{CycleInput}
use Rattle.edr_image.specs.Reports.{Report, Ran}
use Rattle.edr_run.specs.Cycle.{End, IsCycle, start_stopped, start_counted, whole, cut, steps_in, issues_in, acks_in, acks_before, Outcome, IsRun}
use Rattle.edr_run.specs.Own.{IsPreOfCycle, ArePartsOf, IsRecordOf, RanAs, IsInWindow}
use Rattle.edr_run.proofs.ApartLaws.{PlacedApart, placed-apart, issued}
use Rattle.edr_run.proofs.OrderLaws.{cycle-kept, key_cycle}

-- ---- commands are those of events

done_own : (P : PrePart → Type 0) (Q : PrePart → CrashPart → Type 0) (f : SensorLists) (n t k : ℕ) (pre : PrePart) (crash : CrashPart) (es : List (Event × Place)) → Q pre crash → PlacedApart t k es → AreOwn P Q None (issued t (flat_map (issues_of f n) es)) → (test : Bool) → nat_le k t ≡ test → AreOwn P Q (Some pre) (map (λ i. i.command) (cond test (record { tick = k; command = command.Done crash } ∷ filter (λ i. nat_le i.tick t) (flat_map (issues_of f n) es)) (filter (λ i. nat_le i.tick t) (flat_map (issues_of f n) es))))
unfolding PlacedApart
done_own P Q f n t k pre crash es q h more true by = (q, more)
done_own P Q f n t k pre crash [] q h more false late = tt
done_own P Q f n t k pre crash (e ∷ es) q h more false late = absurd (let a = h.0 in let b = h.1 in let c = h.2 in grind (arith, a, b, c, late))

lock_own : (P : PrePart → Type 0) (Q : PrePart → CrashPart → Type 0) (t k : ℕ) (pre : PrePart) (rest : List Issue) → P pre → AreOwn P Q (Some pre) (issued t rest) → (test : Bool) → nat_le k t ≡ test → AreOwn P Q (Some pre) (map (λ i. i.command) (cond test (record { tick = k; command = command.Lock pre } ∷ filter (λ i. nat_le i.tick t) rest) (filter (λ i. nat_le i.tick t) rest)))
lock_own P Q t k pre rest p more true by = (refl, p, more)
lock_own P Q t k pre rest p more false late = more

take_own : (P : PrePart → Type 0) (Q : PrePart → CrashPart → Type 0) (t k : ℕ) (pre : PrePart) (rest : List Issue) → P pre → k ≤ t → AreOwn P Q (Some pre) (issued t rest) → (test : Bool) → nat_le k t ≡ test → AreOwn P Q None (map (λ i. i.command) (cond test (record { tick = k; command = command.Take pre } ∷ filter (λ i. nat_le i.tick t) rest) (filter (λ i. nat_le i.tick t) rest)))
take_own P Q t k pre rest p by more true test = (p, more)
take_own P Q t k pre rest p by more false test = absurd (grind (arith, by, test))

event_own : (P : PrePart → Type 0) (Q : PrePart → CrashPart → Type 0) (f : SensorLists) (n t k close : ℕ) (pre : PrePart) (lock : Option ℕ) (crash : CrashPart) (es : List (Event × Place)) → P pre → Q pre crash → k ≤ t → PlacedApart t close es → AreOwn P Q None (issued t (flat_map (issues_of f n) es)) → AreOwn P Q None (issued t ((record { tick = k; command = command.Take pre } ∷ locks_at pre lock ++ record { tick = close; command = command.Done crash } ∷ []) ++ flat_map (issues_of f n) es))
event_own P Q f n t k close pre None crash es p q by h more =
    let last = done_own P Q f n t close pre crash es q h more (nat_le close t) refl in
    take_own P Q t k pre (record { tick = close; command = command.Done crash } ∷ flat_map (issues_of f n) es) p by last (nat_le k t) refl
event_own P Q f n t k close pre (Some u) crash es p q by h more =
    let last = done_own P Q f n t close pre crash es q h more (nat_le close t) refl in
    let locked = lock_own P Q t u pre (record { tick = close; command = command.Done crash } ∷ flat_map (issues_of f n) es) p last (nat_le u t) refl in
    take_own P Q t k pre (record { tick = u; command = command.Lock pre } ∷ record { tick = close; command = command.Done crash } ∷ flat_map (issues_of f n) es) p by locked (nat_le k t) refl

events_own : (f : SensorLists) (n t a : ℕ) (all es : List (Event × Place)) → ((e : Event × Place) → Contains es e → Contains all e) → PlacedApart t a es →
    AreOwn (λ pre. (e : Event × Place) × Contains all e × (pre ≡ pre_part f n e.1 e.0.zero_tick)) (λ pre crash. (e : Event × Place) × Contains all e × (pre ≡ pre_part f n e.1 e.0.zero_tick) × (crash ≡ crash_part (signals_of f) e.0.zero_tick e.0.end_tick)) None (issued t (flat_map (issues_of f n) es))
unfolding PlacedApart issues_of
events_own f n t a all [] in_all h = tt
events_own f n t a all (e ∷ es) in_all h =
    let z = e.0.zero_tick in
    let P : PrePart → Type 0 = λ pre. (e : Event × Place) × Contains all e × (pre ≡ pre_part f n e.1 e.0.zero_tick) in
    let Q : PrePart → CrashPart → Type 0 = λ pre crash. (e : Event × Place) × Contains all e × (pre ≡ pre_part f n e.1 e.0.zero_tick) × (crash ≡ crash_part (signals_of f) e.0.zero_tick e.0.end_tick) in
    let at = in_all e (contains_here e es) in
    event_own P Q f n t e.0.confirmed_tick (close_of z e.0.end_tick) (pre_part f n e.1 z) (first_tick (is_locking (signals_of f)) z (close_of z e.0.end_tick + 1)) (crash_part (signals_of f) z e.0.end_tick) es
    (e, at, refl) (e, at, refl, refl) h.2 h.3 (events_own f n t (close_of z e.0.end_tick) all es (λ x g. in_all x (contains_later e es x g)) h.3)

-- the commands of a cycle are those of its events
pub issues-own : (f : SensorLists) (n : ℕ) → AreOwn (IsPreOfCycle f n) (ArePartsOf f n) None (map (λ i. i.command) (issues_in f n))
issues-own f n =
    let m = signals_of f in
    let t = horizon_of f in
    events_own f n t 0 (placed_events m t) (placed_events m t) (λ e g. g) (placed-apart m t)

-- ---- cycles and runs

steps_own : (f : SensorLists) (v : Store) (n p i : ℕ) (r : Record) → slice_get (after v (take p (steps_in f n v))).banks i ≡ Some (bank.Event r) → (slice_get v.banks i ≡ Some (bank.Event r)) ⊎ IsRecordOf f n r
unfolding steps_in
steps_own f v n p i r h = (own-steps (IsPreOfCycle f n) (ArePartsOf f n) v (map (λ i. i.command) (issues_in f n)) p (issues-own f n)).each i r h

-- an own record of the cycle, and the report that tells its number
abbrev IsToldOwn : CycleInput → ℕ → Report → Record → Type 0
IsToldOwn c n report r = IsRecordOf c.feeds n r × (stop : Option ℕ) × (log : List Ack) × (report ≡ Ran n stop log)

cycle_own : (c : CycleInput) (v : Store) (n i : ℕ) (e : End) (r : Record) → IsCycle c v n e → slice_get e.store.banks i ≡ Some (bank.Event r) → (slice_get v.banks i ≡ Some (bank.Event r)) ⊎ IsToldOwn c (n + 1) e.report r
cycle_own c v n i e r (start_stopped some up same) h = inl (subst (λ (x : End). slice_get x.store.banks i ≡ Some (bank.Event r)) same h)
cycle_own c v n i e r (start_counted from up same) h = inl (subst (λ (x : End). slice_get x.store.banks i ≡ Some (bank.Event r)) same h)
cycle_own c v n i e r (whole run reached same) h =
    let here : slice_get (after v (steps_in c.feeds (n + 1) v)).banks i ≡ Some (bank.Event r) = subst (λ (x : End). slice_get x.store.banks i ≡ Some (bank.Event r)) same h in
    let taken : slice_get (after v (take (length (steps_in c.feeds (n + 1) v)) (steps_in c.feeds (n + 1) v))).banks i ≡ Some (bank.Event r) = subst (λ steps. slice_get (after v steps).banks i ≡ Some (bank.Event r)) (sym (take-length (steps_in c.feeds (n + 1) v))) here in
    elim (steps_own c.feeds v (n + 1) (length (steps_in c.feeds (n + 1) v)) i r taken) [
      | inl old ↦ inl old
      | inr own ↦ inr (own, None, acks_in c.feeds (n + 1) v, ap (λ (x : End). x.report) same)
    ]
cycle_own c v n i e r (cut done run stop same) h =
    let here : slice_get (after v done).banks i ≡ Some (bank.Event r) = subst (λ (x : End). slice_get x.store.banks i ≡ Some (bank.Event r)) same h in
    let prefix = stop-prefix (steps_in c.feeds (n + 1) v) done c.stop stop in
    elim (steps_own c.feeds v (n + 1) prefix.0 i r (subst (λ steps. slice_get (after v steps).banks i ≡ Some (bank.Event r)) prefix.1 here)) [
      | inl old ↦ inl old
      | inr own ↦ inr (own, Some c.stop, acks_before c.feeds (n + 1) v c.stop, ap (λ (x : End). x.report) same)
    ]

cycle_count : (c : CycleInput) (v : Store) (n : ℕ) (e : End) → IsCycle c v n e → n ≤ e.count
cycle_count c v n e (start_stopped some up same) = let k : e.count ≡ n = ap (λ (x : End). x.count) same in omega (arith, k)
cycle_count c v n e (start_counted from up same) = let k : e.count ≡ n + 1 = ap (λ (x : End). x.count) same in omega (arith, k)
cycle_count c v n e (whole run reached same) = let k : e.count ≡ n + 1 = ap (λ (x : End). x.count) same in omega (arith, k)
cycle_count c v n e (cut done run stop same) = let k : e.count ≡ n + 1 = ap (λ (x : End). x.count) same in omega (arith, k)

-- the cycle of an own record is the number that it was recorded with
record_cycle : (f : SensorLists) (n : ℕ) (r : Record) → IsRecordOf f n r → r.pre.key.cycle ≡ n
record_cycle f n r own = let e = own.pre.0 in ap (λ (p : PrePart). p.key.cycle) own.pre.2 ∙ key_cycle f n e.0.zero_tick e.1

first_window : (c : CycleInput) (cs : List CycleInput) (v : Store) (n i : ℕ) (report : Report) (rest reports : List Report) (r : Record) → AreKept v.banks n → reports ≡ report ∷ rest → (slice_get v.banks i ≡ Some (bank.Event r)) ⊎ IsToldOwn c (n + 1) report r → IsInWindow (c ∷ cs) v.banks n reports i r
first_window c cs v n i report rest reports r kept told (inl old) = inl (kept.cycles i r old, old)
first_window c cs v n i report rest reports r kept told (inr own) =
    let number = record_cycle c.feeds (n + 1) r own.0 in
    let at : slice_get reports 0 ≡ Some (Ran (n + 1) own.1 own.2) = subst (λ rs. slice_get rs 0 ≡ Some (Ran (n + 1) own.1 own.2)) (sym told) (ap (λ (x : Report). Some x) own.3) in
    inr (omega (arith, number), c, subst (λ k. RanAs (c ∷ cs) reports k c) (sym number) (0, refl, own.1, own.2, at), subst (λ k. IsRecordOf c.feeds k r) (sym number) own.0)

later_window : (c : CycleInput) (cs : List CycleInput) (v : Store) (n i : ℕ) (e : End) (rest reports : List Report) (r : Record) → AreKept v.banks n → reports ≡ e.report ∷ rest → n ≤ e.count → (slice_get e.store.banks i ≡ Some (bank.Event r) → (slice_get v.banks i ≡ Some (bank.Event r)) ⊎ IsToldOwn c (n + 1) e.report r) → IsInWindow cs e.store.banks e.count rest i r → IsInWindow (c ∷ cs) v.banks n reports i r
later_window c cs v n i e rest reports r kept told up first (inl old) = first_window c cs v n i e.report rest reports r kept told (first old.1)
later_window c cs v n i e rest reports r kept told up first (inr own) =
    let ran = own.2 in
    let past = own.0 in
    let at : slice_get reports (suc ran.0) ≡ Some (Ran r.pre.key.cycle ran.2 ran.3) = subst (λ rs. slice_get rs (suc ran.0) ≡ Some (Ran r.pre.key.cycle ran.2 ran.3)) (sym told) ran.4 in
    inr (omega (arith, past, up), own.1, (suc ran.0, ran.1, ran.2, ran.3, at), own.3)

-- after a run over banks that are kept, each event is in the window of its own cycle
pub run-own : (cs : List CycleInput) (v : Store) (n i : ℕ) (o : Outcome) (r : Record) → AreKept v.banks n → IsRun cs v n o → slice_get o.store.banks i ≡ Some (bank.Event r) → IsInWindow cs v.banks n o.reports i r
run-own [] v n i o r kept run h =
    let old : slice_get v.banks i ≡ Some (bank.Event r) = subst (λ (x : Outcome). slice_get x.store.banks i ≡ Some (bank.Event r)) run h in inl (kept.cycles i r old, old)
run-own (c ∷ cs) v n i o r kept run h =
    let e = run.1 in
    later_window c cs v n i e run.3 o.reports r kept run.5 (cycle_count c v n e run.2) (cycle_own c v n i e r run.2)
    (run-own cs e.store e.count i (record o { reports = run.3 }) r (cycle-kept c v n e kept run.2) run.4 h)
