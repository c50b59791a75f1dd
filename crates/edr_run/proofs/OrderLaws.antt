-- A cycle issues its commands in order, so it leaves banks that are kept.
use Rattle.std.proofs.Common.{◌≡◌, refl, sym, subst, arith, ℕ, ◌+◌, ◌<◌, ◌≤◌, Bool, true, false, cond, nat_le, Option, Some, None, List, [], ◌∷◌, ◌++◌, length, map, take, filter}
use Rattle.std.specs.Prelude.{flat_map, slice_get}
use Rattle.std.proofs.Math.Seq.{take-length}
use Rattle.edr_items.specs.SensorLists.{SensorLists, horizon_of}
use Rattle.edr_record.specs.Parts.{PrePart, CrashPart}
use Rattle.edr_record.specs.declared.Place.{Place}
use Rattle.edr_record.specs.declared.Command.TheVariants as command
use Rattle.edr_definitions.specs.Ticks.{first_tick}
use Rattle.edr_definitions.specs.Signals.{signals_of}
use Rattle.edr_definitions.specs.Selection.{close_of}
use Rattle.edr_definitions.specs.Selection as selection
use Rattle.edr_definitions.specs.Parts.{pre_part, crash_part}
use Rattle.edr_definitions.specs.Commands.{Issue, issues, issues_of, locks_at, is_locking, placed_events, commands}
use Rattle.edr_image.specs.Banks.{Store}
use Rattle.edr_image.specs.Steps.{after}
use Rattle.edr_image.specs.Kept.{AreKept}
use Rattle.edr_image.specs.Order.{OpenEvent, AreInOrder}
use Rattle.edr_image.proofs.StopLaws.{stop-prefix}
use Rattle.edr_image.proofs.StepLaws.{locked-stays}
use Rattle.edr_image.proofs.KeptLaws.{kept-stays}
use Rattle.edr_image.specs.declared.BankView.TheVariants.{Event}
use Rattle.edr_record.specs.declared.Record.{Record}
use Rattle.edr_spell.specs.declared.CycleInput.{CycleInput}
use Rattle.edr_run.proofs.ApartLaws.{PlacedApart, placed-apart, issued}
use Rattle.edr_run.specs.Cycle.{End, IsCycle, start_stopped, start_counted, whole, cut, steps_in, issues_in, Outcome, IsRun}

-- ---- commands in order

done_in_order : (f : SensorLists) (n z t k : ℕ) (e : OpenEvent) (crash : CrashPart) (es : List (selection.Event × Place)) → PlacedApart t k es → AreInOrder n z None (issued t (flat_map (issues_of f n) es)) → (test : Bool) → nat_le k t ≡ test → AreInOrder n z (Some e) (map (λ i. i.command) (cond test (record { tick = k; command = command.Done crash } ∷ filter (λ i. nat_le i.tick t) (flat_map (issues_of f n) es)) (filter (λ i. nat_le i.tick t) (flat_map (issues_of f n) es))))
unfolding PlacedApart
done_in_order f n z t k e crash es h more true by = more
done_in_order f n z t k e crash [] h more false late = tt
done_in_order f n z t k e crash (x ∷ es) h more false late = absurd (let a = h.0 in let b = h.1 in let c = h.2 in grind (arith, a, b, c, late))

lock_in_order : (n z t k : ℕ) (pre : PrePart) (rest : List Issue) → ((locked : Bool) → AreInOrder n z (Some (record { pre = pre; locked = locked })) (issued t rest)) → (test : Bool) → nat_le k t ≡ test → AreInOrder n z (Some (record { pre = pre; locked = false })) (map (λ i. i.command) (cond test (record { tick = k; command = command.Lock pre } ∷ filter (λ i. nat_le i.tick t) rest) (filter (λ i. nat_le i.tick t) rest)))
lock_in_order n z t k pre rest more true by = (refl, refl, more true)
lock_in_order n z t k pre rest more false late = more false

take_in_order : (n z t k : ℕ) (pre : PrePart) (rest : List Issue) → pre.key.cycle ≡ n → z < pre.key.zero → k ≤ t → AreInOrder n pre.key.zero (Some (record { pre = pre; locked = false })) (issued t rest) → (test : Bool) → nat_le k t ≡ test → AreInOrder n z None (map (λ i. i.command) (cond test (record { tick = k; command = command.Take pre } ∷ filter (λ i. nat_le i.tick t) rest) (filter (λ i. nat_le i.tick t) rest)))
take_in_order n z t k pre rest cycle past by more true test = (cycle, past, more)
take_in_order n z t k pre rest cycle past by more false test = absurd (grind (arith, by, test))

one_in_order : (f : SensorLists) (n z t k close : ℕ) (pre : PrePart) (lock : Option ℕ) (crash : CrashPart) (es : List (selection.Event × Place)) → pre.key.cycle ≡ n → z < pre.key.zero → k ≤ t → PlacedApart t close es → AreInOrder n pre.key.zero None (issued t (flat_map (issues_of f n) es)) → AreInOrder n z None (issued t ((record { tick = k; command = command.Take pre } ∷ locks_at pre lock ++ record { tick = close; command = command.Done crash } ∷ []) ++ flat_map (issues_of f n) es))
one_in_order f n z t k close pre None crash es cycle past by h more =
    let last = done_in_order f n pre.key.zero t close (record { pre = pre; locked = false }) crash es h more (nat_le close t) refl in
    take_in_order n z t k pre (record { tick = close; command = command.Done crash } ∷ flat_map (issues_of f n) es) cycle past by last (nat_le k t) refl
one_in_order f n z t k close pre (Some u) crash es cycle past by h more =
    let last : (locked : Bool) → AreInOrder n pre.key.zero (Some (record { pre = pre; locked = locked })) (issued t (record { tick = close; command = command.Done crash } ∷ flat_map (issues_of f n) es)) =
    λ locked. done_in_order f n pre.key.zero t close (record { pre = pre; locked = locked }) crash es h more (nat_le close t) refl in
    let after_lock = lock_in_order n pre.key.zero t u pre (record { tick = close; command = command.Done crash } ∷ flat_map (issues_of f n) es) last (nat_le u t) refl in
    take_in_order n z t k pre (record { tick = u; command = command.Lock pre } ∷ record { tick = close; command = command.Done crash } ∷ flat_map (issues_of f n) es) cycle past by after_lock (nat_le k t) refl

pub key_cycle : (f : SensorLists) (n z : ℕ) (p : Place) → (pre_part f n p z).key.cycle ≡ n
unfolding pre_part
key_cycle f n z p = refl

key_zero : (f : SensorLists) (n z : ℕ) (p : Place) → (pre_part f n p z).key.zero ≡ z
unfolding pre_part
key_zero f n z p = refl

close-from_zero : (z e : ℕ) → z ≤ close_of z e
close-from_zero z e = grind arith

events_in_order : (f : SensorLists) (n t z a : ℕ) (es : List (selection.Event × Place)) → z ≤ a → PlacedApart t a es → AreInOrder n z None (issued t (flat_map (issues_of f n) es))
unfolding PlacedApart issues_of
events_in_order f n t z a [] low h = tt
events_in_order f n t z a (e ∷ es) low h =
    let y = e.0.zero_tick in
    let close = close_of y e.0.end_tick in
    let pre = pre_part f n e.1 y in
    let same = key_zero f n y e.1 in
    let past = h.0 in
    let rest : AreInOrder n pre.key.zero None (issued t (flat_map (issues_of f n) es)) =
    subst (λ k. AreInOrder n k None (issued t (flat_map (issues_of f n) es))) (sym same) (events_in_order f n t y close es (close-from_zero y e.0.end_tick) h.3) in
    one_in_order f n z t e.0.confirmed_tick close pre (first_tick (is_locking (signals_of f)) y (close + 1)) (crash_part (signals_of f) y e.0.end_tick) es (key_cycle f n y e.1) (omega (arith, same, past, low)) h.2 h.3 rest

-- a cycle issues its commands in order
pub issues-in_order : (f : SensorLists) (n t : ℕ) → AreInOrder n 0 None (map (λ i. i.command) (issues f n t))
issues-in_order f n t = let m = signals_of f in events_in_order f n t 0 0 (placed_events m t) (omega arith) (placed-apart m t)

pub commands-in_order : (f : SensorLists) (n t : ℕ) → AreInOrder n 0 None (commands f n t)
unfolding commands
commands-in_order f n t = issues-in_order f n t

-- ---- kept

-- banks that are kept with the count n stay so, with the count n + 1, after any first steps of the next cycle
pub cycle_steps-kept : (f : SensorLists) (v : Store) (n p : ℕ) → AreKept v.banks n → AreKept (after v (take p (steps_in f (n + 1) v))).banks (n + 1)
unfolding steps_in
cycle_steps-kept f v n p kept = kept-stays v n p (map (λ i. i.command) (issues_in f (n + 1))) kept (issues-in_order f (n + 1) (horizon_of f))

count_more : (v : Store) (n : ℕ) → AreKept v.banks n → AreKept v.banks (n + 1)
count_more v n kept = record { none_damaged = kept.none_damaged; cycles = λ i r h. let c = kept.cycles i r h in omega (arith, c); keys = kept.keys }

-- so each end of a cycle has banks that are kept
pub cycle-kept : (c : CycleInput) (v : Store) (n : ℕ) (e : End) → AreKept v.banks n → IsCycle c v n e → AreKept e.store.banks e.count
cycle-kept c v n e kept (start_stopped some up same) = subst (λ (x : End). AreKept x.store.banks x.count) (sym same) kept
cycle-kept c v n e kept (start_counted from up same) = subst (λ (x : End). AreKept x.store.banks x.count) (sym same) (count_more v n kept)
cycle-kept c v n e kept (whole run reached same) =
    subst (λ (x : End). AreKept x.store.banks x.count) (sym same)
    (subst (λ steps. AreKept (after v steps).banks (n + 1)) (take-length (steps_in c.feeds (n + 1) v)) (cycle_steps-kept c.feeds v n (length (steps_in c.feeds (n + 1) v)) kept))
cycle-kept c v n e kept (cut done run stop same) =
    let prefix = stop-prefix (steps_in c.feeds (n + 1) v) done c.stop stop in
    subst (λ (x : End). AreKept x.store.banks x.count) (sym same)
    (subst (λ steps. AreKept (after v steps).banks (n + 1)) (sym prefix.1) (cycle_steps-kept c.feeds v n prefix.0 kept))

-- and each outcome of a run
pub run-kept : (cs : List CycleInput) (v : Store) (n : ℕ) (o : Outcome) → AreKept v.banks n → IsRun cs v n o → AreKept o.store.banks o.count
run-kept [] v n o kept run = subst (λ (x : Outcome). AreKept x.store.banks x.count) (sym run) kept
run-kept (c ∷ cs) v n o kept run = run-kept cs run.1.store run.1.count (record o { reports = run.3 }) (cycle-kept c v n run.1 kept run.2) run.4

-- ---- locked

locked_in : (f : SensorLists) (v : Store) (n p i : ℕ) (r : Record) → slice_get v.banks i ≡ Some (Event r) → r.locked ≡ true → slice_get (after v (take p (steps_in f n v))).banks i ≡ Some (Event r)
unfolding steps_in
locked_in f v n p i r stands locked = locked-stays v (map (λ i. i.command) (issues_in f n)) p i r stands locked

-- an event that is locked at first is in its bank, equal, at each end of a cycle
pub cycle-locked : (c : CycleInput) (v : Store) (n i : ℕ) (e : End) (r : Record) → IsCycle c v n e → slice_get v.banks i ≡ Some (Event r) → r.locked ≡ true → slice_get e.store.banks i ≡ Some (Event r)
cycle-locked c v n i e r (start_stopped some up same) stands locked = subst (λ (x : End). slice_get x.store.banks i ≡ Some (Event r)) (sym same) stands
cycle-locked c v n i e r (start_counted from up same) stands locked = subst (λ (x : End). slice_get x.store.banks i ≡ Some (Event r)) (sym same) stands
cycle-locked c v n i e r (whole run reached same) stands locked =
    subst (λ (x : End). slice_get x.store.banks i ≡ Some (Event r)) (sym same)
    (subst (λ steps. slice_get (after v steps).banks i ≡ Some (Event r)) (take-length (steps_in c.feeds (n + 1) v)) (locked_in c.feeds v (n + 1) (length (steps_in c.feeds (n + 1) v)) i r stands locked))
cycle-locked c v n i e r (cut done run stop same) stands locked =
    let prefix = stop-prefix (steps_in c.feeds (n + 1) v) done c.stop stop in
    subst (λ (x : End). slice_get x.store.banks i ≡ Some (Event r)) (sym same)
    (subst (λ steps. slice_get (after v steps).banks i ≡ Some (Event r)) (sym prefix.1) (locked_in c.feeds v (n + 1) prefix.0 i r stands locked))

-- and at each outcome of a run
pub run-locked : (cs : List CycleInput) (v : Store) (n i : ℕ) (o : Outcome) (r : Record) → IsRun cs v n o → slice_get v.banks i ≡ Some (Event r) → r.locked ≡ true → slice_get o.store.banks i ≡ Some (Event r)
run-locked [] v n i o r run stands locked = subst (λ (x : Outcome). slice_get x.store.banks i ≡ Some (Event r)) (sym run) stands
run-locked (c ∷ cs) v n i o r run stands locked =
    run-locked cs run.1.store run.1.count i (record o { reports = run.3 }) r run.4 (cycle-locked c v n i run.1 r run.2 stands locked) locked
