-- What a run that ends early leaves.
use Rattle.std.proofs.Common.{◌≡◌, ◌⊎◌, ◌≤◌, ◌<◌, ◌+◌, ◌-◌, ◌∙◌, ℕ, Bool, List, [], ◌∷◌, ◌++◌, length, take, get_or, Option, Some, None, Result, Ok, Err, IfErr, refl, sym, ap, subst, inl, inr, ⊎_elim, arith, add-one}
use Rattle.std.proofs.Math.Seq.{take-suc}
use Rattle.std.proofs.lemmas.Option.{slice_get_read}
use Rattle.edr_items.specs.SensorLists.{SensorLists}
use Rattle.edr_device.specs.Device.{Agrees, MayLeave, Stays}
use Rattle.edr_device.specs.Faults.{Rose}
use Rattle.edr_device.proofs.SettlingLemmas.{quiet_leaves}
use Rattle.edr_image.specs.declared.Ack.{Ack}
use Rattle.edr_image.specs.declared.log.CycleReport.{CycleReport}
use Rattle.edr_image.specs.Banks.{Store}
use Rattle.edr_image.specs.Calls.{all_calls}
use Rattle.edr_image.specs.Image.{View, view_of}
use Rattle.edr_image.specs.Reports.{Ran, Report}
use Rattle.edr_spell.specs.declared.CycleInput.{CycleInput}
use Rattle.edr_run.specs.Cycle.{End, IsCycle, start_stopped, start_counted, whole, cut, Outcome, IsRun, last_count, start_end, steps_in}
use Rattle.edr_cycle.specs.declared.started.StartFault.{StartFault}
use Rattle.edr_cycle.specs.declared.started.StartFault.TheVariants as fault
use Rattle.edr_cycle.specs.Counter.{IsCountAfterStop, SaysWith}
use Rattle.edr_cycle.specs.Ends.{ComesTo, cycle_with}
use Rattle.edr_gates.specs.Found.{Holds, IsFound}
use Rattle.edr_cycle.specs.Starts.{IsEarly, HasOpened}
use Rattle.edr_replay.specs.Reached.{IsStopIn, in_start_counted, in_commands, IsLeftOfCycle, untouched, ended, stopped, RanFirst, IsReached, between, inside}
use Rattle.edr_replay.specs.Replayed.{EndsShort, HasRun, IsMemory, LeavesPart, LeavesReached, Leaving, LeftAlone, WantLeaves}
use Rattle.edr_replay.specs.Phases.{LeavesOfRun, LeavesOfStart}
use Rattle.edr_replay.proofs.RunLemmas.{extended, run_more}
use Rattle.edr_replay.proofs.RunPhaseLemmas.{whole_with}
use Rattle.edr_replay.proofs.StartPhaseLemmas.{SaysCount, count_left}

-- ---- a start

-- where one more was counted, numbers were left
counted_left : (e : StartFault) (v : Store) (n before now : ℕ) (content : Option (List ℕ)) (settled : ℕ → Bool) → (HasOpened e → SaysCount content e) → (IsEarly e → now ≡ before) → 5 ≤ now - before → Holds content settled v n → n < last_count
counted_left (fault.Open o) v n before now content settled counted early late h = let same = early tt in absurd (omega (arith, same, late))
counted_left fault.Spent v n before now content settled counted early late h = let same = early tt in absurd (omega (arith, same, late))
counted_left fault.StoreFault v n before now content settled counted early late h = count_left v n content settled (counted tt) h
counted_left fault.OutOfMemory v n before now content settled counted early late h = let same = early tt in absurd (omega (arith, same, late))

pub leaves_start : (e : StartFault) (before now : ℕ) (content : Option (List ℕ)) (settled : ℕ → Bool) (content' : Option (List ℕ)) (settled' : ℕ → Bool)
    → (HasOpened e → SaysCount content e) → (IsEarly e → now ≡ before) → now ≤ before + 6
    → ((bytes image : List ℕ) (v : View) → IsFound v content settled bytes → MayLeave content' settled' image → IsCountAfterStop (now - before) (v.count + 1) bytes v image)
    → LeavesOfStart content settled content' settled'
unfolding LeavesOfStart
leaves_start e before now content settled content' settled' counted early few left = λ v n h image may.
    ⊎_elim
    (λ (same : SaysWith n h.bytes (record { store = v; count = n }) image). inl same.view_is)
    (λ (later : (5 ≤ now - before) × SaysWith (n + 1) h.bytes (record { store = v; count = n }) image).
    let late = later.0 in inr (counted_left e v n before now content settled counted early late h, now - before, late, omega (arith, few), later.1.view_is))
    (left h.bytes image (record { store = v; count = n }) h.found may)

memory_early : (e : StartFault) → IsMemory e → IsEarly e
memory_early (fault.Open o) is = tt
memory_early fault.Spent is = absurd is
memory_early fault.StoreFault is = absurd is
memory_early fault.OutOfMemory is = tt

pub left_alone : (e : StartFault) (content : Option (List ℕ)) (settled : ℕ → Bool) (content' : Option (List ℕ)) (settled' : ℕ → Bool) (past since : ℕ → List ℕ → Type 0)
    → (IsEarly e → Stays content settled past content' settled' since) → WantLeaves LeftAlone content settled content' settled' e
unfolding WantLeaves
left_alone e content settled content' settled' past since early = λ memory v n h.
    let stays = early (memory_early e memory) in record { bytes = h.bytes; found = record { quiet = (stays.same_content ∙ h.found.quiet.0, λ i. stays.same_settled i ∙ h.found.quiet.1 i); view_is = h.found.view_is } }

-- ---- the commands

-- an end that tells of a stop in call k is one of a stop in that call, whatever stop was planned
cut_stop : (f : SensorLists) (stop k number : ℕ) (v : Store) (n : ℕ) (acks : List Ack) (e : End) → e.report ≡ Ran number (Some k) acks → IsCycle (cycle_with 0 f k) v n e → IsStopIn (cycle_with 0 f stop) v n e
cut_stop f stop k number v n acks e told (start_stopped some few is) = absurd (omega (arith, some))
cut_stop f stop k number v n acks e told (start_counted some few is) = absurd (omega (arith, some))
cut_stop f stop k number v n acks e told (whole none past is) = absurd (different (sym told ∙ ap (λ (x : End). x.report) is)) where
  different : {a b : ℕ} {xs ys : List Ack} → ◌≡◌ {A = Report} (Ran a (Some b) xs) (Ran (n + 1) None ys) → ⊥
  different e = cc
cut_stop f stop k number v n acks e told (cut done none at is) = in_commands k done at is

pub leaves_cut : (f : SensorLists) (stop k number : ℕ) (store : Store) (acks : List Ack) (content : Option (List ℕ)) (settled : ℕ → Bool) (content' : Option (List ℕ)) (settled' : ℕ → Bool)
    → ((bytes image : List ℕ) → IsFound (record { store = store; count = number }) content settled bytes → MayLeave content' settled' image → ComesTo (cycle_with 0 f k) store (number - 1) (Ran number (Some k) acks) image)
    → LeavesOfRun f stop number store content settled content' settled'
unfolding LeavesOfRun
leaves_cut f stop k number store acks content settled content' settled' comes = λ n next h image may.
    let come = comes h.bytes image h.found may in
    let e : End = record { report = Ran number (Some k) acks; store = come.view.store; count = come.view.count } in
    let before : number - 1 ≡ n = omega (arith, next) in
    (e, inl (cut_stop f stop k number store n acks e refl (subst (λ (m : ℕ). IsCycle (cycle_with 0 f k) store m e) before come.cycle)), come.view_is)

-- a power cycle that failed changed nothing
may_stay : (content content' : Option (List ℕ)) (settled settled' : ℕ → Bool) (image : List ℕ) → content' ≡ content → ((i : ℕ) → settled' i ≡ settled i) → MayLeave content' settled' image → MayLeave content settled image
may_stay None content' settled settled' image e same left = tt
may_stay (Some a) content' settled settled' image e same left =
    let here : Agrees settled' a image = subst (λ (c : Option (List ℕ)). MayLeave c settled' image) e left in
    record { size = here.size; same = λ i below s. here.same i below (same i ∙ s) }

pub leaves_whole : (f : SensorLists) (stop number : ℕ) (store : Store) (acks : List Ack) (content : Option (List ℕ)) (settled : ℕ → Bool) (content' : Option (List ℕ)) (settled' : ℕ → Bool) (content'' : Option (List ℕ)) (settled'' : ℕ → Bool) (past since : ℕ → List ℕ → Type 0)
    → (stop ≡ 0) ⊎ (all_calls (steps_in f number store) < stop) → Stays content' settled' past content'' settled'' since
    → ((bytes image : List ℕ) → IsFound (record { store = store; count = number }) content settled bytes → MayLeave content' settled' image → ComesTo (cycle_with 0 f 0) store (number - 1) (Ran number None acks) image)
    → LeavesOfRun f stop number store content settled content'' settled''
unfolding LeavesOfRun
leaves_whole f stop number store acks content settled content' settled' content'' settled'' past since beyond stays comes = λ n next h image may.
    let come = comes h.bytes image h.found (may_stay content' content'' settled' settled'' image stays.same_content stays.same_settled may) in
    let e : End = record { report = Ran number None acks; store = come.view.store; count = come.view.count } in
    let before : number - 1 ≡ n = omega (arith, next) in
    let after : n + 1 ≡ number = omega (arith, next) in
    let cycle : IsCycle (cycle_with 0 f 0) store n e = subst (λ (m : ℕ). IsCycle (cycle_with 0 f 0) store m e) before come.cycle in
    (e, inr (whole_with f stop store n e (subst (λ (m : ℕ). (stop ≡ 0) ⊎ (all_calls (steps_in f m store) < stop)) (sym after) beyond) cycle), come.view_is)

-- ---- a whole cycle

pub part_of_start : (c : CycleInput) (content : Option (List ℕ)) (settled : ℕ → Bool) (content' : Option (List ℕ)) (settled' : ℕ → Bool) → LeavesOfStart content settled content' settled' → LeavesPart c content settled content' settled'
unfolding LeavesOfStart LeavesPart
part_of_start c content settled content' settled' left = λ v n h image may.
    by v n image (left v n h image may)
  where
    by : (v : Store) (n : ℕ) (image : List ℕ) → (view_of image ≡ Some (record { store = v; count = n })) ⊎ ((n < last_count) × (j : ℕ) × (5 ≤ j) × (j ≤ 6) × (view_of image ≡ Some (record { store = v; count = n + 1 })))
        → (w : View) × (view_of image ≡ Some w) × IsLeftOfCycle c v n w.store w.count
    by v n image (inl same) = (record { store = v; count = n }, same, untouched refl refl)
    by v n image (inr s) = (record { store = v; count = n + 1 }, s.4, stopped (start_end s.1 v (n + 1)) s.0 (in_start_counted s.1 s.2 s.3 refl) refl refl)

pub part_of_run : (c : CycleInput) (number : ℕ) (store : Store) (content : Option (List ℕ)) (settled : ℕ → Bool) (content' : Option (List ℕ)) (settled' : ℕ → Bool) (content'' : Option (List ℕ)) (settled'' : ℕ → Bool) (r : Result CycleReport StartFault)
    → c.start_stop ≡ 0 → ((v : Store) (n : ℕ) → Holds content settled v n → (n < last_count) × (store ≡ v) × (number ≡ n + 1) × Holds content' settled' v (n + 1))
    → IfErr r (λ _. LeavesOfRun c.feeds c.stop number store content' settled' content'' settled'') → IfErr r (λ _. LeavesPart c content settled content'' settled'')
unfolding LeavesOfRun LeavesPart
part_of_run c number store content settled content' settled' content'' settled'' (Ok report) run begun left = left
part_of_run c number store content settled content' settled' content'' settled'' (Err e) run begun left = λ v n h image may.
    let f = begun v n h in
    let there : Holds content' settled' store number = subst (λ (k : ℕ). Holds content' settled' store k) (sym f.2) (subst (λ (w : Store). Holds content' settled' w (n + 1)) (sym f.1) f.3) in
    let l = left n f.2 there image may in
    let same : ◌≡◌ {A = CycleInput} (cycle_with 0 c.feeds c.stop) c = ap {B = CycleInput} (λ (k : ℕ). cycle_with k c.feeds c.stop) (sym run) in
    let part : IsLeftOfCycle c store n l.0.store l.0.count = ⊎_elim
    (λ (s : IsStopIn (cycle_with 0 c.feeds c.stop) store n l.0). stopped l.0 f.0 (subst (λ (x : CycleInput). IsStopIn x store n l.0) same s) refl refl)
    (λ (s : IsCycle (cycle_with 0 c.feeds c.stop) store n l.0). ended l.0 f.0 (subst (λ (x : CycleInput). IsCycle x store n l.0) same s) refl refl)
    l.1 in
    (record { store = l.0.store; count = l.0.count }, l.2, subst (λ (w : Store). IsLeftOfCycle c w n l.0.store l.0.count) f.1 part)

-- where nothing was done
pub part_none : (c : CycleInput) (content : Option (List ℕ)) (settled : ℕ → Bool) → LeavesPart c content settled content settled
unfolding LeavesPart
part_none c content settled = λ v n h image may.
    let same = quiet_leaves h.bytes content settled image h.found.quiet may in
    (record { store = v; count = n }, ap view_of same ∙ h.found.view_is, untouched refl refl)

-- where no command was done, what is left is what a start leaves that is stopped in call 6
pub part_counted : (c : CycleInput) (content : Option (List ℕ)) (settled : ℕ → Bool) (content' : Option (List ℕ)) (settled' : ℕ → Bool)
    → ((v : Store) (n : ℕ) → Holds content settled v n → (n < last_count) × Holds content' settled' v (n + 1)) → LeavesPart c content settled content' settled'
unfolding LeavesPart
part_counted c content settled content' settled' began = λ v n h image may.
    let f = began v n h in
    let same = quiet_leaves f.1.bytes content' settled' image f.1.found.quiet may in
    (record { store = v; count = n + 1 }, ap view_of same ∙ f.1.found.view_is, stopped (start_end 6 v (n + 1)) f.0 (in_start_counted 6 (omega arith) (omega arith) refl) refl refl)

-- commands that fail tell no want of memory
pub not_memory : (left : Leaving) (r : Result CycleReport StartFault) (a b : ℕ) (content : Option (List ℕ)) (settled : ℕ → Bool) (content' : Option (List ℕ)) (settled' : ℕ → Bool)
    → IfErr r (λ e. (e ≡ fault.StoreFault) × Rose a b) → IfErr r (WantLeaves left content settled content' settled')
unfolding WantLeaves
not_memory left (Ok x) a b content settled content' settled' h = h
not_memory left (Err e) a b content settled content' settled' h = λ memory. absurd (subst IsMemory h.0 memory)

-- ---- all cycles

-- none has run
pub none_first : (cs : List CycleInput) (v : Store) (n : ℕ) → RanFirst cs v n 0 (record { reports = []; store = v; count = n })
none_first cs v n = record { within = omega arith; run = refl }

pub reached_none : (cs : List CycleInput) (content : Option (List ℕ)) (settled : ℕ → Bool) → LeavesReached cs content settled content settled
unfolding LeavesReached
reached_none cs content settled = λ v n h image may.
    let same = quiet_leaves h.bytes content settled image h.found.quiet may in
    (record { store = v; count = n }, ap view_of same ∙ h.found.view_is, between 0 (record { reports = []; store = v; count = n }) (none_first cs v n) refl refl)

pub short_none : (cs : List CycleInput) (content : Option (List ℕ)) (settled : ℕ → Bool) (e : StartFault) → EndsShort cs content settled content settled e
unfolding EndsShort
short_none cs content settled e = λ memory v n h. (0, record { reports = []; store = v; count = n }, none_first cs v n, h)

-- what is left of a cycle after the first k is reached by the run of all
part_reached : (cs : List CycleInput) (k : ℕ) (c : CycleInput) (v : Store) (n : ℕ) (o : Outcome) (w : Store) (m : ℕ) → k < length cs → c ≡ get_or cs k c → IsRun (take k cs) v n o → IsLeftOfCycle c o.store o.count w m → IsReached cs v n w m
part_reached cs k c v n o w m below is run (untouched a b) = between k o (record { within = omega (arith, below); run = run }) a b
part_reached cs k c v n o w m below is run (ended e left cycle a b) =
    let first : take (k + 1) cs ≡ take k cs ++ c ∷ [] = rw (add-one k) (take-suc cs k c below ∙ ap (λ (x : CycleInput). take k cs ++ x ∷ []) (sym is)) in
    between (k + 1) (extended o e) (record { within = omega (arith, below); run = subst (λ (x : List CycleInput). IsRun x v n (extended o e)) (sym first) (run_more (take k cs) c v n o e run left cycle) }) a b
part_reached cs k c v n o w m below is run (stopped e left stop a b) =
    inside k o c e (record { within = omega (arith, below); run = run }) (slice_get_read cs (length cs) k c refl below is) left stop a b

pub reached_more : (cs : List CycleInput) (k : ℕ) (c : CycleInput) (content : Option (List ℕ)) (settled : ℕ → Bool) (content' : Option (List ℕ)) (settled' : ℕ → Bool) (content'' : Option (List ℕ)) (settled'' : ℕ → Bool) (reports : List CycleReport)
    → HasRun (take k cs) content settled content' settled' reports → k < length cs → c ≡ get_or cs k c → LeavesPart c content' settled' content'' settled'' → LeavesReached cs content settled content'' settled''
unfolding HasRun LeavesPart LeavesReached
reached_more cs k c content settled content' settled' content'' settled'' reports has below is left = λ v n h image may.
    let r = has v n h in
    let l = left r.0.store r.0.count r.3 image may in
    (l.0, l.1, part_reached cs k c v n r.0 l.0.store l.0.count below is r.1 l.2)

pub short_more : (cs : List CycleInput) (k : ℕ) (content : Option (List ℕ)) (settled : ℕ → Bool) (content' : Option (List ℕ)) (settled' : ℕ → Bool) (content'' : Option (List ℕ)) (settled'' : ℕ → Bool) (reports : List CycleReport) (e : StartFault)
    → HasRun (take k cs) content settled content' settled' reports → k < length cs → WantLeaves LeftAlone content' settled' content'' settled'' e → EndsShort cs content settled content'' settled'' e
unfolding HasRun WantLeaves EndsShort
short_more cs k content settled content' settled' content'' settled'' reports e has below alone = λ memory v n h.
    let r = has v n h in
    (k, r.0, record { within = omega (arith, below); run = r.1 }, alone memory r.0.store r.0.count r.3)
