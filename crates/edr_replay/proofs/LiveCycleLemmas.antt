-- What a cycle comes to beside which a reader saw the banks.
use Rattle.std.proofs.Common.{◌≡◌, ◌∙◌, refl, sym, ap, subst, inl, inr, arith, min, take, ℕ, zero, suc, ◌≤◌, ◌<◌, ◌+◌, ◌-◌, Bool, true, false, cond, ◌||◌, nat_lt, slice_index, Option, Some, None, Result, Ok, Err, List, [], ◌∷◌, length}
use Rattle.std.specs.Prelude.{fold, count_by, zip}
use Rattle.std.specs.List.{sum_by}
use Rattle.std.specs.Option.{option_or}
use Rattle.std.proofs.lemmas.Bool.Decides.{nat_tests}
use Rattle.std.proofs.lemmas.List.{length-map, length-set}
use Rattle.std.proofs.lemmas.Slice.Zip.{length-zip}
use Rattle.std.proofs.lemmas.List.Sums.{sum_by-append}
use Rattle.std.proofs.lemmas.List.FromFn.{length-map-range_with_len}
use Rattle.edr_items.specs.SensorLists.{AreFeeds, SensorLists, horizon_of}
use Rattle.edr_definitions.specs.Commands.{Issue}
use Rattle.edr_device.specs.declared.device.Nvm.{Ghosts}
use Rattle.edr_device.proofs.SettlingLemmas.{quiet_leaves}
use Rattle.edr_gates.specs.Found.{Holds}
use Rattle.edr_gates.proofs.ViewLemmas.{seen}
use Rattle.edr_image.specs.declared.Ack.{Ack}
use Rattle.edr_image.specs.declared.BankView.{BankView}
use Rattle.edr_image.specs.declared.HeaderRefused.{HeaderRefused}
use Rattle.edr_image.specs.declared.log.CycleReport.{CycleReport}
use Rattle.edr_image.specs.declared.log.CycleReport.TheVariants as told
use Rattle.edr_image.specs.Banks.{Store}
use Rattle.edr_image.specs.Image.{View, header_refusal, header_refusal_by, view_of}
use Rattle.edr_image.specs.Reports.{Ran, report_of}
use Rattle.edr_image.specs.Steps.{BankStep, Reply, Erase, Fill, Lock, Done, after, banks_after}
use Rattle.edr_spell.specs.declared.CycleInput.{CycleInput}
use Rattle.edr_run.specs.declared.live.LiveLine.{LiveLine}
use Rattle.edr_run.specs.Cycle.{End, ack_of, acks_in, issues_in, replies_in}
use Rattle.edr_run.proofs.IssueLemmas.{issues-few}
use Rattle.edr_image.specs.Banks.{holds_event}
use Rattle.edr_run.specs.Live.{events_after, live_lines_of}
use Rattle.edr_run.specs.Schedule.{steps_of_first}
use Rattle.edr_live.specs.Shown.{padded}
use Rattle.edr_cycle.specs.declared.started.StartFault.{StartFault}
use Rattle.edr_cycle.specs.declared.started.StartFault.TheVariants as fault
use Rattle.edr_replay.specs.declared.live.LiveCycle.{LiveCycle}
use Rattle.edr_replay.specs.Live.{LeftOrEnded, RunsCycleLive, lines_with}
use Rattle.edr_replay.specs.Reached.{ended}
use Rattle.edr_replay.specs.Replayed.{HasRunCycle, LeavesPart, LeftOrCounted, RunsCycle, WantLeaves}
use Rattle.edr_replay.proofs.FewCallLemmas.{horizon_low}
use Rattle.edr_replay.proofs.CycleLemmas.{memory_refused, memory_short, memory_unspent}
use Rattle.edr_replay.proofs.WholeCycleLemmas.{HasBegun}

-- ---- how many banks there are

third : (o : Option HeaderRefused) (a b c : Bool) (x y z : HeaderRefused) → option_or o (cond a (Some x) (cond b (Some y) (cond c (Some z) None))) ≡ None → b ≡ false
third (Some r) a b c x y z e = absurd cc
third None true b c x y z e = absurd cc
third None false true c x y z e = absurd cc
third None false false c x y z e = refl

not_many : (banks : ℕ) → (nat_lt banks 2 || nat_lt 16 banks) ≡ false → banks ≤ 16
not_many banks e = grind (arith, nat_tests)

header_few : (bytes : List ℕ) → header_refusal bytes ≡ None → slice_index bytes 10 ≤ 16
unfolding header_refusal_by
header_few bytes e = not_many _ (third _ _ _ _ _ _ _ e)

-- the banks of an image are 16 at the most
banks_few : (bytes : List ℕ) (v : View) → view_of bytes ≡ Some v → length v.store.banks ≤ 16
banks_few bytes v is =
    let s = seen bytes v is in
    let few = header_few bytes s.header in
    let long : length v.store.banks ≡ slice_index bytes 10 = ap (λ (w : View). length w.store.banks) s.same ∙ length-map-range_with_len _ 1 (slice_index bytes 10) in
    omega (arith, few, long)

as_many : (banks : List BankView) (s : BankStep) → length (banks_after banks s) ≡ length banks
as_many banks (Erase m) = length-set banks (m - 1) _
as_many banks (Fill m pre) = length-set banks (m - 1) _
as_many banks (Lock m) = length-set banks (m - 1) _
as_many banks (Done m crash) = length-set banks (m - 1) _

all_as_many : (banks : List BankView) (steps : List BankStep) → length (fold banks_after banks steps) ≡ length banks
all_as_many banks [] = refl
all_as_many banks (s ∷ steps) = all_as_many (banks_after banks s) steps ∙ as_many banks s

-- ---- the events among the banks that are shown

padded_void : (n : ℕ) → count_by holds_event (padded n []) ≡ 0
padded_void zero = refl
padded_void (suc n) = padded_void n

padded_events : (n : ℕ) (banks : List BankView) → length banks ≤ n → count_by holds_event (padded n banks) ≡ count_by holds_event banks
padded_events zero [] few = refl
padded_events zero (b ∷ banks) few = absurd (omega (arith, few))
padded_events (suc n) [] few = padded_void n
padded_events (suc n) (b ∷ banks) few =
    sum_by-append one (b ∷ []) (padded n banks) ∙ ap (λ (k : ℕ). sum_by one (b ∷ []) + k) (padded_events n banks (omega (arith, few))) ∙ sym (sum_by-append one (b ∷ []) banks)
  where
    one : BankView → ℕ
    one x = cond (holds_event x) 1 0

-- ---- the line of a cycle

abbrev one_line : ℕ → ℕ → ℕ → List LiveLine
one_line i commands events = record { cycle = i; commands = commands; events = events } ∷ []

-- what was seen of it last
abbrev pub line_seen : ℕ → ℕ → List BankView → LiveLine
line_seen i applied views = record { cycle = i; commands = applied; events = count_by holds_event views }

line_told : (i : ℕ) (f : SensorLists) (number : ℕ) (v : Store) (stop : Option ℕ) (acks : List Ack) (applied : ℕ) (views : List BankView) → length v.banks ≤ 16
    → applied ≡ length acks → views ≡ padded 16 (after v (steps_of_first f number v applied)).banks → line_seen i applied views ∷ [] ≡ live_lines_of i f v (Ran number stop acks)
line_told i f number v stop acks applied views few all are =
    let same = all_as_many v.banks (steps_of_first f number v applied) in
    let events : count_by holds_event views ≡ events_after f number v applied = ap (count_by holds_event) are ∙ padded_events 16 _ (omega (arith, same, few)) in
    ap (λ (k : ℕ). one_line i applied k) events ∙ ap (λ (p : ℕ). one_line i p (events_after f number v p)) all

-- ---- how long the log is

acks_low : (f : SensorLists) (n : ℕ) (v : Store) → AreFeeds f → length (acks_in f n v) < 4294967296
unfolding acks_in
acks_low f n v feeds =
    let same = length-map (zip (issues_in f n) (replies_in f n v)) (λ (p : Issue × Reply). ack_of p.0 p.1) in
    let both = length-zip (issues_in f n) (replies_in f n v) in
    let least = min_le (length (issues_in f n)) (length (replies_in f n v)) in
    let few = issues-few f n (horizon_of f) in
    let low = horizon_low f feeds in
    omega (arith, same, both, least, few, low)
  where
    min_le : (a b : ℕ) → min a b ≤ a
    min_le a b = omega arith

pub log_low : (f : SensorLists) (n : ℕ) (v : Store) (failed : Bool) (acks : List Ack) (applied : ℕ) → AreFeeds f → applied ≤ length acks → (failed ≡ false → acks ≡ acks_in f n v)
    → (failed ≡ true → (length acks < length (acks_in f n v)) × (acks ≡ take (length acks) (acks_in f n v))) → applied < 4294967296
log_low f n v false acks applied feeds within all begins =
    let low = acks_low f n v feeds in
    let same = ap length (all refl) in
    omega (arith, within, low, same)
log_low f n v true acks applied feeds within all begins =
    let low = acks_low f n v feeds in
    let less = (begins refl).0 in
    omega (arith, within, low, less)

-- where they end, the report has the log
pub stop_of : (failed cut : Bool) (told number stop : ℕ) (acks : List Ack) (report : CycleReport) → told ≡ number → (failed ≡ false → report_of report ≡ Ran told None acks)
    → (failed ≡ true → (cut ≡ true) × (report_of report ≡ Ran told (Some stop) acks)) → (s : Option ℕ) × (report_of report ≡ Ran number s acks)
stop_of false cut told number stop acks report same whole stopped = (None, whole refl ∙ ap (λ (k : ℕ). Ran k None acks) same)
stop_of true cut told number stop acks report same whole stopped = (Some stop, (stopped refl).1 ∙ ap (λ (k : ℕ). Ran k (Some stop) acks) same)

-- ---- the whole cycle

-- with the lines that it has
told_live : {D : Type 0} {g : Ghosts D} (i : ℕ) (c : CycleInput) (old new : D) (x : LiveCycle) → RunsCycle g LeftOrCounted c old new (Ok x.report)
    → ((v : Store) (n : ℕ) → Holds (g.content old) (g.settled old) v n → lines_with x.line ≡ live_lines_of i c.feeds v (report_of x.report)) → RunsCycleLive g i c old new (Ok x)
told_live {g = g} i c old new x run lines = record {
  lent = run.lent;
  ran = λ v n holds. let r = run.ran v n holds in (r.0, r.1, r.2, r.3, lines v n holds ∙ ap (live_lines_of i c.feeds v) (sym r.3), r.4);
  refused = tt;
  short = tt;
  fault = tt;
  spent = tt;
  memory = tt;
  left = tt;
  past = run.past;
}

-- its start was stopped
pub stopped_live : {D : Type 0} {g : Ghosts D} (i : ℕ) (c : CycleInput) (old new : D) (call : ℕ) (r : Result LiveCycle StartFault) → RunsCycle g LeftOrCounted c old new (Ok (told.StartStopped call))
    → r ≡ Ok (record { report = told.StartStopped call; line = None }) → RunsCycleLive g i c old new r
stopped_live {g = g} i c old new call r run is = subst (λ (y : Result LiveCycle StartFault). RunsCycleLive g i c old new y) (sym is)
    (told_live i c old new (record { report = told.StartStopped call; line = None }) run (λ v n holds. refl))

-- it ran, and all its commands were shown
pub ran_live : {D : Type 0} {g : Ghosts D} (i : ℕ) (c : CycleInput) (number : ℕ) (store : Store) (stop : Option ℕ) (acks : List Ack) (applied : ℕ) (views : List BankView) (report : CycleReport) (old mid new : D) (r : Result LiveCycle StartFault)
    → HasBegun g number store old mid → RunsCycle g LeftOrCounted c old new (Ok report) → report_of report ≡ Ran number stop acks
    → applied ≡ length acks → views ≡ padded 16 (after store (steps_of_first c.feeds number store applied)).banks
    → r ≡ Ok (record { report = report; line = Some (line_seen i applied views) }) → RunsCycleLive g i c old new r
ran_live {g = g} i c number store stop acks applied views report old mid new r begun run tells all are is = subst (λ (y : Result LiveCycle StartFault). RunsCycleLive g i c old new y) (sym is)
    (told_live i c old new (record { report = report; line = Some (line_seen i applied views) }) run
    (λ v n holds.
    let f = begun.found v n holds in
    let few = banks_few holds.bytes (record { store = v; count = n }) holds.found.view_is in
    let seen_of : views ≡ padded 16 (after v (steps_of_first c.feeds number v applied)).banks = subst (λ (w : Store). views ≡ padded 16 (after w (steps_of_first c.feeds number w applied)).banks) f.1 are in
    line_told i c.feeds number v stop acks applied views few all seen_of ∙ ap (live_lines_of i c.feeds v) (sym tells)))

-- ---- want of memory, and faults

wants_ended : (c : CycleInput) (content : Option (List ℕ)) (settled : ℕ → Bool) (content' : Option (List ℕ)) (settled' : ℕ → Bool) (report : CycleReport) → HasRunCycle c content settled content' settled' report
    → WantLeaves (LeftOrEnded c) content settled content' settled' fault.OutOfMemory
unfolding WantLeaves
wants_ended c content settled content' settled' report ran = λ memory v n holds. let r = ran v n holds in inr (r.0, r.1, r.2, r.4)

part_ended : (c : CycleInput) (content : Option (List ℕ)) (settled : ℕ → Bool) (content' : Option (List ℕ)) (settled' : ℕ → Bool) (report : CycleReport) → HasRunCycle c content settled content' settled' report
    → LeavesPart c content settled content' settled'
unfolding LeavesPart
part_ended c content settled content' settled' report ran = λ v n holds image may.
    let r = ran v n holds in
    let e : End = r.1 in
    let held : Holds content' settled' e.store e.count = r.4 in
    let is = quiet_leaves held.bytes content' settled' image held.found.quiet may in
    (record { store = e.store; count = e.count }, ap view_of is ∙ held.found.view_is, ended e r.0 r.2 refl refl)

-- it ran, and memory was wanted to show its commands
pub unshown_live : {D : Type 0} {g : Ghosts D} (i : ℕ) (c : CycleInput) (old new : D) (report : CycleReport) (r : Result LiveCycle StartFault) → RunsCycle g LeftOrCounted c old new (Ok report) → r ≡ Err fault.OutOfMemory
    → RunsCycleLive g i c old new r
unshown_live {g = g} i c old new report r run is = subst (λ (y : Result LiveCycle StartFault). RunsCycleLive g i c old new y) (sym is) (record {
  lent = run.lent;
  ran = tt;
  refused = memory_refused (g.content old) (g.settled old);
  short = memory_short (g.extent old);
  fault = λ device. absurd device;
  spent = memory_unspent (g.content old) (g.settled old) (g.content new) (g.settled new);
  memory = wants_ended c (g.content old) (g.settled old) (g.content new) (g.settled new) report run.ran;
  left = part_ended c (g.content old) (g.settled old) (g.content new) (g.settled new) report run.ran;
  past = run.past;
})

counted_leaves : (c : CycleInput) (e : StartFault) (content : Option (List ℕ)) (settled : ℕ → Bool) (content' : Option (List ℕ)) (settled' : ℕ → Bool) → WantLeaves LeftOrCounted content settled content' settled' e
    → WantLeaves (LeftOrEnded c) content settled content' settled' e
unfolding WantLeaves
counted_leaves c e content settled content' settled' counted = λ memory v n holds. inl (counted memory v n holds)

-- it failed as a cycle by threads does
pub failed_live : {D : Type 0} {g : Ghosts D} (i : ℕ) (c : CycleInput) (old new : D) (e : StartFault) (r : Result LiveCycle StartFault) → RunsCycle g LeftOrCounted c old new (Err e) → r ≡ Err e → RunsCycleLive g i c old new r
failed_live {g = g} i c old new e r run is = subst (λ (y : Result LiveCycle StartFault). RunsCycleLive g i c old new y) (sym is) (record {
  lent = run.lent;
  ran = tt;
  refused = run.refused;
  short = run.short;
  fault = run.fault;
  spent = run.spent;
  memory = counted_leaves c e (g.content old) (g.settled old) (g.content new) (g.settled new) run.memory;
  left = run.left;
  past = run.past;
})
