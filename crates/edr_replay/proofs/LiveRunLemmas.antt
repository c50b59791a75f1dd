-- The loop over cycles beside which a reader sees the banks.
use Rattle.std.proofs.Common.{◌≡◌, ◌∙◌, refl, sym, ap, subst, ⊎_elim, arith, ℕ, ◌+◌, ◌<◌, ◌≤◌, Bool, Option, Some, None, Result, Ok, Err, List, [], ◌∷◌, ◌++◌, append_assoc, length, length-append, map, take, get_or, add-one}
use Rattle.std.proofs.lemmas.List.{append-nil, length-take, map-append}
use Rattle.std.proofs.Math.Seq.{take-suc}
use Rattle.edr_device.specs.declared.device.Nvm.{Ghosts}
use Rattle.edr_gates.specs.Found.{Holds}
use Rattle.edr_image.specs.declared.log.CycleReport.{CycleReport}
use Rattle.edr_image.specs.Banks.{Store}
use Rattle.edr_image.specs.Reports.{Report, report_of}
use Rattle.edr_spell.specs.declared.CycleInput.{CycleInput}
use Rattle.edr_run.specs.declared.live.LiveLine.{LiveLine}
use Rattle.edr_run.specs.Cycle.{End, IsCycle, IsRun, Outcome, last_count, start_end}
use Rattle.edr_run.specs.Live.{IsLiveRun, live_lines_of}
use Rattle.edr_cycle.specs.declared.started.StartFault.{StartFault}
use Rattle.edr_cycle.specs.declared.started.StartFault.TheVariants as fault
use Rattle.edr_replay.specs.declared.live.LiveCycle.{LiveCycle}
use Rattle.edr_replay.specs.declared.live.LiveRun.{LiveRun}
use Rattle.edr_replay.specs.Live.{DrivesLive, HasRunCycleLive, HasRunLive, LeftOrEnded, RunsCycleLive, lines_with}
use Rattle.edr_replay.specs.Reached.{between, counted}
use Rattle.edr_replay.specs.Replayed.{EndsCutShort, EndsSpent, HasRun, HaveRun, LeavesReached, LeftOrCounted, RunsCycle, RunsTo, WantLeaves}
use Rattle.edr_replay.proofs.DrivenLemmas.{cut_short_none}
use Rattle.edr_replay.proofs.RunLemmas.{extended, run_more}
use Rattle.edr_replay.proofs.RunningLemmas.{Running, ends_at_once, ends_in_next, running_first, running_more}

-- ---- one cycle more after a run with live lines

lines_last : (i k : ℕ) (c : CycleInput) (v w : Store) (r : Report) (lines : List LiveLine) → k ≡ i → w ≡ v → lines ≡ [] → lines ++ live_lines_of k c.feeds w r ≡ live_lines_of i c.feeds v r ++ []
lines_last i k c v w r lines at same none =
    ap (λ (xs : List LiveLine). xs ++ live_lines_of k c.feeds w r) none ∙ ap (λ (x : ℕ). live_lines_of x c.feeds w r) at ∙ ap (λ (x : Store). live_lines_of i c.feeds x r) same ∙ sym (append-nil (live_lines_of i c.feeds v r))

lines_later : (i k : ℕ) (c : CycleInput) (w : Store) (r : Report) (lines first more : List LiveLine) → k ≡ i → lines ≡ first ++ more → lines ++ live_lines_of k c.feeds w r ≡ first ++ (more ++ live_lines_of i c.feeds w r)
lines_later i k c w r lines first more at are =
    ap (λ (xs : List LiveLine). xs ++ live_lines_of k c.feeds w r) are ∙ append_assoc first more (live_lines_of k c.feeds w r) ∙ ap (λ (x : ℕ). first ++ (more ++ live_lines_of x c.feeds w r)) at

live_run_more : (i : ℕ) (cs : List CycleInput) (c : CycleInput) (v : Store) (n : ℕ) (o : Outcome) (e : End) (lines : List LiveLine) → IsLiveRun i cs v n o lines → o.count < last_count → IsCycle c o.store o.count e
    → IsLiveRun i (cs ++ c ∷ []) v n (extended o e) (lines ++ live_lines_of (i + length cs) c.feeds o.store e.report)
live_run_more i [] c v n o e lines run below cycle =
    let count : o.count ≡ n = ap (λ (x : Outcome). x.count) run.0 in
    let store : o.store ≡ v = ap (λ (x : Outcome). x.store) run.0 in
    let reports : o.reports ≡ [] = ap (λ (x : Outcome). x.reports) run.0 in (
      subst (λ (k : ℕ). k < last_count) count below,
      e,
      subst (λ (w : Store). IsCycle c w n e) store (subst (λ (k : ℕ). IsCycle c o.store k e) count cycle),
      [],
      [],
      (refl, refl),
      ap (λ (rs : List Report). rs ++ e.report ∷ []) reports,
      lines_last i (i + 0) c v o.store e.report lines (omega arith) store run.1,
    )
live_run_more i (d ∷ cs) c v n o e lines run below cycle =
    let later = live_run_more (i + 1) cs c run.1.store run.1.count (record o { reports = run.3 }) e run.4 run.5 below cycle in (
      run.0,
      run.1,
      run.2,
      run.3 ++ e.report ∷ [],
      run.4 ++ live_lines_of (i + 1 + length cs) c.feeds o.store e.report,
      later,
      ap (λ (rs : List Report). rs ++ e.report ∷ []) run.6,
      lines_later (i + 1 + length cs) (i + length (d ∷ cs)) c o.store e.report lines (live_lines_of i d.feeds v run.1.report) run.4 (omega arith) run.7,
    )

-- ---- the first k cycles

-- they have run with these lines, for which there is room
pub record RunningLive {D : Type 0} (g : Ghosts D) (cs : List CycleInput) (k capacity spare : ℕ) (reports : List CycleReport) (lines : List LiveLine) (old new : D) : Type 0 where
  pub cycles : Running g cs k capacity reports old new
  pub few : length lines ≤ k
  pub room : length cs ≤ spare
  pub run : HasRunLive (take k cs) (g.content old) (g.settled old) (g.content new) (g.settled new) reports lines

live_none : (content : Option (List ℕ)) (settled : ℕ → Bool) → HasRunLive [] content settled content settled [] []
unfolding HasRunLive
live_none content settled = λ v n holds. (record { reports = []; store = v; count = n }, (refl, refl), refl, holds)

-- at first none has run
pub live_first : {D : Type 0} {g : Ghosts D} (cs : List CycleInput) (capacity spare : ℕ) (reports : List CycleReport) (lines : List LiveLine) (d : D)
    → g.goes_on d d → reports ≡ [] → lines ≡ [] → length cs ≤ capacity → length cs ≤ spare → RunningLive g cs 0 capacity spare reports lines d d
live_first {g = g} cs capacity spare reports lines d self no_report no_line room more = record {
  cycles = running_first cs capacity reports d self no_report room;
  few = let none = ap length no_line in omega (arith, none);
  room = more;
  run = subst (λ (xs : List LiveLine). HasRunLive [] (g.content d) (g.settled d) (g.content d) (g.settled d) reports xs) (sym no_line)
      (subst (λ (rs : List CycleReport). HasRunLive [] (g.content d) (g.settled d) (g.content d) (g.settled d) rs []) (sym no_report) (live_none (g.content d) (g.settled d)));
}

-- one more cycle, one more report and the lines that it has
live_more : (cs : List CycleInput) (c : CycleInput) (i : ℕ) (content : Option (List ℕ)) (settled : ℕ → Bool) (content' : Option (List ℕ)) (settled' : ℕ → Bool) (content'' : Option (List ℕ)) (settled'' : ℕ → Bool) (reports : List CycleReport) (lines : List LiveLine) (x : LiveCycle)
    → i ≡ 1 + length cs → HasRunLive cs content settled content' settled' reports lines → HasRunCycleLive i c content' settled' content'' settled'' x
    → HasRunLive (cs ++ c ∷ []) content settled content'' settled'' (reports ++ x.report ∷ []) (lines ++ lines_with x.line)
unfolding HasRunLive
live_more cs c i content settled content' settled' content'' settled'' reports lines x at has ran = λ v n holds.
    let h = has v n holds in
    let o = h.0 in
    let r = ran o.store o.count h.3 in
    let e : End = r.1 in
    let told : o.reports ++ e.report ∷ [] ≡ map report_of (reports ++ x.report ∷ []) =
    ap (λ (rs : List Report). rs ++ e.report ∷ []) h.2 ∙ ap (λ (y : Report). map report_of reports ++ y ∷ []) r.3 ∙ sym (map-append report_of reports (x.report ∷ [])) in
    let here : lines_with x.line ≡ live_lines_of (1 + length cs) c.feeds o.store e.report = r.4 ∙ ap (λ (k : ℕ). live_lines_of k c.feeds o.store e.report) at in
    let run = live_run_more 1 cs c v n o e lines h.1 r.0 r.2 in
    (extended o e, subst (λ (xs : List LiveLine). IsLiveRun 1 (cs ++ c ∷ []) v n (extended o e) (lines ++ xs)) (sym here) run, told, r.5)

-- ---- a cycle with its line is one

cycle_ran : {D : Type 0} {g : Ghosts D} (i : ℕ) (c : CycleInput) (old new : D) (x : LiveCycle) → RunsCycleLive g i c old new (Ok x) → RunsCycle g (LeftOrEnded c) c old new (Ok x.report)
cycle_ran {g = g} i c old new x run = record {
  lent = run.lent;
  ran = λ v n holds. let r = run.ran v n holds in (r.0, r.1, r.2, r.3, r.5);
  refused = tt;
  short = tt;
  fault = tt;
  spent = tt;
  memory = tt;
  left = tt;
  past = run.past;
}

cycle_failed : {D : Type 0} {g : Ghosts D} (i : ℕ) (c : CycleInput) (old new : D) (e : StartFault) → RunsCycleLive g i c old new (Err e) → RunsCycle g (LeftOrEnded c) c old new (Err e)
cycle_failed {g = g} i c old new e run = record {
  lent = run.lent;
  ran = tt;
  refused = run.refused;
  short = run.short;
  fault = run.fault;
  spent = run.spent;
  memory = run.memory;
  left = run.left;
  past = run.past;
}

line_few : (line : Option LiveLine) → length (lines_with line) ≤ 1
line_few None = omega arith
line_few (Some line) = omega arith

-- one more cycle has run
pub running_live_more : {D : Type 0} {g : Ghosts D} (cs : List CycleInput) (c : CycleInput) (k i capacity capacity' spare spare' : ℕ) (reports reports' : List CycleReport) (lines lines' : List LiveLine) (x : LiveCycle) (old mid new : D)
    → (g.goes_on old mid → g.goes_on mid new → g.goes_on old new) → RunningLive g cs k capacity spare reports lines old mid → k < length cs → c ≡ get_or cs k c → i ≡ k + 1
    → RunsCycleLive g i c mid new (Ok x) → reports' ≡ reports ++ x.report ∷ [] → lines' ≡ lines ++ lines_with x.line → length cs ≤ capacity' → length cs ≤ spare'
    → RunningLive g cs (k + 1) capacity' spare' reports' lines' old new
running_live_more {g = g} cs c k i capacity capacity' spare spare' reports reports' lines lines' x old mid new again r below is at ran put put_lines room room' =
    let first : take (k + 1) cs ≡ take k cs ++ c ∷ [] = rw (add-one k) (take-suc cs k c below ∙ ap (λ (y : CycleInput). take k cs ++ y ∷ []) (sym is)) in
    let long = length-take k cs in
    let place : i ≡ 1 + length (take k cs) = grind (arith, at, long, below) in
    let has = live_more (take k cs) c i (g.content old) (g.settled old) (g.content mid) (g.settled mid) (g.content new) (g.settled new) reports lines x place r.run ran.ran in
    let there = subst (λ (ys : List CycleInput). HasRunLive ys (g.content old) (g.settled old) (g.content new) (g.settled new) (reports ++ x.report ∷ []) (lines ++ lines_with x.line)) (sym first) has in
    record {
      cycles = running_more (LeftOrEnded c) cs c k capacity capacity' reports reports' x.report old mid new again r.cycles below is (cycle_ran i c mid new x ran) put room;
      few =
          let both = ap length put_lines ∙ length-append lines (lines_with x.line) in
          let one = line_few x.line in
          let so_far = r.few in
          omega (arith, both, one, so_far);
      room = room';
      run = subst (λ (ls : List LiveLine). HasRunLive (take (k + 1) cs) (g.content old) (g.settled old) (g.content new) (g.settled new) reports' ls) (sym put_lines)
          (subst (λ (rs : List CycleReport). HasRunLive (take (k + 1) cs) (g.content old) (g.settled old) (g.content new) (g.settled new) rs (lines ++ lines_with x.line)) (sym put) there);
    }

-- ---- a run that ends early

run_failed : {D : Type 0} {g : Ghosts D} (cs : List CycleInput) (old new : D) (e : StartFault) (r : Result LiveRun StartFault)
    → RunsTo g (HaveRun cs) (EndsSpent cs) (EndsCutShort cs) (LeavesReached cs) old new (Err e) → r ≡ Err e → DrivesLive g cs old new r
run_failed {g = g} cs old new e r run is = subst (λ (x : Result LiveRun StartFault). DrivesLive g cs old new x) (sym is) (record {
  lent = run.lent;
  ran = tt;
  refused = run.refused;
  short = run.short;
  fault = run.fault;
  spent = run.spent;
  memory = run.memory;
  left = run.left;
  past = run.past;
})

-- for want of memory before the first cycle
pub live_ends_at_once : {D : Type 0} {g : Ghosts D} (cs : List CycleInput) (d : D) (r : Result LiveRun StartFault) → g.goes_on d d → r ≡ Err fault.OutOfMemory → DrivesLive g cs d d r
live_ends_at_once {g = g} cs d r self is =
    run_failed cs d d fault.OutOfMemory r (ends_at_once (EndsCutShort cs) cs d (Err fault.OutOfMemory) self (cut_short_none cs (g.content d) (g.settled d) fault.OutOfMemory) refl) is

-- in the next cycle, or after it
ended_short : (cs : List CycleInput) (c : CycleInput) (k : ℕ) (content : Option (List ℕ)) (settled : ℕ → Bool) (content' : Option (List ℕ)) (settled' : ℕ → Bool) (content'' : Option (List ℕ)) (settled'' : ℕ → Bool) (reports : List CycleReport) (e : StartFault)
    → c ≡ get_or cs k c → HasRun (take k cs) content settled content' settled' reports → k < length cs → WantLeaves (LeftOrEnded c) content' settled' content'' settled'' e → EndsCutShort cs content settled content'' settled'' e
unfolding HasRun WantLeaves EndsCutShort
ended_short cs c k content settled content' settled' content'' settled'' reports e is has below left = λ memory v n h.
    let r = has v n h in
    let o = r.0 in
    ⊎_elim
    (λ (less : LeftOrCounted o.store o.count content'' settled'').
    ⊎_elim
    (λ (same : Holds content'' settled'' o.store o.count). (o.store, o.count, between k o (record { within = omega (arith, below); run = r.1 }) refl refl, same))
    (λ (more : (o.count < last_count) × Holds content'' settled'' o.store (o.count + 1)).
    (o.store, o.count + 1, counted k o (start_end 6 o.store (o.count + 1)) (record { within = omega (arith, below); run = r.1 }) below more.0 refl refl refl, more.1))
    less)
    (λ (whole : (o.count < last_count) × (x : End) × IsCycle c o.store o.count x × Holds content'' settled'' x.store x.count).
    let x : End = whole.1 in
    let first : take (k + 1) cs ≡ take k cs ++ c ∷ [] = rw (add-one k) (take-suc cs k c below ∙ ap (λ (y : CycleInput). take k cs ++ y ∷ []) (sym is)) in
    let run = run_more (take k cs) c v n o x r.1 whole.0 whole.2 in
    (x.store, x.count, between (k + 1) (extended o x) (record { within = omega (arith, below); run = subst (λ (ys : List CycleInput). IsRun ys v n (extended o x)) (sym first) run }) refl refl, whole.3))
    (left memory o.store o.count r.3)

pub live_ends_in_next : {D : Type 0} {g : Ghosts D} (cs : List CycleInput) (c : CycleInput) (k i capacity spare : ℕ) (reports : List CycleReport) (lines : List LiveLine) (old mid new : D) (e : StartFault) (r : Result LiveRun StartFault)
    → (g.goes_on old mid → g.goes_on mid new → g.goes_on old new) → RunningLive g cs k capacity spare reports lines old mid → k < length cs → c ≡ get_or cs k c → RunsCycleLive g i c mid new (Err e) → r ≡ Err e → DrivesLive g cs old new r
live_ends_in_next {g = g} cs c k i capacity spare reports lines old mid new e r again so_far below which failed is =
    run_failed cs old new e r (ends_in_next (LeftOrEnded c) (EndsCutShort cs) cs c k capacity reports old mid new e (Err e) again so_far.cycles below which (cycle_failed i c mid new e failed)
    (ended_short cs c k _ _ _ _ _ _ reports e which) refl) is
