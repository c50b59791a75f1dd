-- The loop over cycles.
use Rattle.std.proofs.Common.{◌≡◌, refl, sym, subst, ap, ◌∙◌, arith, ℕ, ◌+◌, ◌<◌, ◌≤◌, Bool, Option, Result, Ok, Err, Vec, List, [], ◌∷◌, ◌++◌, length, map, take, get_or, length-append, add-one}
use Rattle.std.proofs.lemmas.List.{map-append}
use Rattle.std.proofs.Math.Seq.{take-suc}
use Rattle.std.specs.declared.alloc.Global.{Global}
use Rattle.edr_device.specs.Lent.{Between, GoesOn}
use Rattle.edr_device.specs.declared.device.Nvm.{Ghosts}
use Rattle.edr_image.specs.declared.log.CycleReport.{CycleReport}
use Rattle.edr_image.specs.Reports.{report_of}
use Rattle.edr_spell.specs.declared.CycleInput.{CycleInput}
use Rattle.edr_cycle.specs.declared.started.StartFault.{StartFault}
use Rattle.edr_cycle.specs.declared.started.StartFault.TheVariants as fault
use Rattle.edr_replay.specs.Past.{LeavesPast}
use Rattle.edr_replay.specs.Replayed.{ByAnswer, EndsSpent, HasRun, HaveRun, IsTrulyRefused, IsTrulyShort, IsTrulySpent, LeavesReached, Leaving, RunsCycle, RunsTo, WantLeaves}
use Rattle.edr_replay.proofs.CycleLemmas.{EndsFrom, goes_again, goes_self, memory_refused, memory_short, memory_spent, rose_again}
use Rattle.edr_replay.proofs.LeavingLemmas.{reached_more, reached_none}
use Rattle.edr_replay.proofs.PastLemmas.{past_none, past_then, run_header}
use Rattle.edr_replay.proofs.RunLemmas.{extended, run_more}

-- the first k cycles have run, and so the device stands
pub record Running {D : Type 0} (g : Ghosts D) (cs : List CycleInput) (k capacity : ℕ) (reports : List CycleReport) (old new : D) : Type 0 where
  pub lent : GoesOn g old new
  pub count : length reports ≡ k
  pub room : length cs ≤ capacity
  pub run : HasRun (take k cs) (g.content old) (g.settled old) (g.content new) (g.settled new) reports
  pub past : Between g LeavesPast old new

-- no cycle has run, and nothing is told
pub has_run_none : (content : Option (List ℕ)) (settled : ℕ → Bool) → HasRun [] content settled content settled []
unfolding HasRun
has_run_none content settled = λ v n holds. (record { reports = []; store = v; count = n }, refl, refl, holds)

-- one more cycle, and one more report
pub has_run_more : (cs : List CycleInput) (c : CycleInput) (content : Option (List ℕ)) (settled : ℕ → Bool) (content' : Option (List ℕ)) (settled' : ℕ → Bool) (content'' : Option (List ℕ)) (settled'' : ℕ → Bool) (reports : List CycleReport) (report : CycleReport)
    → HasRun cs content settled content' settled' reports → EndsFrom c content' settled' content'' settled'' report → HasRun (cs ++ c ∷ []) content settled content'' settled'' (reports ++ report ∷ [])
unfolding HasRun
has_run_more cs c content settled content' settled' content'' settled'' reports report has ends = λ v n holds.
    let h = has v n holds in
    let o = h.0 in
    let e = ends o.store o.count h.3 in
    let run = run_more cs c v n o e.1 h.1 e.0 e.2 in
    let told : o.reports ++ e.1.report ∷ [] ≡ map report_of (reports ++ report ∷ []) =
    ap (λ rs. rs ++ e.1.report ∷ []) h.2 ∙ ap (λ r. map report_of reports ++ r ∷ []) e.3 ∙ sym (map-append report_of reports (report ∷ [])) in
    (extended o e.1, run, told, e.4)

-- at first none has run
pub running_first : {D : Type 0} {g : Ghosts D} (cs : List CycleInput) (capacity : ℕ) (reports : List CycleReport) (d : D)
    → g.goes_on d d → reports ≡ [] → length cs ≤ capacity → Running g cs 0 capacity reports d d
running_first {g = g} cs capacity reports d self none room = record {
  lent = goes_self d self;
  count = ap length none;
  room = room;
  run = subst (λ (rs : List CycleReport). HasRun [] (g.content d) (g.settled d) (g.content d) (g.settled d) rs) (sym none) (has_run_none (g.content d) (g.settled d));
  past = past_none (g.content d) (g.settled d);
}

-- what stands past the image, after cycles that have run
pub past_ran : (cs : List CycleInput) (content content' content'' : Option (List ℕ)) (settled settled' settled'' : ℕ → Bool) (reports : List CycleReport) → LeavesPast content settled content' settled' → HasRun cs content settled content' settled' reports
    → LeavesPast content' settled' content'' settled'' → LeavesPast content settled content'' settled''
unfolding HasRun
past_ran cs content content' content'' settled settled' settled'' reports first has second = past_then content content' content'' settled settled' settled'' first
    (λ v n holds. let h = has v n holds in (h.0.store, h.0.count, h.3, run_header cs v n h.0 h.1)) second

-- one more cycle has run
pub running_more : {D : Type 0} {g : Ghosts D} (left : Leaving) (cs : List CycleInput) (c : CycleInput) (k capacity capacity' : ℕ) (reports reports' : List CycleReport) (report : CycleReport) (old mid new : D)
    → (g.goes_on old mid → g.goes_on mid new → g.goes_on old new) → Running g cs k capacity reports old mid → k < length cs → c ≡ get_or cs k c
    → RunsCycle g left c mid new (Ok report) → reports' ≡ reports ++ report ∷ [] → length cs ≤ capacity' → Running g cs (k + 1) capacity' reports' old new
running_more {g = g} left cs c k capacity capacity' reports reports' report old mid new again r below is ran put room =
    let first : take (k + 1) cs ≡ take k cs ++ c ∷ [] = rw (add-one k) (take-suc cs k c below ∙ ap (λ (x : CycleInput). take k cs ++ x ∷ []) (sym is)) in
    let has = has_run_more (take k cs) c (g.content old) (g.settled old) (g.content mid) (g.settled mid) (g.content new) (g.settled new) reports report r.run ran.ran in
    let count = r.count in
    record {
      lent = goes_again old mid new again r.lent ran.lent;
      count = ap length put ∙ grind (arith, length-append, count);
      room = room;
      run = subst (λ (x : List CycleInput). HasRun x (g.content old) (g.settled old) (g.content new) (g.settled new) reports') (sym first) (subst (λ (x : List CycleReport). HasRun (take k cs ++ c ∷ []) (g.content old) (g.settled old) (g.content new) (g.settled new) x) (sym put) has);
      past = past_ran (take k cs) (g.content old) (g.content mid) (g.content new) (g.settled old) (g.settled mid) (g.settled new) reports r.past r.run ran.past;
    }

-- the next cycle finds no number left
pub ends_spent : (cs : List CycleInput) (k : ℕ) (content : Option (List ℕ)) (settled : ℕ → Bool) (content' : Option (List ℕ)) (settled' : ℕ → Bool) (content'' : Option (List ℕ)) (settled'' : ℕ → Bool) (reports : List CycleReport) (e : StartFault)
    → HasRun (take k cs) content settled content' settled' reports → k < length cs → IsTrulySpent content' settled' content'' settled'' e → EndsSpent cs content settled content'' settled'' e
unfolding HasRun IsTrulySpent EndsSpent
ends_spent cs k content settled content' settled' content'' settled'' reports e has below truly = λ spent v n holds.
    let h = has v n holds in
    let t = truly spent h.0.store h.0.count h.3 in
    (h.0, record { p = k; within = below; run = h.1; full = t.0 }, t.1)

-- a device that held banks and a count before these cycles isn't refused after them
pub ends_refused : (cs : List CycleInput) (content : Option (List ℕ)) (settled : ℕ → Bool) (content' : Option (List ℕ)) (settled' : ℕ → Bool) (reports : List CycleReport) (e : StartFault)
    → HasRun cs content settled content' settled' reports → IsTrulyRefused content' settled' e → IsTrulyRefused content settled e
unfolding HasRun IsTrulyRefused
ends_refused cs content settled content' settled' reports e has truly = λ refused v n holds.
    let h = has v n holds in truly refused h.0.store h.0.count h.3

-- ---- a run that ends early

-- for want of memory before the first cycle
pub ends_at_once : {D : Type 0} {g : Ghosts D} (Wants : ByAnswer StartFault) (cs : List CycleInput) (d : D) (r : Result (Vec CycleReport Global) StartFault)
    → g.goes_on d d → Between g Wants d d fault.OutOfMemory → r ≡ Err fault.OutOfMemory → RunsTo g (HaveRun cs) (EndsSpent cs) Wants (LeavesReached cs) d d r
ends_at_once {g = g} Wants cs d r self wants is = subst (λ (x : Result (Vec CycleReport Global) StartFault). RunsTo g (HaveRun cs) (EndsSpent cs) Wants (LeavesReached cs) d d x) (sym is) (record {
  lent = goes_self d self;
  ran = tt;
  refused = memory_refused (g.content d) (g.settled d);
  short = memory_short (g.extent d);
  fault = λ device. absurd device;
  spent = memory_spent cs (g.content d) (g.settled d) (g.content d) (g.settled d);
  memory = wants;
  left = reached_none cs (g.content d) (g.settled d);
  past = past_none (g.content d) (g.settled d);
})

-- in the next cycle
pub ends_in_next : {D : Type 0} {g : Ghosts D} (left : Leaving) (Wants : ByAnswer StartFault) (cs : List CycleInput) (c : CycleInput) (k capacity : ℕ) (reports : List CycleReport) (old mid new : D) (e : StartFault) (r : Result (Vec CycleReport Global) StartFault)
    → (g.goes_on old mid → g.goes_on mid new → g.goes_on old new) → Running g cs k capacity reports old mid → k < length cs → c ≡ get_or cs k c
    → RunsCycle g left c mid new (Err e)
    → (HasRun (take k cs) (g.content old) (g.settled old) (g.content mid) (g.settled mid) reports → k < length cs → Between g (WantLeaves left) mid new e → Between g Wants old new e)
    → r ≡ Err e → RunsTo g (HaveRun cs) (EndsSpent cs) Wants (LeavesReached cs) old new r
ends_in_next {g = g} left Wants cs c k capacity reports old mid new e r again so_far below which failed wants is = subst (λ (x : Result (Vec CycleReport Global) StartFault). RunsTo g (HaveRun cs) (EndsSpent cs) Wants (LeavesReached cs) old new x) (sym is) (record {
  lent = goes_again old mid new again so_far.lent failed.lent;
  ran = tt;
  refused = ends_refused (take k cs) (g.content old) (g.settled old) (g.content mid) (g.settled mid) reports e so_far.run failed.refused;
  short = subst (λ (size : ℕ). IsTrulyShort size e) so_far.lent.size failed.short;
  fault = λ device. rose_again (g.faults old) (g.faults mid) (g.faults new) so_far.lent.later (failed.fault device);
  spent = ends_spent cs k (g.content old) (g.settled old) (g.content mid) (g.settled mid) (g.content new) (g.settled new) reports e so_far.run below failed.spent;
  memory = wants so_far.run below failed.memory;
  left = reached_more cs k c (g.content old) (g.settled old) (g.content mid) (g.settled mid) (g.content new) (g.settled new) reports so_far.run below which failed.left;
  past = past_ran (take k cs) (g.content old) (g.content mid) (g.content new) (g.settled old) (g.settled mid) (g.settled new) reports so_far.past so_far.run failed.past;
})
