-- What the commands of a cycle over an armed fuse come to, whichever call ran them, once they are ended.
use Rattle.std.proofs.Common.{◌≡◌, ◌≢◌, ◌⊎◌, ◌≤◌, ◌<◌, ◌+◌, ◌-◌, ℕ, Bool, true, false, List, Some, None, Result, Ok, Err, IfOk, IfErr, refl, sym, subst, arith}
use Rattle.edr_items.specs.SensorLists.{AreFeeds, SensorLists}
use Rattle.edr_device.specs.Device.{MayLeave, StillTells}
use Rattle.edr_device.specs.Faults.{Rose, last_number}
use Rattle.edr_device.specs.FuseLaws.{fuse_counts_now}
use Rattle.edr_device.specs.FuseState.{FuseGoesOn, armed_for, fuse_state, fused_content, fused_extent, fused_settled, fused_since, new_fuse}
use Rattle.edr_device.specs.Lent.{GoesOn}
use Rattle.edr_device.specs.declared.device.Nvm.{Ghosts}
use Rattle.edr_device.specs.declared.fused.Fused.{Fused}
use Rattle.edr_image.specs.declared.Ack.{Ack}
use Rattle.edr_image.specs.declared.log.CycleReport.{CycleReport}
use Rattle.edr_image.specs.Banks.{Store}
use Rattle.edr_image.specs.Calls.{all_calls}
use Rattle.edr_image.specs.Reports.{Ran, report_of}
use Rattle.edr_run.specs.Cycle.{steps_in}
use Rattle.edr_cycle.specs.declared.started.StartFault.{StartFault}
use Rattle.edr_cycle.specs.declared.started.StartFault.TheVariants as fault
use Rattle.edr_cycle.specs.Ends.{MeetsCycle}
use Rattle.edr_replay.specs.Past.{LeavesPastOf}
use Rattle.edr_replay.specs.Phases.{EndsRun, LeavesOfRun, RunsFrom}
use Rattle.edr_replay.proofs.CycleLemmas.{rose_again}
use Rattle.edr_replay.proofs.FewCallLemmas.{calls_few}
use Rattle.edr_replay.proofs.LeavingLemmas.{leaves_cut, leaves_whole}
use Rattle.edr_replay.proofs.PastLemmas.{comes_leaves, past_fewer, stays_leaves}
use Rattle.edr_replay.proofs.RunPhaseLemmas.{past_last, runs_stopped, runs_whole, told_as}
use Rattle.edr_replay.proofs.StopLemmas.{IsPlanned, fuse_begins, fuse_planned, rose_inside, stop_is}

-- the commands of a cycle that a fuse was armed for
pub record RanFused {D : Type 0} {g : Ghosts D} (f : SensorLists) (stop number : ℕ) (store : Store) (failed cut : Bool) (acks : List Ack) (armed fuse : Fused D g) : Type 0 where
  pub feeds : AreFeeds f
  pub planned : IsPlanned stop (fuse_state fuse) (g.faults armed.nvm.now) (g.faults fuse.nvm.now)
  pub begins : armed.ticks ≡ 0
  pub size : fused_extent fuse ≡ fused_extent armed
  pub device : FuseGoesOn armed fuse
  pub tells : StillTells (fused_content armed) (fused_content fuse)
  pub cycle : MeetsCycle {D = Fused D g} fused_content fused_settled fused_since (λ x. x.ticks) (λ x. x.last_good) f number store failed acks armed fuse
  pub cause : failed ≡ true → Rose armed.faults fuse.faults
  pub is_cut : cut ≡ true → (fuse.spent ≡ true) × (fuse.broken ≡ false)
  pub not_cut : cut ≡ false → fuse.spent ≡ true → fuse.broken ≡ true

-- the commands over a fuse that was made for that stop
pub ran_fused : {D : Type 0} {g : Ghosts D} (f : SensorLists) (stop number : ℕ) (store : Store) (failed cut : Bool) (acks : List Ack) (armed fuse : Fused D g)
    → AreFeeds f → fuse_state armed ≡ armed_for stop new_fuse → fused_extent fuse ≡ fused_extent armed → FuseGoesOn armed fuse → StillTells (fused_content armed) (fused_content fuse)
    → MeetsCycle {D = Fused D g} fused_content fused_settled fused_since (λ x. x.ticks) (λ x. x.last_good) f number store failed acks armed fuse
    → (failed ≡ true → Rose armed.faults fuse.faults) → (cut ≡ true → (fuse.spent ≡ true) × (fuse.broken ≡ false)) → (cut ≡ false → fuse.spent ≡ true → fuse.broken ≡ true)
    → RanFused f stop number store failed cut acks armed fuse
ran_fused f stop number store failed cut acks armed fuse feeds arm size device tells cycle cause is_cut not_cut = record {
  feeds = feeds;
  planned = fuse_planned stop armed fuse arm device;
  begins = fuse_begins stop armed arm;
  size = size;
  device = device;
  tells = tells;
  cycle = cycle;
  cause = cause;
  is_cut = is_cut;
  not_cut = not_cut;
}

-- the device inside went on
pub fused_lent : {D : Type 0} {g : Ghosts D} (f : SensorLists) (stop number : ℕ) (store : Store) (failed cut : Bool) (acks : List Ack) (armed fuse : Fused D g)
    → RanFused f stop number store failed cut acks armed fuse → GoesOn g armed.nvm.now fuse.nvm.now
fused_lent f stop number store failed cut acks armed fuse run = record { size = run.size; device = run.device.inside; tells = run.tells; later = run.device.breaks.later }

-- what ended them, of the device that was lent, and by the number that was told
pub ended : {D : Type 0} (g : Ghosts D) (stop number told : ℕ) (failed cut : Bool) (acks : List Ack) (r : Result CycleReport StartFault) (mid now new : D) → mid ≡ now → told ≡ number
    → EndsRun g stop told failed cut acks r mid new → EndsRun g stop number failed cut acks r now new
ended g stop number told failed cut acks r mid now new here same ends =
    subst (λ (k : ℕ). EndsRun g stop k failed cut acks r now new) same (subst (λ d. EndsRun g stop told failed cut acks r d new) here ends)

-- a fuse under commands that failed did not come to its last number
low : {D : Type 0} {g : Ghosts D} (f : SensorLists) (stop number : ℕ) (store : Store) (cut : Bool) (acks : List Ack) (armed fuse : Fused D g) → RanFused f stop number store true cut acks armed fuse → fuse.ticks ≢ last_number
low f stop number store cut acks armed fuse run =
    let few = calls_few f number store run.feeds in
    let begins = run.begins in
    let upto : fuse.ticks ≤ armed.ticks + all_calls (steps_in f number store) = run.cycle.calls_up_to refl in
    omega (arith, upto, few, begins)

-- where they succeeded, the stop is none or past them
past_all : {D : Type 0} {g : Ghosts D} (f : SensorLists) (stop number : ℕ) (store : Store) (cut : Bool) (acks : List Ack) (armed fuse : Fused D g) → RanFused f stop number store false cut acks armed fuse
    → (stop ≡ 0) ⊎ (all_calls (steps_in f number store) < stop)
past_all f stop number store cut acks armed fuse run =
    past_last stop (all_calls (steps_in f number store)) armed.ticks (fuse_state fuse) _ _ run.planned run.begins (run.cycle.calls_of_all refl) (run.cycle.good_at_end refl)

-- the report is of an end of the cycle that the device holds
pub fused_ran : {D : Type 0} {g : Ghosts D} (f : SensorLists) (stop number : ℕ) (store : Store) (failed cut : Bool) (acks : List Ack) (armed fuse : Fused D g) (new : D) (r : Result CycleReport StartFault)
    → RanFused f stop number store failed cut acks armed fuse → EndsRun g stop number failed cut acks r fuse.nvm.now new
    → IfOk r (RunsFrom f stop number store (g.content armed.nvm.now) (g.settled armed.nvm.now) (g.content new) (g.settled new))
fused_ran f stop number store failed cut acks armed fuse new (Err e) run ends = tt
fused_ran {g = g} f stop number store false cut acks armed fuse new (Ok report) run ends = λ n next h.
    told_as (Ran number None acks) (report_of report) f stop store n (g.content new) (g.settled new) (ends.whole refl)
    (runs_whole f stop number store acks (g.content armed.nvm.now) (g.settled armed.nvm.now) (g.content fuse.nvm.now) (g.settled fuse.nvm.now) (g.content new) (g.settled new)
    (past_all f stop number store cut acks armed fuse run) run.tells (ends.off refl) (run.cycle.whole refl) n next h)
fused_ran {g = g} f stop number store true cut acks armed fuse new (Ok report) run ends =
    let told = ends.stopped refl in
    let is = run.is_cut told.0 in
    let below = low f stop number store cut acks armed fuse run in
    let last : (fuse.ticks ≡ armed.ticks + 1) ⊎ (fuse.ticks ≡ fuse.last_good + 1) = run.cycle.last_call refl below in
    let begins = run.begins in
    let at = stop_is stop (fuse_state fuse) _ _ run.planned is.0 (subst (λ (k : ℕ). (fuse.ticks ≡ k + 1) ⊎ (fuse.ticks ≡ fuse.last_good + 1)) begins last) in
    let calls : fuse.ticks - armed.ticks ≡ stop = omega (arith, at, begins) in
    subst (λ d. RunsFrom f stop number store (g.content armed.nvm.now) (g.settled armed.nvm.now) (g.content d) (g.settled d) report) (sym (ends.stays refl))
    (λ n next h. told_as (Ran number (Some stop) acks) (report_of report) f stop store n (g.content fuse.nvm.now) (g.settled fuse.nvm.now) told.1
    (runs_stopped f stop (fuse.ticks - armed.ticks) number store acks (g.content armed.nvm.now) (g.settled armed.nvm.now) (g.content fuse.nvm.now) (g.settled fuse.nvm.now) calls run.tells (fuse.quiet is.0 is.1)
    (run.cycle.cut refl below) n next h))

-- a fault is one of the device
pub fused_fault : {D : Type 0} {g : Ghosts D} (f : SensorLists) (stop number : ℕ) (store : Store) (failed cut : Bool) (acks : List Ack) (armed fuse : Fused D g) (new : D) (r : Result CycleReport StartFault)
    → RanFused f stop number store failed cut acks armed fuse → EndsRun g stop number failed cut acks r fuse.nvm.now new
    → IfErr r (λ e. (e ≡ fault.StoreFault) × Rose (g.faults armed.nvm.now) (g.faults new))
fused_fault f stop number store failed cut acks armed fuse new (Ok report) run ends = tt
fused_fault {g = g} f stop number store false cut acks armed fuse new (Err e) run ends =
    (ends.fault.0, rose_again (g.faults armed.nvm.now) (g.faults fuse.nvm.now) (g.faults new) run.device.breaks.later (ends.fault.1 refl))
fused_fault {g = g} f stop number store true cut acks armed fuse new (Err e) run ends =
    let few = calls_few f number store run.feeds in
    let begins = run.begins in
    let upto : fuse.ticks ≤ armed.ticks + all_calls (steps_in f number store) = run.cycle.calls_up_to refl in (
      ends.fault.0,
      subst (λ d. Rose (g.faults armed.nvm.now) (g.faults d)) (sym (ends.stays refl))
          (rose_inside stop (fuse_state fuse) _ _ armed.faults run.planned (run.cause refl) (omega (arith, upto, few, begins)) (run.not_cut (ends.unplanned refl))),
    )

-- what a fault leaves
pub fused_left : {D : Type 0} {g : Ghosts D} (f : SensorLists) (stop number : ℕ) (store : Store) (failed cut : Bool) (acks : List Ack) (armed fuse : Fused D g) (new : D) (r : Result CycleReport StartFault)
    → RanFused f stop number store failed cut acks armed fuse → EndsRun g stop number failed cut acks r fuse.nvm.now new
    → IfErr r (λ _. LeavesOfRun f stop number store (g.content armed.nvm.now) (g.settled armed.nvm.now) (g.content new) (g.settled new))
fused_left f stop number store failed cut acks armed fuse new (Ok report) run ends = tt
fused_left {g = g} f stop number store false cut acks armed fuse new (Err e) run ends =
    leaves_whole f stop number store acks (g.content armed.nvm.now) (g.settled armed.nvm.now) (g.content fuse.nvm.now) (g.settled fuse.nvm.now) (g.content new) (g.settled new) _ _
    (past_all f stop number store cut acks armed fuse run) (ends.off refl) (run.cycle.whole refl)
fused_left {g = g} f stop number store true cut acks armed fuse new (Err e) run ends =
    subst (λ d. LeavesOfRun f stop number store (g.content armed.nvm.now) (g.settled armed.nvm.now) (g.content d) (g.settled d)) (sym (ends.stays refl))
    (leaves_cut f stop (fuse.ticks - armed.ticks) number store acks (g.content armed.nvm.now) (g.settled armed.nvm.now) (g.content fuse.nvm.now) (g.settled fuse.nvm.now) (run.cycle.cut refl (low f stop number store cut acks armed fuse run)))

-- what stands past the image stays
pub fused_past : {D : Type 0} {g : Ghosts D} (f : SensorLists) (stop number : ℕ) (store : Store) (failed cut : Bool) (acks : List Ack) (armed fuse : Fused D g) (new : D) (r : Result CycleReport StartFault)
    → ((u : ℕ) (image : List ℕ) → u ≤ g.clock fuse.nvm.now → MayLeave (g.content fuse.nvm.now) (g.settled fuse.nvm.now) image → g.since fuse.nvm.now u image)
    → RanFused f stop number store failed cut acks armed fuse → EndsRun g stop number failed cut acks r fuse.nvm.now new
    → LeavesPastOf (record { store = store; count = number }) (g.content armed.nvm.now) (g.settled armed.nvm.now) (g.content new) (g.settled new)
fused_past {g = g} f stop number store true cut acks armed fuse new r counts run ends =
    subst (λ d. LeavesPastOf (record { store = store; count = number }) (g.content armed.nvm.now) (g.settled armed.nvm.now) (g.content d) (g.settled d)) (sym (ends.stays refl))
    (λ bytes image found may. run.cycle.past bytes image found (fuse_counts_now fuse armed.ticks image (λ u within left. counts u image within left) may))
fused_past {g = g} f stop number store false cut acks armed fuse new (Ok report) counts run ends =
    past_fewer (record { store = store; count = number }) (g.content armed.nvm.now) (g.content fuse.nvm.now) (g.content new) (g.settled armed.nvm.now) (g.settled fuse.nvm.now) (g.settled new)
    (λ image. comes_leaves (g.content fuse.nvm.now) (g.content new) (g.settled fuse.nvm.now) (g.settled new) image (ends.off refl))
    (λ bytes image found may. run.cycle.past bytes image found (fuse_counts_now fuse armed.ticks image (λ u within left. counts u image within left) may))
fused_past {g = g} f stop number store false cut acks armed fuse new (Err e) counts run ends =
    past_fewer (record { store = store; count = number }) (g.content armed.nvm.now) (g.content fuse.nvm.now) (g.content new) (g.settled armed.nvm.now) (g.settled fuse.nvm.now) (g.settled new)
    (λ image. stays_leaves (g.content fuse.nvm.now) (g.content new) (g.settled fuse.nvm.now) (g.settled new) _ _ image (ends.off refl))
    (λ bytes image found may. run.cycle.past bytes image found (fuse_counts_now fuse armed.ticks image (λ u within left. counts u image within left) may))
