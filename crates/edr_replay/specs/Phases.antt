-- How the start and the commands of a cycle go, each up to its planned stop.
use Rattle.std.specs.Prelude.{◌≡◌, ◌⊎◌, ◌+◌, ◌≤◌, ◌<◌, ℕ, Bool, true, false, List, Option, Some, None, Result, IfOk, IfErr, OnErr}
use Rattle.edr_items.specs.SensorLists.{SensorLists}
use Rattle.edr_device.specs.Device.{MayLeave, Repowered}
use Rattle.edr_device.specs.Faults.{Rose}
use Rattle.edr_device.specs.Lent.{GoesOn}
use Rattle.edr_device.specs.declared.device.Nvm.{Ghosts}
use Rattle.edr_image.specs.declared.Ack.{Ack}
use Rattle.edr_image.specs.Banks.{Store}
use Rattle.edr_image.specs.Image.{image_size}
use Rattle.edr_image.specs.declared.log.CycleReport.{CycleReport}
use Rattle.edr_image.specs.Reports.{Ran, Report, report_of}
use Rattle.edr_run.specs.Cycle.{End, IsCycle, last_count}
use Rattle.edr_cycle.specs.Ends.{cycle_with}
use Rattle.edr_cycle.specs.declared.started.StartFault.{StartFault}
use Rattle.edr_cycle.specs.declared.started.StartFault.TheVariants as fault
use Rattle.edr_replay.specs.declared.phases.StartedCycle.{StartedCycle}
use Rattle.edr_replay.specs.declared.phases.StartedCycle.TheVariants.{Started, Stopped}
use Rattle.edr_replay.specs.Reached.{IsStopIn}
use Rattle.edr_replay.specs.Replayed.{LeftAlone, RunsTo, IsTrulySpent, WantLeaves}
use Rattle.edr_gates.specs.Found.{Holds, Says}

-- a start with this planned stop, 0 for none, was done, with the banks as before and one more on the count; or it was stopped,
-- and the count is as before, or from call 5 on perhaps one more
abbrev pub BeginsAs : StartedCycle → ℕ → ℕ → ℕ → Option (List ℕ) → (ℕ → Bool) → Option (List ℕ) → (ℕ → Bool) → Type 0
BeginsAs (Started s) stop ticks size content settled content' settled' =
    (stop ≡ 0) × (s.ticks ≡ ticks) × (image_size s.banks.store.header.banks ≤ size) × ((v : Store) (n : ℕ) → Holds content settled v n → (n < last_count) × (s.banks.store ≡ v) × (s.number ≡ n + 1) × Holds content' settled' v (n + 1))
BeginsAs Stopped stop ticks size content settled content' settled' =
    (1 ≤ stop) × ((v : Store) (n : ℕ) → Holds content settled v n → (n < last_count) × (Holds content' settled' v n ⊎ ((5 ≤ stop) × Holds content' settled' v (n + 1))))

-- the commands of a cycle with this planned stop, over the banks v with the count n, came to an end of it
abbrev pub RunsAs : Report → SensorLists → ℕ → Store → ℕ → Option (List ℕ) → (ℕ → Bool) → Type 0
RunsAs report f stop v n content' settled' =
    (e : End) × IsCycle (cycle_with 0 f stop) v n e × (e.report ≡ report) × Holds content' settled' e.store e.count

-- what is said of the report of a cycle that was started with this number on these banks
abbrev pub RunsFrom : SensorLists → ℕ → ℕ → Store → Option (List ℕ) → (ℕ → Bool) → Option (List ℕ) → (ℕ → Bool) → CycleReport → Type 0
RunsFrom f stop number store content settled content' settled' report =
    (n : ℕ) → number ≡ n + 1 → Holds content settled store number → RunsAs (report_of report) f stop store n content' settled'

-- what ended the commands of a cycle, which failed or were all done: the power was taken away after the last of them, or the fuse
-- had cut it as planned, or it is a fault
pub record EndsRun {D : Type 0} (g : Ghosts D) (stop number : ℕ) (failed cut : Bool) (acks : List Ack) (r : Result CycleReport StartFault) (old new : D) : Type 0 where
  pub lent : GoesOn g old new
  pub off : failed ≡ false → Repowered g.content g.settled g.since r old new
  pub fault : IfErr r (λ e. (e ≡ fault.StoreFault) × (failed ≡ false → Rose (g.faults old) (g.faults new)))
  pub stays : failed ≡ true → new ≡ old
  pub whole : IfOk r (λ report. failed ≡ false → report_of report ≡ Ran number None acks)
  pub stopped : IfOk r (λ report. failed ≡ true → (cut ≡ true) × (report_of report ≡ Ran number (Some stop) acks))
  pub unplanned : OnErr r (failed ≡ true → cut ≡ false)

-- ---- what a fault leaves

-- after a start that failed each image that a crash may leave says the banks, and the count as before, or where numbers are left
-- one more, as a stop in call 5 or 6 leaves it
unfoldable pub LeavesOfStart : Option (List ℕ) → (ℕ → Bool) → Option (List ℕ) → (ℕ → Bool) → Type 0
LeavesOfStart content settled content' settled' =
    (v : Store) (n : ℕ) → Holds content settled v n → (image : List ℕ) → MayLeave content' settled' image
    → Says image v n ⊎ ((n < last_count) × (j : ℕ) × (5 ≤ j) × (j ≤ 6) × Says image v (n + 1))

-- after commands that failed each of them says what a stop in one of their calls leaves, or an end of the cycle
unfoldable pub LeavesOfRun : SensorLists → ℕ → ℕ → Store → Option (List ℕ) → (ℕ → Bool) → Option (List ℕ) → (ℕ → Bool) → Type 0
LeavesOfRun f stop number store content settled content' settled' =
    (n : ℕ) → number ≡ n + 1 → Holds content settled store number → (image : List ℕ) → MayLeave content' settled' image
    → (e : End) × (IsStopIn (cycle_with 0 f stop) store n e ⊎ IsCycle (cycle_with 0 f stop) store n e) × Says image e.store e.count

-- ---- the outcome of a start

abbrev pub StartsUntil : {D : Type 0} → Ghosts D → ℕ → ℕ → D → D → Result StartedCycle StartFault → Type 0
StartsUntil g stop ticks old new result =
    RunsTo g (λ content settled content' settled' s. BeginsAs s stop ticks (g.extent old) content settled content' settled') IsTrulySpent (WantLeaves LeftAlone) LeavesOfStart old new result
