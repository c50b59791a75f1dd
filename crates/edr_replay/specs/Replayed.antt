-- What a run of cycles leaves on the memory of the records, and why one ends early.
use Rattle.std.specs.Prelude.{◌≡◌, ◌≢◌, ◌⊎◌, ◌+◌, ◌<◌, ℕ, Bool, List, Option, Some, Result, IfOk, IfErr, Vec, length, map, take}
use Rattle.std.specs.declared.alloc.Global.{Global}
use Rattle.edr_device.specs.Device.{MayLeave}
use Rattle.edr_device.specs.Faults.{Rose}
use Rattle.edr_device.specs.Lent.{At, Between, GoesOn}
use Rattle.edr_device.specs.declared.device.Nvm.{Ghosts}
use Rattle.edr_image.specs.declared.places.TheConstants.{FRONT_SIZE}
use Rattle.edr_image.specs.declared.log.CycleReport.{CycleReport}
use Rattle.edr_image.specs.Reports.{report_of}
use Rattle.edr_image.specs.declared.OpenFault.TheVariants as open_fault
use Rattle.edr_image.specs.Banks.{Store}
use Rattle.edr_image.specs.Image.{View, view_of}
use Rattle.edr_gates.specs.Found.{Holds}
use Rattle.edr_spell.specs.declared.CycleInput.{CycleInput}
use Rattle.edr_run.specs.Cycle.{End, Outcome, IsCycle, IsRun, last_count}
use Rattle.edr_replay.specs.Past.{LeavesPast}
use Rattle.edr_replay.specs.Reached.{IsCutShort, IsLeftOfCycle, IsReached, RanFirst}
use Rattle.edr_cycle.specs.Starts.{IsDeviceFault}
use Rattle.edr_cycle.specs.declared.started.StartFault.{StartFault}
use Rattle.edr_cycle.specs.declared.started.StartFault.TheVariants as fault

-- the image is refused by what it says
abbrev pub IsStartRefusal : StartFault → Type 0
IsStartRefusal (fault.Open f) = (f ≢ open_fault.StoreFault) × (f ≢ open_fault.OutOfMemory)
IsStartRefusal fault.Spent = ⊥
IsStartRefusal fault.StoreFault = ⊥
IsStartRefusal fault.OutOfMemory = ⊥

-- a fault that says that no number is left says it truly, and the device holds what it held
unfoldable pub IsTrulySpent : Option (List ℕ) → (ℕ → Bool) → Option (List ℕ) → (ℕ → Bool) → StartFault → Type 0
IsTrulySpent content settled content' settled' e = e ≡ fault.Spent → (v : Store) (n : ℕ) → Holds content settled v n → (n ≡ last_count) × Holds content' settled' v n

-- a device that holds banks and a count is not refused
unfoldable pub IsTrulyRefused : Option (List ℕ) → (ℕ → Bool) → StartFault → Type 0
IsTrulyRefused content settled e = IsStartRefusal e → (v : Store) (n : ℕ) → ¬ Holds content settled v n

-- a size that is told as too short is the device's, and less than what is needed: the front, or more for its banks
abbrev pub IsShortOf : ℕ → ℕ → ℕ → Type 0
IsShortOf extent size needed = (size ≡ extent) × (size < needed) × (extent < FRONT_SIZE → needed ≡ FRONT_SIZE)

unfoldable pub IsTrulyShort : ℕ → StartFault → Type 0
IsTrulyShort extent e = (size needed : ℕ) → e ≡ fault.Open (open_fault.Short size needed) → IsShortOf extent size needed

-- the cycles before one that finds no count left ran to this outcome
pub record RanToTheLast (cs : List CycleInput) (v : Store) (n : ℕ) (o : Outcome) : Type 0 where
  pub p : ℕ
  pub within : p < length cs
  pub run : IsRun (take p cs) v n o
  pub full : o.count ≡ last_count

-- the cycle ran as its report tells, and the device holds what it came to
abbrev pub HasRunCycle : CycleInput → Option (List ℕ) → (ℕ → Bool) → Option (List ℕ) → (ℕ → Bool) → CycleReport → Type 0
HasRunCycle c content settled content' settled' report =
    (v : Store) (n : ℕ) → Holds content settled v n
    → (n < last_count) × (e : End) × IsCycle c v n e × (e.report ≡ report_of report) × Holds content' settled' e.store e.count

-- the cycles ran as these reports tell, and the device holds what they came to
unfoldable pub HasRun : List CycleInput → Option (List ℕ) → (ℕ → Bool) → Option (List ℕ) → (ℕ → Bool) → List CycleReport → Type 0
HasRun cs content settled content' settled' reports =
    (v : Store) (n : ℕ) → Holds content settled v n
    → (o : Outcome) × IsRun cs v n o × (o.reports ≡ map report_of reports) × Holds content' settled' o.store o.count

-- a fault that says that no number is left says it truly of the count after some first cycles, which the device holds
unfoldable pub EndsSpent : List CycleInput → Option (List ℕ) → (ℕ → Bool) → Option (List ℕ) → (ℕ → Bool) → StartFault → Type 0
EndsSpent cs content settled content' settled' e =
    e ≡ fault.Spent → (v : Store) (n : ℕ) → Holds content settled v n
    → (o : Outcome) × RanToTheLast cs v n o × Holds content' settled' o.store o.count

-- each image that a crash may leave says banks and a count that are left of a cycle over what was held
unfoldable pub LeavesPart : CycleInput → Option (List ℕ) → (ℕ → Bool) → Option (List ℕ) → (ℕ → Bool) → Type 0
LeavesPart c content settled content' settled' =
    (v : Store) (n : ℕ) → Holds content settled v n → (image : List ℕ) → MayLeave content' settled' image
    → (w : View) × (view_of image ≡ Some w) × IsLeftOfCycle c v n w.store w.count

-- each image that a crash may leave says banks and a count that a run of these cycles reaches
unfoldable pub LeavesReached : List CycleInput → Option (List ℕ) → (ℕ → Bool) → Option (List ℕ) → (ℕ → Bool) → Type 0
LeavesReached cs content settled content' settled' =
    (v : Store) (n : ℕ) → Holds content settled v n → (image : List ℕ) → MayLeave content' settled' image
    → (w : View) × (view_of image ≡ Some w) × IsReached cs v n w.store w.count

-- there was no memory
abbrev pub IsMemory : StartFault → Type 0
IsMemory (fault.Open f) = f ≡ open_fault.OutOfMemory
IsMemory fault.Spent = ⊥
IsMemory fault.StoreFault = ⊥
IsMemory fault.OutOfMemory = Unit {0}

-- want of memory leaves what some first cycles came to
unfoldable pub EndsShort : List CycleInput → Option (List ℕ) → (ℕ → Bool) → Option (List ℕ) → (ℕ → Bool) → StartFault → Type 0
EndsShort cs content settled content' settled' e =
    IsMemory e → (v : Store) (n : ℕ) → Holds content settled v n
    → (p : ℕ) × (o : Outcome) × RanFirst cs v n p o × Holds content' settled' o.store o.count

-- ---- a run by threads, which takes memory after a start too

-- want of memory leaves what some first cycles came to, or these and the start of the next one
unfoldable pub EndsCutShort : List CycleInput → Option (List ℕ) → (ℕ → Bool) → Option (List ℕ) → (ℕ → Bool) → StartFault → Type 0
EndsCutShort cs content settled content' settled' e =
    IsMemory e → (v : Store) (n : ℕ) → Holds content settled v n
    → (w : Store) × (m : ℕ) × IsCutShort cs v n w m × Holds content' settled' w m

-- ---- the outcome of a run, in one record

-- what is so of a memory before a run and after it, by the answer
abbrev pub ByAnswer : Type 0 → Type 1
ByAnswer A = Option (List ℕ) → (ℕ → Bool) → Option (List ℕ) → (ℕ → Bool) → A → Type 0

-- Whatever comes of it, the memory goes on, and what stands past its image stays. An answer tells what ran. A fault tells its
-- cause; where no number was left or no memory these are left, and each image that a crash may leave is one of these.
pub record RunsTo {R D : Type 0} (g : Ghosts D) (Ran : ByAnswer R) (Spent Memory : ByAnswer StartFault) (Leaves : Option (List ℕ) → (ℕ → Bool) → Option (List ℕ) → (ℕ → Bool) → Type 0) (old new : D) (result : Result R StartFault) : Type 0 where
  pub lent : GoesOn g old new
  pub ran : IfOk result (Between g Ran old new)
  pub refused : IfErr result (At g IsTrulyRefused old)
  pub short : IfErr result (IsTrulyShort (g.extent old))
  pub fault : IfErr result (λ e. IsDeviceFault e → Rose (g.faults old) (g.faults new))
  pub spent : IfErr result (Between g Spent old new)
  pub memory : IfErr result (Between g Memory old new)
  pub left : IfErr result (λ _. Between g Leaves old new)
  pub past : Between g LeavesPast old new

-- what is left of banks v with the count n
abbrev pub Leaving : Type 1
Leaving = Store → ℕ → Option (List ℕ) → (ℕ → Bool) → Type 0

-- they are left as they were; threads take memory after a start too, which may have counted one more
abbrev pub LeftAlone : Leaving
LeftAlone v n content settled = Holds content settled v n

abbrev pub LeftOrCounted : Leaving
LeftOrCounted v n content settled = Holds content settled v n ⊎ ((n < last_count) × Holds content settled v (n + 1))

-- want of memory leaves this of what was held
unfoldable pub WantLeaves : Leaving → ByAnswer StartFault
WantLeaves left content settled content' settled' e = IsMemory e → (v : Store) (n : ℕ) → Holds content settled v n → left v n content' settled'

-- one cycle, in a way of which want of memory leaves this
abbrev pub RunsCycle : {D : Type 0} → Ghosts D → Leaving → CycleInput → D → D → Result CycleReport StartFault → Type 0
RunsCycle g left c old new result = RunsTo g (HasRunCycle c) IsTrulySpent (WantLeaves left) (LeavesPart c) old new result

-- these cycles
abbrev pub HaveRun : List CycleInput → ByAnswer (Vec CycleReport Global)
HaveRun cs content settled content' settled' reports = HasRun cs content settled content' settled' reports.items

abbrev pub Replays : {D : Type 0} → Ghosts D → List CycleInput → D → D → Result (Vec CycleReport Global) StartFault → Type 0
Replays g cs old new result = RunsTo g (HaveRun cs) (EndsSpent cs) (EndsShort cs) (LeavesReached cs) old new result

abbrev pub Drives : {D : Type 0} → Ghosts D → List CycleInput → D → D → Result (Vec CycleReport Global) StartFault → Type 0
Drives g cs old new result = RunsTo g (HaveRun cs) (EndsSpent cs) (EndsCutShort cs) (LeavesReached cs) old new result
