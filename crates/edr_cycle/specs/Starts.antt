-- What a start says of its causes and of time.
use Rattle.std.specs.Prelude.{◌≡◌, ◌≢◌, ◌⊎◌, ◌+◌, ◌-◌, ◌≤◌, ◌<◌, ◌↔◌, ℕ, Bool, Option, Some, List, Result, Err, IfOk, IfErr, OnOk, OnErr}
use Rattle.std.specs.Option.{ForSome}
use Rattle.edr_items.specs.SensorLists.{SensorLists}
use Rattle.edr_device.specs.Device.{Elapses, IsQuiet, MayLeave, Unchanged}
use Rattle.edr_device.specs.Faults.{Rose, last_number}
use Rattle.edr_device.specs.Lent.{At, GoesOn, Meanwhile}
use Rattle.edr_device.specs.declared.device.Nvm.{Ghosts}
use Rattle.edr_image.specs.declared.OpenFault.{OpenFault}
use Rattle.edr_image.specs.declared.places.TheConstants.{FRONT_SIZE}
use Rattle.edr_image.specs.Image.{View, image_size, view_of}
use Rattle.edr_image.specs.Kept.{IsKept}
use Rattle.edr_image.specs.Reports.{StartStopped}
use Rattle.edr_gates.specs.Found.{IsFound}
use Rattle.edr_banks.specs.Opening.{RefusesRightly, TellsView}
use Rattle.edr_run.specs.Cycle.{last_count}
use Rattle.edr_cycle.specs.Begun.{Begun, view_before, view_begun}
use Rattle.edr_cycle.specs.Counter.{IsCountAfterStop, SaysWith}
use Rattle.edr_cycle.specs.Ends.{ComesTo, cycle_with}
use Rattle.edr_image.specs.declared.OpenFault.TheVariants as open_fault
use Rattle.edr_cycle.specs.declared.started.StartFault.{StartFault}
use Rattle.edr_cycle.specs.declared.started.StartFault.TheVariants.{Open, Spent, StoreFault, OutOfMemory}

-- the device failed, in the opening or later
abbrev pub IsDeviceFault : StartFault → Type 0
IsDeviceFault (Open o) = o ≡ open_fault.StoreFault
IsDeviceFault Spent = ⊥
IsDeviceFault StoreFault = Unit {0}
IsDeviceFault OutOfMemory = ⊥

-- the banks were opened
abbrev pub HasOpened : StartFault → Type 0
HasOpened (Open o) = ⊥
HasOpened Spent = Unit {0}
HasOpened StoreFault = Unit {0}
HasOpened OutOfMemory = Unit {0}

-- no changing call was made
abbrev pub IsEarly : StartFault → Type 0
IsEarly (Open o) = Unit {0}
IsEarly Spent = Unit {0}
IsEarly StoreFault = ⊥
IsEarly OutOfMemory = Unit {0}

-- the bytes have a count, which is the greatest exactly where no number is left
abbrev pub IsSpentRightly : StartFault → List ℕ → Type 0
IsSpentRightly e bytes = (v : View) × (view_of bytes ≡ Some v) × (v.count ≤ last_count) × ((e ≡ Spent) ↔ (v.count ≡ last_count))

-- a size that is told as too short is the device's, and less than what is needed
abbrev pub TellsShort : ℕ → StartFault → Type 0
TellsShort extent e = (size needed : ℕ) → e ≡ Open (open_fault.Short size needed) → (size ≡ extent) × (size < needed)

-- ---- a count, on a device that tells bytes of this view and on which nothing is pending

-- the image says the same with this count, and nothing is pending again
abbrev pub CountsTo : {D : Type 0} → Ghosts D → (List ℕ → View → Type 0) → ℕ → D → D → Type 0
CountsTo g is next old new = (bytes : List ℕ) (v : View) → At g (IsFound v) old bytes → is bytes v → (now : List ℕ) × At g IsQuiet new now × SaysWith next bytes v now

-- a crash after it leaves what a stop in its last call may leave
abbrev pub LeavesCounted : {D : Type 0} → Ghosts D → (List ℕ → View → Type 0) → ℕ → D → D → Type 0
LeavesCounted g is next old new = (bytes image : List ℕ) (v : View) → At g (IsFound v) old bytes → is bytes v → At g MayLeave new image → IsCountAfterStop (g.clock new - g.clock old) next bytes v image

-- a crash meanwhile leaves the count as it was, or this one
abbrev pub MeanwhileCounted : {D : Type 0} → Ghosts D → (List ℕ → View → Type 0) → ℕ → D → D → Type 0
MeanwhileCounted g is next old new = (bytes : List ℕ) (v : View) → At g (IsFound v) old bytes → is bytes v → Meanwhile g old new (IsCountAfterStop 6 next bytes v)

-- ---- a start

-- no call was counted, and nothing is changed
abbrev pub StandsStill : {D : Type 0} → Ghosts D → D → D → Type 0
StandsStill g old new = (g.clock new ≡ g.clock old) × (g.last_good new ≡ g.last_good old) × Unchanged g.content g.settled g.since old new

-- what was found, with one more on the count, is what stands now
abbrev pub CountsOne : {D : Type 0} → Ghosts D → View → D → D → Type 0
CountsOne g w old new = (bytes : List ℕ) (v : View) → At g (IsFound v) old bytes → (now : List ℕ) × At g (IsFound w) new now × SaysWith (v.count + 1) bytes v now

-- Six writes and syncs, or fewer where one fails. `now` is the clock after them, and `good'` the last good moment. Unless the clock stands
-- at its last value, nothing follows the one that failed.
pub record MakesSix {T E : Type 0} (before now good' : ℕ) (result : Result T E) : Type 0 where
  pub later : before ≤ now
  pub ok : OnOk result ((now ≡ before + 6) × (good' ≡ now))
  pub few : OnErr result (now ≤ before + 6)
  pub last : OnErr result (now ≢ before → now ≢ last_number → (now ≡ before + 1) ⊎ (now ≡ good' + 1))

-- A start, whose changing calls may have been stopped: what it leaves of time and of the device. The words of the device come first, as
-- functions of it.
pub record MeetsStart {D T E : Type 0} (content : D → Option (List ℕ)) (settled : D → ℕ → Bool) (since : D → ℕ → List ℕ → Type 0) (clock good : D → ℕ) (result : Result T E) (d d' : D) : Type 0 where
  pub time : MakesSix (clock d) (clock d') (good d') result
  -- after a fault in call r a crash leaves what a stop in that call may leave
  pub stopped : OnErr result ((bytes image : List ℕ) (v : View) → IsFound v (content d) (settled d) bytes → MayLeave (content d') (settled d') image → IsCountAfterStop (clock d' - clock d) (v.count + 1) bytes v image)
  -- an end of a cycle with that stop in its start
  pub cut : OnErr result ((bytes image : List ℕ) (v : View) (f : SensorLists) → IsFound v (content d) (settled d) bytes → MayLeave (content d') (settled d') image → 1 ≤ clock d' - clock d
      → ComesTo (cycle_with (clock d' - clock d) f 0) v.store v.count (StartStopped (clock d' - clock d)) image)
  -- a crash meanwhile leaves the banks, and the count or one more
  pub any_moment : (bytes : List ℕ) (v : View) → IsFound v (content d) (settled d) bytes → Elapses (clock d) (since d) (since d') (IsCountAfterStop 6 (v.count + 1) bytes v)
  pub each : (bytes image : List ℕ) (v : View) → IsFound v (content d) (settled d) bytes → since d' (clock d) image → IsCountAfterStop 6 (v.count + 1) bytes v image
  -- and what was kept stays so
  pub kept : (bytes image : List ℕ) → IsQuiet (content d) (settled d) bytes → IsKept bytes → since d' (clock d) image → IsKept image

-- the same of a memory
abbrev pub MeetsStartOn : {D T E : Type 0} → Ghosts D → Result T E → D → D → Type 0
MeetsStartOn g result d d' = MeetsStart g.content g.settled g.since g.clock g.last_good result d d'

-- ---- the outcome of a start, in one record

-- At Ok the banks are those that were found, and the number is one more than the count; a fault tells its cause.
pub record FindsCycle {D : Type 0} (g : Ghosts D) (most : ℕ) (old new : D) (result : Result Begun StartFault) : Type 0 where
  pub ticks : IfOk result (λ s. s.ticks ≡ most)
  pub found : IfOk result (λ s. TellsView (g.content old) (view_before s))
  pub number : IfOk result (λ s. (1 ≤ s.number) × (s.number ≤ last_count))
  pub fits : IfOk result (λ s. image_size s.banks.store.header.banks ≤ g.extent old)
  pub refused : IfErr result (λ e. (o : OpenFault) → e ≡ Open o → RefusesRightly (g.content old) o)
  pub short : g.extent old < FRONT_SIZE → result ≡ Err (Open (open_fault.Short (g.extent old) FRONT_SIZE))
  pub sizes : IfErr result (TellsShort (g.extent old))
  pub spent : IfErr result (λ e. HasOpened e → ForSome (g.content old) (IsSpentRightly e))
  pub fault : IfErr result (λ e. IsDeviceFault e → Rose (g.faults old) (g.faults new))

-- Whatever comes of it, the memory goes on. At Ok its count is the number; any fault but one of the device after the opening comes
-- before the first changing call.
pub record Starts {D : Type 0} (g : Ghosts D) (most : ℕ) (old new : D) (result : Result Begun StartFault) : Type 0 where
  pub lent : GoesOn g old new
  pub finds : FindsCycle g most old new result
  pub made : IfOk result (λ s. CountsOne g (view_begun s) old new)
  pub early : IfErr result (λ e. IsEarly e → StandsStill g old new)
  pub cycle : MeetsStartOn g result old new
