-- What a cycle that was started leaves of the device, of time and in its log.
use Rattle.std.specs.Prelude.{◌≡◌, ◌≢◌, ◌⊎◌, ◌+◌, ◌-◌, ◌≤◌, ◌<◌, ℕ, Bool, true, false, Option, Some, None, List, [], ◌++◌, flat_map, map, take, length, slice_get, Contains}
use Rattle.std.specs.Option.{option_map_or}
use Rattle.edr_items.specs.SensorLists.{SensorLists}
use Rattle.edr_device.specs.Device.{Elapses, IsQuiet, MayLeave}
use Rattle.edr_device.specs.Faults.{last_number}
use Rattle.edr_device.specs.declared.device.Nvm.{Ghosts}
use Rattle.edr_record.specs.Parts.{CrashPart}
use Rattle.edr_record.specs.declared.Record.{Record}
use Rattle.edr_record.specs.declared.Command.TheVariants as command
use Rattle.edr_image.specs.declared.Ack.{Ack}
use Rattle.edr_image.specs.declared.BankView.TheVariants.{Event}
use Rattle.edr_image.specs.Banks.{Store}
use Rattle.edr_image.specs.Calls.{all_calls}
use Rattle.edr_image.specs.Image.{View, view_of}
use Rattle.edr_image.specs.Kept.{AreKept}
use Rattle.edr_image.specs.Reports.{Report, Ran}
use Rattle.edr_image.specs.Steps.{BankStep, Reply}
use Rattle.edr_gates.specs.Found.{IsFound}
use Rattle.edr_spell.specs.declared.CycleInput.{CycleInput}
use Rattle.edr_run.specs.Cycle.{IsCycle, acks_before, acks_in, issues_in, replies_in, steps_in}
use Rattle.edr_run.specs.Own.{IsRecordOf}
use Rattle.edr_cycle.specs.Commits.{IsAfterFirst, SaysAfter}
use Rattle.edr_cycle.specs.Past.{KeepsPast}

-- the cycle over these feeds with a stop in call j of its start and one in call k of its commands; 0 is none
abbrev pub cycle_with : ℕ → SensorLists → ℕ → CycleInput
cycle_with j f k = record { start_stop = j; feeds = f; stop = k }

-- the image has a view to which a cycle over the banks v with the count n may come, with this report
pub record ComesTo (c : CycleInput) (v : Store) (n : ℕ) (report : Report) (image : List ℕ) : Type 0 where
  pub view : View
  pub view_is : view_of image ≡ Some view
  pub cycle : IsCycle c v n (record { report = report; store = view.store; count = view.count })

-- ---- what is acknowledged

-- the steps of the first j commands
abbrev pub steps_before : List Reply → ℕ → List BankStep
steps_before rs j = flat_map (λ r. r.steps) (take j rs)

-- the steps of the command in place j, if there is one
abbrev pub steps_at : List Reply → ℕ → List BankStep
steps_at rs j = option_map_or (λ r. r.steps) (slice_get rs j) []

-- the first j commands have all their steps, the next one has its first q steps, and no other has any
pub record FirstSteps (rs : List Reply) (j : ℕ) (done : List BankStep) : Type 0 where
  pub q : ℕ
  pub within : q ≤ length (steps_at rs j)
  pub steps : done ≡ steps_before rs j ++ take q (steps_at rs j)

-- the steps are those of all commands that are acknowledged by changing call k of the cycle, with first ones of the next
abbrev pub AreDoneByCall : SensorLists → ℕ → Store → ℕ → List BankStep → Type 0
AreDoneByCall f n v k done = FirstSteps (replies_in f n v) (length (acks_before f n v k)) done

-- the image has these steps
pub record HasFirst (rs : List Reply) (j : ℕ) (v : View) (image : List ℕ) : Type 0 where
  pub done : List BankStep
  pub first : FirstSteps rs j done
  pub says : SaysAfter v done image

-- ---- what stands in the banks

-- the image has the locked events of the banks v; each of its events stood there or is of the cycle n; each crash part stood in that
-- record or is one that a Done of the cycle gives; and what was kept is kept
pub record KeepsEvents (f : SensorLists) (n : ℕ) (v : Store) (image : List ℕ) : Type 0 where
  pub view : View
  pub view_is : view_of image ≡ Some view
  pub locked : (i : ℕ) (r : Record) → slice_get v.banks i ≡ Some (Event r) → r.locked ≡ true → slice_get view.store.banks i ≡ Some (Event r)
  pub own : (i : ℕ) (r : Record) → slice_get view.store.banks i ≡ Some (Event r) → (slice_get v.banks i ≡ Some (Event r)) ⊎ IsRecordOf f n r
  pub crash_parts : (i : ℕ) (r : Record) (crash : CrashPart) → slice_get view.store.banks i ≡ Some (Event r) → r.crash ≡ Some crash
      → (slice_get v.banks i ≡ Some (Event r)) ⊎ Contains (map (λ x. x.command) (issues_in f n)) (command.Done crash)
  pub kept : AreKept v.banks (n - 1) → AreKept view.store.banks view.count

-- ---- the whole of it

-- The cycle with the number n over the feeds f and the banks v, which ended without a fault, or where a command failed. The words of the
-- device come first, as functions of it.
pub record MeetsCycle {D : Type 0} (content : D → Option (List ℕ)) (settled : D → ℕ → Bool) (since : D → ℕ → List ℕ → Type 0) (clock good : D → ℕ) (f : SensorLists) (n : ℕ) (v : Store) (failed : Bool) (acks : List Ack) (d d' : D) : Type 0 where
  -- without a fault just the calls of all steps were made, the last of them was good, and all commands are in the log
  pub calls_of_all : failed ≡ false → clock d' ≡ clock d + all_calls (steps_in f n v)
  pub good_at_end : failed ≡ false → 0 < all_calls (steps_in f n v) → good d' ≡ clock d'
  pub log_of_all : failed ≡ false → acks ≡ acks_in f n v
  -- nothing is pending then
  pub quiet_at_end : failed ≡ false → (bytes : List ℕ) → IsFound (record { store = v; count = n }) (content d) (settled d) bytes → (now : List ℕ) × IsQuiet (content d') (settled d') now × SaysAfter (record { store = v; count = n }) (steps_in f n v) now
  -- it came to an end of the cycle without a stop
  pub whole : failed ≡ false → (bytes image : List ℕ) → IsFound (record { store = v; count = n }) (content d) (settled d) bytes → MayLeave (content d') (settled d') image → ComesTo (cycle_with 0 f 0) v (n - 1) (Ran n None acks) image
  -- with a fault no call was made past it, and the log ends before the command that failed
  pub calls_up_to : failed ≡ true → clock d' ≤ clock d + all_calls (steps_in f n v)
  pub some_call : failed ≡ true → clock d' ≢ last_number → clock d < clock d'
  pub last_call : failed ≡ true → clock d' ≢ last_number → (clock d' ≡ clock d + 1) ⊎ (clock d' ≡ good d' + 1)
  pub log_before : failed ≡ true → clock d' ≢ last_number → acks ≡ acks_before f n v (clock d' - clock d)
  pub log_begins : failed ≡ true → (length acks < length (acks_in f n v)) × (acks ≡ take (length acks) (acks_in f n v))
  -- it came to an end of the cycle with its stop in the last call that was made
  pub cut : failed ≡ true → clock d' ≢ last_number → (bytes image : List ℕ) → IsFound (record { store = v; count = n }) (content d) (settled d) bytes → MayLeave (content d') (settled d') image → ComesTo (cycle_with 0 f (clock d' - clock d)) v (n - 1) (Ran n (Some (clock d' - clock d)) acks) image
  -- what is in the log is in each image, and the command after it is there with its first steps
  pub acknowledged : (bytes image : List ℕ) → IsFound (record { store = v; count = n }) (content d) (settled d) bytes → MayLeave (content d') (settled d') image → HasFirst (replies_in f n v) (length acks) (record { store = v; count = n }) image
  -- a crash meanwhile leaves the first steps
  pub any_moment : (bytes : List ℕ) → IsFound (record { store = v; count = n }) (content d) (settled d) bytes → Elapses (clock d) (since d) (since d') (IsAfterFirst (steps_in f n v) (record { store = v; count = n }))
  pub each : (bytes image : List ℕ) → IsFound (record { store = v; count = n }) (content d) (settled d) bytes → since d' (clock d) image → IsAfterFirst (steps_in f n v) (record { store = v; count = n }) image
  pub keeps : (bytes image : List ℕ) → IsFound (record { store = v; count = n }) (content d) (settled d) bytes → since d' (clock d) image → KeepsEvents f n v image
  -- and what stands past the image stays
  pub past : (bytes image : List ℕ) → IsFound (record { store = v; count = n }) (content d) (settled d) bytes → since d' (clock d) image → KeepsPast v.header bytes image

-- the same of a memory
abbrev pub MeetsCycleOn : {D : Type 0} → Ghosts D → SensorLists → ℕ → Store → Bool → List Ack → D → D → Type 0
MeetsCycleOn g f n v failed acks d d' = MeetsCycle g.content g.settled g.since g.clock g.last_good f n v failed acks d d'
