-- The schedule of a cycle: items are given, ticks closed, and issued commands applied to the banks, in any order that is allowed.
use Rattle.std.specs.Prelude.{◌≡◌, ◌⊎◌, ◌+◌, ◌<◌, ◌≤◌, ℕ, Some, List, [], ◌∷◌, take, length, slice_get}
use Rattle.edr_items.specs.declared.Sensor.{Sensor}
use Rattle.edr_items.specs.declared.Item.{Item}
use Rattle.edr_items.specs.SensorLists.{SensorLists, AreFeeds, items_of, horizon_of, no_items}
use Rattle.edr_record.specs.declared.Command.{Command}
use Rattle.edr_definitions.specs.Commands.{commands}
use Rattle.edr_definitions.specs.Schedule.{Progress, Give, Close, BeginsWith, IsAllowed, after_step, IsOver}
use Rattle.edr_image.specs.Banks.{Store}
use Rattle.edr_image.specs.Calls.{IsStop, all_calls}
use Rattle.edr_image.specs.Steps.{State, BankStep, at_rest, after, reply_to, state_after, steps_of}
use Rattle.edr_run.specs.Cycle.{steps_in}

-- ---- where a cycle stands

-- what was given and closed, how many commands were issued and how many applied, and the banks
pub record ScheduleState : Type 0 where
  pub progress : Progress
  pub issued : ℕ
  pub applied : ℕ
  pub banks : State

-- nothing was given, closed, issued or applied
abbrev pub new_schedule : Store → ScheduleState
new_schedule v = record { progress = record { given = no_items; closed = 0 }; issued = 0; applied = 0; banks = at_rest v }

-- the commands that cycle n has issued
abbrev pub issued_at : ℕ → ScheduleState → List Command
issued_at n a = commands a.progress.given n a.progress.closed

-- c is the command that is applied next
abbrev pub IsNextApplied : ℕ → ScheduleState → Command → Type 0
IsNextApplied n a c = (a.applied < a.issued) × (slice_get (issued_at n a) a.applied ≡ Some c)

-- ---- steps and cuts

-- one step of cycle n
pub data IsStep (n : ℕ) (a b : ScheduleState) : Type 0 where
  -- a sensor gives an item
  gives : (s : Sensor) (x : Item) → IsAllowed (Give s x) a.progress
      → b ≡ record { progress = after_step a.progress (Give s x); issued = a.issued; applied = a.applied; banks = a.banks } → IsStep n a b
  -- a tick is closed, and its commands are issued
  closes : IsAllowed Close a.progress
      → b ≡ record { progress = after_step a.progress Close; issued = length (commands a.progress.given n (a.progress.closed + 1)); applied = a.applied; banks = a.banks } → IsStep n a b
  -- the next issued command is applied
  applies : (c : Command) → IsNextApplied n a c
      → b ≡ record { progress = a.progress; issued = a.issued; applied = a.applied + 1; banks = state_after a.banks (reply_to a.banks c).steps } → IsStep n a b

-- steps lead from a, over these moments, to b
abbrev pub Leads : ℕ → ScheduleState → List ScheduleState → ScheduleState → Type 0
Leads n a [] b = a ≡ b
Leads n a (m ∷ ms) b = IsStep n a m × Leads n m ms b

-- after a cut the banks are as they were, or a stop in a call of the next command left some of its steps
abbrev pub IsCut : ℕ → ScheduleState → Store → Type 0
IsCut n a w =
    (w ≡ a.banks.store)
    ⊎ ((c : Command) × (k : ℕ) × (done : List BankStep) × IsNextApplied n a c × IsStop (reply_to a.banks c).steps k done × (w ≡ after a.banks.store done))

-- ---- over the feeds of a cycle

-- what was given is a beginning of the lists f
abbrev pub Begins : SensorLists → ScheduleState → Type 0
Begins f a = (s : Sensor) → BeginsWith (items_of s f) (items_of s a.progress.given)

-- the commands of cycle n over the lists f
abbrev pub all_commands : SensorLists → ℕ → List Command
all_commands f n = commands f n (horizon_of f)

-- the steps of the first j commands
abbrev pub steps_of_first : SensorLists → ℕ → Store → ℕ → List BankStep
steps_of_first f n v j = steps_of v (take j (all_commands f n))

-- allowed steps of cycle n over the feeds f lead from the banks v to b
pub record HasReached (f : SensorLists) (n : ℕ) (v : Store) (b : ScheduleState) : Type 0 where
  pub feeds : AreFeeds f
  pub over : List ScheduleState
  pub leads : Leads n (new_schedule v) over b
  pub begins : Begins f b

-- they lead to b, where all is given and closed and every issued command applied
pub record HasFinished (f : SensorLists) (n : ℕ) (v : Store) (b : ScheduleState) : Type 0 where
  pub feeds : AreFeeds f
  pub over : List ScheduleState
  pub leads : Leads n (new_schedule v) over b
  pub is_over : IsOver f b.progress
  pub all_applied : b.applied ≡ b.issued

-- these are the banks after the first j commands, or after a stop of the cycle in the next one
abbrev pub IsLeftAfter : SensorLists → ℕ → Store → ℕ → Store → Type 0
IsLeftAfter f n v j w =
    (w ≡ after v (steps_of_first f n v j))
    ⊎ ((k : ℕ) × (done : List BankStep) × IsStop (steps_in f n v) k done
    × (all_calls (steps_of_first f n v j) < k) × (k ≤ all_calls (steps_of_first f n v (j + 1))) × (w ≡ after v done))
