-- The steps of a task, and its answer.
use Rattle.std.specs.Prelude.{◌≤◌, ℕ, List, [], ◌∷◌, All}
use Rattle.edr_image.specs.declared.Applied.TheVariants as applied
use Rattle.edr_image.specs.Steps.{BankStep, Erase, Fill, Lock, Done, Reply, not_kept}
use Rattle.edr_gates.specs.Taken.{bank_of}
use Rattle.edr_banks.specs.declared.tasks.Task.{Task}
use Rattle.edr_banks.specs.declared.tasks.Task.TheVariants as task

abbrev pub reply_for : Task → Reply
reply_for task.Nothing = not_kept
reply_for (task.Fill m pre) = record { steps = Fill m pre ∷ []; answer = applied.Kept m }
reply_for (task.Replace m pre) = record { steps = Erase m ∷ Fill m pre ∷ []; answer = applied.Kept m }
reply_for (task.Lock m) = record { steps = Lock m ∷ []; answer = applied.Locked m }
reply_for (task.ReplaceLocked m pre) = record { steps = Erase m ∷ Fill m pre ∷ Lock m ∷ []; answer = applied.Locked m }
reply_for (task.Finish m crash) = record { steps = Done m crash ∷ []; answer = applied.Done m }

abbrev pub steps_of : Task → List BankStep
steps_of t = (reply_for t).steps

-- the bank of the step is one of so many banks
abbrev pub IsStepWithin : ℕ → BankStep → Type 0
IsStepWithin banks s = (1 ≤ bank_of s) × (bank_of s ≤ banks)

-- so is the bank of each step of the task
abbrev pub IsBankWithin : ℕ → Task → Type 0
IsBankWithin banks t = All (IsStepWithin banks) (steps_of t)
