-- What is shown of books while commands are committed to them.
use Rattle.std.specs.Prelude.{◌≡◌, ◌≤◌, ℕ, Bool, false, List, length, take}
use Rattle.edr_record.specs.declared.Command.{Command}
use Rattle.edr_image.specs.declared.Ack.{Ack}
use Rattle.edr_image.specs.declared.BankView.{BankView}
use Rattle.edr_image.specs.Banks.{Store}
use Rattle.edr_image.specs.Steps.{State, after, at_rest, state_after, steps_of}
use Rattle.edr_items.specs.SensorLists.{SensorLists}
use Rattle.edr_run.specs.Schedule.{steps_of_first}
use Rattle.edr_live.specs.declared.shown.LiveView.{LiveView}
use Rattle.edr_live.specs.Shown.{padded}

-- the banks v after these commands, with the bank that is then held
abbrev pub state_from : Store → List Command → State
state_from v cs = state_after (at_rest v) (steps_of v cs)

-- the views of the banks v after the first p of these commands, and void ones up to 16
abbrev pub views_from : Store → List Command → ℕ → List BankView
views_from v cs p = padded 16 (after v (steps_of v (take p cs))).banks

-- The view is that of the banks v after the first commands of the cycle with the number n, with how many these are. They are commands
-- of a log; and unless it was cut, they are all of them.
pub record IsShownOf (v : Store) (f : SensorLists) (n : ℕ) (acks : List Ack) (view : LiveView) (cut : Bool) : Type 0 where
  pub within : view.applied ≤ length acks
  pub count : view.banks ≡ v.header.banks
  pub views : view.views ≡ padded 16 (after v (steps_of_first f n v view.applied)).banks
  pub all : cut ≡ false → view.applied ≡ length acks
