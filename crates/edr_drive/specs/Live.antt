-- What a cycle leaves beside which a reader saw the banks.
use Rattle.std.specs.Prelude.{◌≡◌, ◌≤◌, ℕ, false, length}
use Rattle.edr_items.specs.SensorLists.{SensorLists}
use Rattle.edr_image.specs.Banks.{Store}
use Rattle.edr_image.specs.Steps.{after}
use Rattle.edr_run.specs.Schedule.{steps_of_first}
use Rattle.edr_live.specs.Shown.{padded}
use Rattle.edr_drive.specs.declared.live.LiveEnd.{LiveEnd}

-- The last view is that of the banks v after the first commands of the cycle with the number n, with how many these are. They are
-- commands of its log; and unless it was cut, they are all of them.
pub record IsLastOf (v : Store) (f : SensorLists) (n : ℕ) (e : LiveEnd) : Type 0 where
  pub within : e.last.applied ≤ length e.end.log.acks
  pub count : e.last.banks ≡ v.header.banks
  pub views : e.last.views ≡ padded 16 (after v (steps_of_first f n v e.last.applied)).banks
  pub all : e.cut ≡ false → e.last.applied ≡ length e.end.log.acks
