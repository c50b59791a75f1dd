-- A cycle's commands, taken by banks one after the other up to a stop.
use Rattle.std.specs.Prelude.{ℕ, ◌-◌, Bool, true, false, nat_le, if◌then◌else◌, Option, Some, None, List, [], ◌∷◌, map, fold}
use Rattle.edr_record.specs.Parts.{PrePart}
use Rattle.edr_record.specs.declared.Command.{Command}
use Rattle.edr_image.specs.declared.BankView.{BankView}
use Rattle.edr_image.specs.declared.Choice.{Choice}
use Rattle.edr_image.specs.declared.Header.{Header}
use Rattle.edr_image.specs.Banks.{least_unlocked, lowest_void, to_overwrite}
use Rattle.edr_image.specs.Steps.{BankStep, Reply, State, banks_after, held_after, lock_reply, reply_to, take_reply}
use Rattle.edr_image.specs.Calls.{calls_of, done_of_step}

-- the banks and the one that is held; how many calls there are up to the stop, if one is planned; and what a stop left, once it was reached
pub record WalkState : Type 0 where
  pub banks : List BankView
  pub held : Option ℕ
  pub left : Option ℕ
  pub ends : List (List BankView)

-- the banks with their header
abbrev pub state_in : Header → WalkState → State
state_in h w = record { store = record { header = h; banks = w.banks }; held = w.held }

-- past a whole step
abbrev pub past_step : WalkState → BankStep → Option ℕ → WalkState
past_step w s left = record { banks = banks_after w.banks s; held = held_after w.held s; left = left; ends = [] }

-- what a stop in this call of a step leaves
abbrev pub ends_in_call : WalkState → ℕ → BankStep → List (List BankView)
ends_in_call w call s = map (λ done. fold banks_after w.banks done) (done_of_step call s)

-- past a step, where this many calls are left up to the stop
abbrev pub step_within : WalkState → BankStep → Option ℕ → WalkState
step_within w s None = past_step w s None
step_within w s (Some k) =
    if nat_le k (calls_of s) then record w { ends = map (λ done. fold banks_after w.banks done) (done_of_step k s) }
    else past_step w s (Some (k - calls_of s))

-- past a step, where no stop was reached
abbrev pub step_unless : List (List BankView) → WalkState → BankStep → WalkState
step_unless [] w s = step_within w s w.left
step_unless (e ∷ es) w s = w

-- past a step
unfoldable pub walk_step : WalkState → BankStep → WalkState
walk_step w s = step_unless w.ends w s

-- past steps
abbrev pub walk_steps : WalkState → List BankStep → WalkState
walk_steps w steps = fold walk_step w steps

-- past the steps of a command
abbrev pub walk_command : Header → WalkState → Command → WalkState
walk_command h w c = walk_steps w (reply_to (state_in h w) c).steps

-- no stop was reached
abbrev pub goes_on : List (List BankView) → Bool
goes_on [] = true
goes_on (e ∷ es) = false

-- ---- the replies to commands

-- to Take
abbrev pub taken : Choice → WalkState → PrePart → Reply
taken choice w pre = take_reply pre (lowest_void w.banks) (to_overwrite choice w.banks)

-- to Lock
abbrev pub locked_by : WalkState → PrePart → Reply
locked_by w pre = lock_reply pre w.banks w.held (least_unlocked w.banks)
