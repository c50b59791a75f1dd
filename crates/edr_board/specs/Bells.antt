-- How many rounds that found nothing a thread counts.
use Rattle.std.specs.Prelude.{ℕ, ◌+◌, if◌then◌else◌, nat_le}
use Rattle.edr_board.specs.declared.bells.Bell.{Bell}
use Rattle.edr_board.specs.declared.bells.Bell.TheVariants.{Recorder, Room, Grants}
use Rattle.edr_board.specs.declared.bells.TheConstants.{RECORDER_ROUNDS, ROUNDS}

-- after how many of them whoever waits at this bell sleeps
abbrev pub most_rounds : Bell → ℕ
most_rounds Recorder = RECORDER_ROUNDS
most_rounds Room = ROUNDS
most_rounds Grants = ROUNDS

-- one more than before, up to the round past these in which the thread says that it will sleep; and after each sleep these, so that
-- it says so again in the next round
abbrev pub rounds_after : Bell → ℕ → ℕ
rounds_after bell rounds = if nat_le rounds (most_rounds bell) then rounds + 1 else most_rounds bell
