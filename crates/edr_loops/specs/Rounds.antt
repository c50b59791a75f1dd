-- How many rounds in a row found nothing to do.
use Rattle.std.specs.Prelude.{ℕ, Bool, true, false, if◌then◌else◌}
use Rattle.edr_board.specs.declared.bells.Bell.{Bell}
use Rattle.edr_board.specs.declared.bells.Bell.TheVariants.{Grants, Room}
use Rattle.edr_board.specs.Bells.{rounds_after}
use Rattle.edr_loops.specs.declared.fast_sender.Offered.{Offered}
use Rattle.edr_loops.specs.declared.fast_sender.Offered.TheVariants.{Sent, Full, Over}

-- something was sent or kept
abbrev pub is_sent : Offered → Bool
is_sent Sent = true
is_sent Full = false
is_sent Over = false

-- the bell at which a worker rests whose fast sensors' offers came to this
abbrev pub bell_after : Offered → Bell
bell_after Sent = Room
bell_after Full = Room
bell_after Over = Grants

-- none after a round that found something; after another one the thread rests at the bell
abbrev pub rounds_on : Bell → Bool → ℕ → ℕ
rounds_on bell found rounds = if found then 0 else rounds_after bell rounds
