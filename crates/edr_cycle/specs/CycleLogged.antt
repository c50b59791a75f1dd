-- What contracts see of the log of a cycle that runs.
use Rattle.std.specs.Prelude.{ℕ, List}
use Rattle.edr_record.specs.declared.Command.{Command}
use Rattle.edr_image.specs.declared.Ack.{Ack}

-- acknowledged commands, the commands themselves, and for how many more there is room
pub record CycleLogged : Type 0 where
  pub acks : List Ack
  pub commands : List Command
  pub spare : ℕ
