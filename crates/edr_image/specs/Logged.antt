-- What contracts see of a log.
use Rattle.std.specs.Prelude.{ℕ, List}
use Rattle.edr_image.specs.declared.Ack.{Ack}

-- acknowledged commands, and for how many more there is room
pub record Logged : Type 0 where
  pub acks : List Ack
  pub spare : ℕ
