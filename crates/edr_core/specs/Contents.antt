-- What contracts see of a `Core`.
use Rattle.std.specs.Prelude.{ℕ}
use Rattle.edr_core.specs.declared.captures.Captures.{Captures}
use Rattle.edr_core.specs.SplitContents.{SplitContents}

-- the cycle and the closed tick, the core but for the slow sensors, and what is kept of these
pub record CoreContents : Type 0 where
  pub cycle : ℕ
  pub closed : ℕ
  pub split : SplitContents
  pub captures : Captures
