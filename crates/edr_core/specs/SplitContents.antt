-- What contracts see of a `SplitCore`.
use Rattle.std.specs.Prelude.{ℕ, Option}
use Rattle.edr_record.specs.declared.Place.{Place}
use Rattle.edr_merge.specs.State.{MergeState}
use Rattle.edr_detect.specs.Detected.{DetectState}
use Rattle.edr_core.specs.declared.candidate.Candidate.{Candidate}
use Rattle.edr_core.specs.declared.ask.OpenAsk.{OpenAsk}

-- the cycle and the closed tick, what waits to be closed, what the search has seen, the last event, the open candidate, and the
-- open ask
pub record SplitContents : Type 0 where
  pub cycle : ℕ
  pub closed : ℕ
  pub merge : MergeState
  pub detect : DetectState
  pub link : Option (Place × ℕ)
  pub candidate : Option Candidate
  pub ask : Option OpenAsk
