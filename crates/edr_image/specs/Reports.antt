-- What is told of the cycles of a run.
use Rattle.std.specs.Prelude.{ℕ, Option, List}
use Rattle.edr_image.specs.declared.Ack.{Ack}
use Rattle.edr_image.specs.declared.log.CycleReport.{CycleReport}
use Rattle.edr_image.specs.declared.log.CycleReport.TheVariants as cycle

-- a cycle's start was stopped in a call, or it ran with a number, was stopped in a call of its commands or not, and
-- acknowledged these commands
pub data Report : Type 0 where
  StartStopped : ℕ → Report
  Ran : ℕ → Option ℕ → List Ack → Report

-- the report, without the room that its log has left
abbrev pub report_of : CycleReport → Report
report_of (cycle.StartStopped j) = StartStopped j
report_of (cycle.Ran n stop log) = Ran n stop log.acks
