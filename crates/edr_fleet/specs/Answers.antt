-- What the report of a fleet answers.
use Rattle.std.specs.Prelude.{◌≡◌, ℕ, List, Vec, Result, IfOk, IfErr}
use Rattle.std.specs.declared.alloc.Global.{Global}
use Rattle.edr_fleet.specs.declared.frames.FleetRefused.{FleetRefused}
use Rattle.edr_fleet.specs.declared.frames.FleetRefused.TheVariants.{OutOfMemory, Truncated}
use Rattle.edr_fleet.specs.Frames.{AreFramesOf, EndsInFrameAt}
use Rattle.edr_fleet.specs.Text.{IsFleetText}

-- the report of these bytes: whole ones are refused only where memory runs out, and others where their last frame begins
pub record IsReportOf (bytes : List ℕ) (result : Result (Vec ℕ Global) FleetRefused) : Type 0 where
  pub text : IfOk result (λ out. IsFleetText bytes out.items)
  pub whole : (images : List (List ℕ)) → AreFramesOf images bytes → IfErr result (λ e. e ≡ OutOfMemory)
  pub cut : IfErr result (λ e. (offset : ℕ) → e ≡ Truncated offset → EndsInFrameAt offset bytes)
