-- The steps that the code takes, as the definitions have them.
use Rattle.edr_image.specs.Steps.{BankStep}
use Rattle.edr_image.specs.Steps as steps
use Rattle.edr_audit.specs.declared.steps.BankChange.{BankChange}
use Rattle.edr_audit.specs.declared.steps.BankChange.TheVariants as change

abbrev pub step_of : BankChange → BankStep
step_of (change.Erase m) = steps.Erase m
step_of (change.Fill m pre) = steps.Fill m pre
step_of (change.Lock m) = steps.Lock m
step_of (change.Done m crash) = steps.Done m crash
