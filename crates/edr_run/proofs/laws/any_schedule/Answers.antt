use Rattle.edr_run.proofs.AnyScheduleLaws.{banks-any}
use Rattle.edr_run.proofs.laws.any_schedule.Goals as goal

pub returns : goal.returns
returns c = λ f n v b way. banks-any f n v way.over b way.feeds way.leads way.begins
