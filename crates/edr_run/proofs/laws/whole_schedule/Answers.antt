use Rattle.edr_run.proofs.AnyScheduleLaws.{whole-any}
use Rattle.edr_run.proofs.laws.whole_schedule.Goals as goal

pub returns : goal.returns
returns c = λ f n v b way. whole-any f n v way.over b way.feeds way.leads way.is_over.all_given way.is_over.all_closed way.all_applied
