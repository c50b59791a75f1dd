use Rattle.edr_run.proofs.AnyScheduleLaws.{cut-any}
use Rattle.edr_run.proofs.laws.any_cut.Goals as goal

pub returns : goal.returns
returns c = λ f n v b w way cut. cut-any f n v way.over b w way.feeds way.leads way.begins cut
