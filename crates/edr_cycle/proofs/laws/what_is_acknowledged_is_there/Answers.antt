use Rattle.edr_cycle.proofs.AcknowledgingLemmas.{stop-acknowledged}
use Rattle.edr_cycle.proofs.laws.what_is_acknowledged_is_there.Goals as goal

pub returns : goal.returns
returns c = λ f n k v done. stop-acknowledged f n v k done
