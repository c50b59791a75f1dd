use Rattle.edr_merge.proofs.StandsLemmas.{stands-new}
use Rattle.edr_merge.proofs.Merge.new.Goals as goal

pub returns : goal.returns
returns c = stands-new c.each.result c.in_ok-new.field-0 c.each.ensures c.in_ok-new.ensures
