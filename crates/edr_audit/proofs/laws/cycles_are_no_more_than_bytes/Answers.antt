use Rattle.edr_audit.proofs.CountLemmas.{cycles_of_bytes}
use Rattle.edr_audit.proofs.laws.cycles_are_no_more_than_bytes.Goals as goal

pub returns : goal.returns
returns c = cycles_of_bytes
