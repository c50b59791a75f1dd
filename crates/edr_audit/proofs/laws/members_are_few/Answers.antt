use Rattle.edr_audit.proofs.FewLemmas.{members-few}
use Rattle.edr_audit.proofs.laws.members_are_few.Goals as goal

pub returns-clause-few : goal.returns-clause-few
returns-clause-few c = members-few
