-- An image that is refused isn't whole.
use Rattle.edr_migrate.proofs.OutcomeLemmas.{refused_not_whole}
use Rattle.edr_migrate.proofs.check.Goals as goal

pub returns-in-Err-clause-whole : goal.returns-in-Err-clause-whole
returns-in-Err-clause-whole c = λ v whole. refused_not_whole c.args.old.now c.in-Err.refused v c.in-Err.ensures.refused whole
