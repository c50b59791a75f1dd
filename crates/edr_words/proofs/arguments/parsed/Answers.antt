use Rattle.edr_words.proofs.ParsedLemmas.{left}
use Rattle.edr_words.proofs.arguments.parsed.Goals as goal

pub returns-in-Ok-clause-taken : goal.returns-in-Ok-clause-taken
returns-in-Ok-clause-taken c = (c.in-Ok.ensures.kinds c.requires, (c.in-Ok.ensures.matches (left _ _ c.requires)).0)
