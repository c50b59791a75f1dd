use Rattle.edr_board.proofs.FreezeOpeningLemmas.{opening_holds}
use Rattle.edr_board.proofs.FreezeStepLemmas.{freeze_leads_keep}
use Rattle.edr_board.proofs.no_mark_falls.Goals as goal

pub returns-clause-opened : goal.returns-clause-opened
returns-clause-opened c = opening_holds

pub returns-clause-steps : goal.returns-clause-steps
returns-clause-steps c = freeze_leads_keep
