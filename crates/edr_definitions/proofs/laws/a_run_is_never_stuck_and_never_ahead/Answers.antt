use Rattle.edr_definitions.proofs.ScheduleLaws.{never_stuck, never_ahead}
use Rattle.edr_definitions.proofs.laws.a_run_is_never_stuck_and_never_ahead.Goals as goal

pub returns-clause-stuck : goal.returns-clause-stuck
returns-clause-stuck c = λ f p h. never_stuck f p h.feeds h.level h.under_way

pub returns-clause-ahead : goal.returns-clause-ahead
returns-clause-ahead c = λ f p s x h awaited. never_ahead f p h.feeds h.level h.under_way s x awaited.next awaited.due
