use Rattle.edr_reading.proofs.EventLemmas.{event-long}
use Rattle.edr_reading.proofs.laws.an_event_has_29_rows.Goals as goal

pub returns-clause-event : goal.returns-clause-event
returns-clause-event c block bank r = event-long block bank r
