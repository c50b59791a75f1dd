use Rattle.edr_migrate.proofs.ShortEventLemmas.{migrated_is, migrated_short, old_view_short}
use Rattle.edr_migrate.proofs.laws.migrated_events_are_short.Goals as goal

pub returns-clause-migrated : goal.returns-clause-migrated
returns-clause-migrated c = migrated_short

pub returns-clause-old : goal.returns-clause-old
returns-clause-old c = old_view_short

pub returns-clause-same : goal.returns-clause-same
returns-clause-same c = migrated_is
