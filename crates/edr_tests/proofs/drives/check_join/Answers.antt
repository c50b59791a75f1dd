use Rattle.std.specs.Arc.{arc_value}
use Rattle.edr_tests.proofs.drives.check_join.Goals as goal

pub with_workers-back-requires-clause-begun : goal.with_workers-back-requires-clause-begun
with_workers-back-requires-clause-begun g c κs within = c.requires.senders (arc_value c.args.crew.now.feeds.now)
