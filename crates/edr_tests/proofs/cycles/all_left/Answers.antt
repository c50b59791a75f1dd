use Rattle.edr_cycle.proofs.FreshRestLemmas.{fresh-remains}
use Rattle.edr_tests.proofs.cycles.all_left.Goals as goal

pub returns : goal.returns
returns c = fresh-remains c.args.feeds.now c.args.number c.in_ok-core.core c.after-rest.result c.in_ok-core.ensures c.after-rest.ensures.remains
