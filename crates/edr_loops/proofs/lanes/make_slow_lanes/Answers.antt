use Rattle.edr_loops.proofs.LaneLemmas.{fresh-taken, fresh-kept, fresh-lanes}
use Rattle.edr_loops.proofs.lanes.make_slow_lanes.Goals as goal

pub returns-clause-lanes : goal.returns-clause-lanes
returns-clause-lanes c = fresh-lanes c.in_ok-lanes.lanes c.lanes_of.result.senders c.lanes_of.result.inlets c.in_ok-lanes.ensures c.lanes_of.ensures.senders c.lanes_of.ensures.inlets

pub returns-clause-fresh : goal.returns-clause-fresh
returns-clause-fresh c = fresh-taken c.in_ok-lanes.lanes c.lanes_of.result.senders c.lanes_of.result.inlets c.in_ok-lanes.ensures c.lanes_of.ensures.senders c.lanes_of.ensures.inlets

pub returns-clause-kept : goal.returns-clause-kept
returns-clause-kept c = fresh-kept c.in_ok-lanes.lanes c.lanes_of.result.senders c.lanes_of.result.inlets c.in_ok-lanes.ensures c.lanes_of.ensures.senders c.lanes_of.ensures.inlets
