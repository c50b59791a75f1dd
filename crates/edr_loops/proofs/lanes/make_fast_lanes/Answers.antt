use Rattle.edr_loops.proofs.lanes.make_fast_lanes.Goals as goal

pub returns-clause-begun : goal.returns-clause-begun
returns-clause-begun c = λ f. record {
  along = c.in_ok-along.ensures.begun f.along;
  across = c.in_ok-across.ensures.begun f.across;
  restraint = c.in_ok-restraint.ensures.begun f.restraint;
}
