use Rattle.edr_loops.proofs.lanes.settle_fast.Goals as goal

pub returns-clause-begins : goal.returns-clause-begins
returns-clause-begins c = λ f begun. record {
  along = c.settle_one.ensures.begins f.along begun.along;
  across = c.settle_one-2.ensures.begins f.across begun.across;
  restraint = c.settle_one-3.ensures.begins f.restraint begun.restraint;
}
