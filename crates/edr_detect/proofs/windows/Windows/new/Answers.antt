use Rattle.edr_detect.proofs.WindowLemmas.{swing-begun}
use Rattle.edr_detect.proofs.windows.Windows.new.Goals as goal

pub returns-clause-stands : goal.returns-clause-stands
returns-clause-stands c = λ m rest. record {
  swings = λ _. record {
    zero_along = swing-begun 20 m.along 0 c.new.result c.new.ensures.stands;
    zero_across = swing-begun 5 m.across 0 c.new-2.result c.new-2.ensures.stands;
    trigger_along = swing-begun 150 m.along 0 c.new-3.result c.new-3.ensures.stands;
    trigger_across = swing-begun 150 m.across 0 c.new-4.result c.new-4.ensures.stands;
  };
  latest_along = c.new-5.ensures m.along rest.along;
  latest_across = c.new-6.ensures m.across rest.across;
}
