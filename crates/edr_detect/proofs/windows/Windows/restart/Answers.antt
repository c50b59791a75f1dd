use Rattle.edr_detect.proofs.WindowLemmas.{swing-begun}
use Rattle.edr_detect.proofs.windows.Windows.restart.Goals as goal

pub returns-then-change-clause-stands : goal.returns-then-change-clause-stands
returns-then-change-clause-stands c = λ m b p q t stay h. rw c.if-change.true (record {
  swings = λ _. record {
    zero_along = swing-begun 20 m.along t c.restart.new.self c.restart.ensures.stands;
    zero_across = swing-begun 5 m.across t c.restart-then-change.new.self c.restart-then-change.ensures.stands;
    trigger_along = swing-begun 150 m.along t c.restart-then-change-2.new.self c.restart-then-change-2.ensures.stands;
    trigger_across = swing-begun 150 m.across t c.restart-then-change-3.new.self c.restart-then-change-3.ensures.stands;
  };
  latest_along = h.latest_along;
  latest_across = h.latest_across;
})

pub returns-then-change-2-clause-stands : goal.returns-then-change-2-clause-stands
returns-then-change-2-clause-stands c = λ m b p q t stay h. rw (c.if-change.false, c.if-change-2.true) (record {
  swings = λ none. let w = h.swings (stay c.if-change.false none) in record {
    zero_along = swing-begun 20 m.along t c.restart-then-change-2-2.new.self c.restart-then-change-2-2.ensures.stands;
    zero_across = swing-begun 5 m.across t c.restart-then-change-2-3.new.self c.restart-then-change-2-3.ensures.stands;
    trigger_along = w.trigger_along;
    trigger_across = w.trigger_across;
  };
  latest_along = h.latest_along;
  latest_across = h.latest_across;
})
