use Rattle.std.proofs.Common.{arith}
use Rattle.std.proofs.lemmas.Int.{ints}
use Rattle.edr_detect.proofs.WindowLemmas.{swing-more}
use Rattle.edr_detect.proofs.windows.Windows.push_swings.Goals as goal

pub returns-clause-stands : goal.returns-clause-stands
returns-clause-stands c = λ m b before t next after_past since_past along across h. record {
  zero_along = swing-more 20 m.along b.after before t _ c.args.self.now.zero_along _ next after_past (omega (arith, ints, along, c.from.ensures)) c.push.ensures.stands h.zero_along;
  zero_across = swing-more 5 m.across b.after before t _ c.args.self.now.zero_across _ next after_past (omega (arith, ints, across, c.from-2.ensures)) c.push-2.ensures.stands h.zero_across;
  trigger_along = swing-more 150 m.along b.since before t _ c.args.self.now.trigger_along _ next since_past (omega (arith, ints, along, c.from-3.ensures)) c.push-3.ensures.stands h.trigger_along;
  trigger_across = swing-more 150 m.across b.since before t _ c.args.self.now.trigger_across _ next since_past (omega (arith, ints, across, c.from-4.ensures)) c.push-4.ensures.stands h.trigger_across;
}
