use Rattle.edr_detect.proofs.WindowLemmas.{swing-more}
use Rattle.edr_detect.proofs.LatestLemmas.{latest-still}
use Rattle.edr_detect.proofs.windows.Windows.rest.Goals as goal

pub returns-clause-stands : goal.returns-clause-stands
returns-clause-stands c = λ none p t m b before next after_past since_past start along across h. record {
  swings = λ none_open. let w = h.swings none_open in record {
    zero_along = swing-more 20 m.along b.after before t _ c.args.self.now.zero_along _ next after_past along c.push_still.ensures.stands w.zero_along;
    zero_across = swing-more 5 m.across b.after before t _ c.args.self.now.zero_across _ next after_past across c.push_still-2.ensures.stands w.zero_across;
    trigger_along = swing-more 150 m.along b.since before t _ c.args.self.now.trigger_along _ next since_past along c.push_still-3.ensures.stands w.trigger_along;
    trigger_across = swing-more 150 m.across b.since before t _ c.args.self.now.trigger_across _ next since_past across c.push_still-4.ensures.stands w.trigger_across;
  };
  latest_along = latest-still m.along before t c.args.self.now.latest_along.values c.args.self.now.latest_along.sum c.args.self.now.latest_along.sum_is.long next start.along along none.along h.latest_along;
  latest_across = latest-still m.across before t c.args.self.now.latest_across.values c.args.self.now.latest_across.sum c.args.self.now.latest_across.sum_is.long next start.across across none.across h.latest_across;
}
