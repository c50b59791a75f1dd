use Rattle.edr_items.specs.Item.{IsFeed}
use Rattle.edr_items.specs.PerSensor.{with_value}
use Rattle.edr_items.proofs.PerSensorLemmas.{with_value-each}
use Rattle.edr_items.proofs.FeedLemmas.{list-is_feed, lists-are_feeds}
use Rattle.edr_items.proofs.Feeds.add.Goals as goal

pub add_to-requires : goal.add_to-requires
add_to-requires c = rw c.of_mut.ensures.value (list-is_feed c.self.inside c.self.invariant c.args.sensor)

pub invariant_of-self : goal.invariant_of-self
invariant_of-self c =
    let s = c.args.sensor in
    let lists = c.self.inside.lists in
    lists-are_feeds (record { lists = with_value s c.add_to.new.list lists })
    (with_value-each (λ r v. IsFeed r v.items) s c.add_to.new.list lists c.add_to.ensures.feed (list-is_feed c.self.inside c.self.invariant))
