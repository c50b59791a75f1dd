use Rattle.std.proofs.Common.{IfSome, subst}
use Rattle.edr_items.specs.SensorLists.{items_of}
use Rattle.edr_items.proofs.PerSlowSensorLemmas.{slow_value_of-some}
use Rattle.edr_loops.specs.SlowSenders.{IsKeeping}
use Rattle.edr_loops.proofs.worker.SlowSenders.serve.Goals as goal

pub serve_slow-requires : goal.serve_slow-requires
serve_slow-requires g c =
    let s = c.args.sensor in
    let own = slow_value_of-some s c.args.self.now.each c.in-Some.sender.now c.in-Some.ensures.value in
    subst (λ p. IfSome p (IsKeeping s (items_of s c.args.feeds.now))) own.1 (c.requires s own.0)
