use Rattle.std.proofs.Common.{arith, refl}
use Rattle.edr_loops.proofs.LaterLemmas.{holding-on, same-taken}
use Rattle.edr_loops.proofs.RecorderLemmas.{stands-take, stands-unfast}
use Rattle.edr_loops.proofs.recorder.Desk.take_next.Goals as goal

pub returns : goal.returns
returns c = holding-on 0 c.args.self.now _ c.requires (record {
  same = same-taken c.args.self.now c.give.new.core c.take_upto.new.self c.set.new.self c.in-Some.ensures.rings;
  stands = λ n e low s.
      stands-take n e c.args.sensor c.in-Some.item c.args.self.now c.give.new.core c.take_upto.new.self c.set.new.self c.in-Some.ensures.taken.0 c.saturating_add-upto.result
      (λ h is. let closed = c.closed.ensures h is in let upto = c.saturating_add-upto.ensures in omega (arith, closed, upto))
      c.in-Some.ensures.taken.1 c.set.ensures s c.sensor.result c.give.result c.sensor.ensures c.give.ensures.taken c.give.ensures.refused;
}) (refl, refl) refl

pub returns-in_default : goal.returns-in_default
returns-in_default c = holding-on 0 c.args.self.now _ c.requires (record {
  same = same-taken c.args.self.now c.args.self.now.core c.take_upto.new.self c.args.self.now.last c.in_default.ensures.rings;
  stands = λ n e low s. stands-unfast n e c.args.self.now c.take_upto.new.self c.in_default.ensures.taken s;
}) (refl, refl) refl
