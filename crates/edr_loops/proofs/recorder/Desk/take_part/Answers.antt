use Rattle.std.proofs.Common.{refl, subst, sym}
use Rattle.edr_items.specs.Sensor.{IsSlow}
use Rattle.edr_loops.proofs.LaterLemmas.{holding-on, same-taken_part}
use Rattle.edr_loops.proofs.RecorderLemmas.{stands-aside, stands-none, stands-part_or}
use Rattle.edr_loops.proofs.recorder.Desk.take_part.Goals as goal

pub returns-in_default : goal.returns-in_default
returns-in_default c = holding-on 0 c.args.self.now _ c.requires (record {
  same = same-taken_part c.args.self.now c.args.self.now.core c.take.new.inlets c.in_default.ensures.rings;
  stands = λ n e low s. stands-none n e c.args.self.now c.take.new.inlets c.in_default.ensures.taken s;
}) (refl, refl) refl

pub returns-then-is_of : goal.returns-then-is_of
returns-then-is_of c = holding-on 0 c.args.self.now _ c.requires (record {
  same = same-taken_part c.args.self.now c.part.new.self c.take.new.inlets c.in-Some.ensures.rings;
  stands = λ n e low s.
      let is = c.is_of.ensures.0 c.if-is_of.true in
      stands-part_or n e c.args.sensor c.in-Some.own c.args.self.now c.part.new.self c.take.new.inlets c.in-Some.ensures.taken s
      (subst IsSlow (sym is.1) is.0) is.1 c.part.result c.part.ensures.ok c.part.ensures.err;
}) (refl, refl) refl

pub returns-else-is_of : goal.returns-else-is_of
returns-else-is_of c = holding-on 0 c.args.self.now _ c.requires (record {
  same = same-taken_part c.args.self.now c.args.self.now.core c.take.new.inlets c.in-Some.ensures.rings;
  stands = λ n e low s. stands-aside n e c.args.sensor c.in-Some.own c.args.self.now c.args.self.now.core c.take.new.inlets c.in-Some.ensures.taken s refl;
}) (refl, refl) refl
