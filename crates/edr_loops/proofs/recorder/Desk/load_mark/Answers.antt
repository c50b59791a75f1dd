use Rattle.std.proofs.Common.{refl}
use Rattle.edr_loops.proofs.LaterLemmas.{holding-on, holding-self, later-by}
use Rattle.edr_loops.proofs.RecorderLemmas.{stands-mark}
use Rattle.edr_loops.proofs.recorder.Desk.load_mark.Goals as goal

pub returns-then-not-is_slow : goal.returns-then-not-is_slow
returns-then-not-is_slow c = holding-self c.args.self.now c.requires

pub returns : goal.returns
returns c =
    let m = c.mark-mark.ensures in
    holding-on 0 c.args.self.now _ c.requires
    (later-by 0 c.args.self.now _ refl refl refl m.same.freeze refl refl
    (λ n e low s. stands-mark n e c.args.sensor c.mark-mark.result (c.is_slow.ensures.0 c.if-not-is_slow.false) c.args.self.now c.give.new.core c.mark-mark.new.self m.same m.later m.granted m.read s c.give.result c.give.ensures.taken c.give.ensures.refused)) (refl, refl) refl
