use Rattle.std.proofs.Common.{arith, refl}
use Rattle.edr_loops.proofs.LaterLemmas.{going-on, later-raised, later-self, on-again}
use Rattle.edr_loops.proofs.recorder.Desk.step_on.Goals as goal

pub loop-init : goal.loop-init
loop-init c = going-on c.args.horizon c.args.self.now _ c.requires (later-raised 0 c.args.horizon _ _ (omega arith) (later-self c.args.self.now)) (refl, refl)

pub loop-preserved : goal.loop-preserved
loop-preserved c = on-again c.args.horizon c.args.horizon _ _ _ (omega arith) c.loop.invariant c.step.ensures

pub returns-then-not-step : goal.returns-then-not-step
returns-then-not-step c = on-again c.args.horizon c.args.horizon _ _ _ (omega arith) c.loop.invariant c.step.ensures
