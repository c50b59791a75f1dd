use Rattle.edr_loops.proofs.LaterLemmas.{holding-again, holding-self}
use Rattle.edr_loops.proofs.recorder.Desk.take_parts.Goals as goal

pub loop-sensor-init : goal.loop-sensor-init
loop-sensor-init c = holding-self c.args.self.now c.requires

pub loop-sensor-preserved : goal.loop-sensor-preserved
loop-sensor-preserved c = holding-again 0 _ _ _ c.loop-sensor.invariant c.take_part-moved.ensures
