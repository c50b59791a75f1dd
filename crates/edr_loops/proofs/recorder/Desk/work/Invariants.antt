use Rattle.edr_loops.specs.Recorders.{HasPosted, IsRecording, LaterUpTo}
use Rattle.edr_loops.proofs.recorder.Desk.work.Given as goal

abbrev pub invariant-loop : goal.invariant-loop
invariant-loop g l = HasPosted l.self × IsRecording l.self × LaterUpTo l.horizon l.fn.self l.self
