use denote.Param.Send.{sendable}
use Rattle.std.proofs.Crossing.{crosses}
use Rattle.edr_live.proofs.SendLemmas.{reader_sends}
use Rattle.edr_tests.proofs.readers_beside.watch_beside.Goals as goal

pub spawn-child-requires-send-F : goal.spawn-child-requires-send-F
spawn-child-requires-send-F g c κs within = search (sendable, crosses, reader_sends) depth 20

pub spawn-child-requires-send-T : goal.spawn-child-requires-send-T
spawn-child-requires-send-T g c κs within = search (sendable, reader_sends) depth 20
