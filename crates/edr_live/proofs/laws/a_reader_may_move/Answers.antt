use denote.Param.Send.{sendable}
use Rattle.edr_live.proofs.SendLemmas.{reader_sends}
use Rattle.edr_live.proofs.laws.a_reader_may_move.Goals as goal

pub returns : goal.returns
returns c = search (sendable, reader_sends) depth 20
