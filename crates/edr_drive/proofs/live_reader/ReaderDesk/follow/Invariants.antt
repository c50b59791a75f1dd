use Rattle.edr_drive.specs.Reading.{HasReadOn}
use Rattle.edr_drive.proofs.live_reader.ReaderDesk.follow.Given as goal

abbrev pub invariant-loop : goal.invariant-loop
invariant-loop g l = HasReadOn l.fn.self.reader l.reader
