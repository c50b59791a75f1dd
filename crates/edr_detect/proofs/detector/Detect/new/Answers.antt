use Rattle.std.proofs.Common.{refl}
use Rattle.edr_detect.proofs.RowLemmas.{start-stands}
use Rattle.edr_detect.proofs.detector.Detect.new.Goals as goal

pub returns-clause-stands : goal.returns-clause-stands
returns-clause-stands c = start-stands _ refl refl refl c.new.ensures.stands
