use Rattle.std.proofs.Common.{refl}
use Rattle.edr_loops.proofs.RecorderLemmas.{stands-begins}
use Rattle.edr_loops.proofs.recorder.Desk.new.Goals as goal

pub returns-clause-stands : goal.returns-clause-stands
returns-clause-stands c = λ n horizon b. stands-begins n horizon _ b c.each.ensures refl refl c.none.ensures
