use Rattle.edr_definitions.proofs.CrashLaws.{crash_at-agree}
use Rattle.edr_definitions.proofs.growth.a_crash_part_sees_its_ticks_alone.Goals as goal

pub returns : goal.returns
returns c = λ m n z t upto h. crash_at-agree m n z t upto h.fired h.along h.across
