use Rattle.edr_definitions.proofs.CrashLaws.{crash_at-zero, crash_at-next, crash_at-finish}
use Rattle.edr_definitions.proofs.growth.a_crash_part_grows_tick_by_tick.Goals as goal

pub returns-clause-zero : goal.returns-clause-zero
returns-clause-zero c = crash_at-zero

pub returns-clause-next : goal.returns-clause-next
returns-clause-next c = crash_at-next

pub returns-clause-finish : goal.returns-clause-finish
returns-clause-finish c = crash_at-finish
