use Rattle.edr_run.proofs.LiveLaws.{live-run-has, live-run-is}
use Rattle.edr_run.proofs.laws.live_runs_are_the_runs.Goals as goal

pub returns-clause-run : goal.returns-clause-run
returns-clause-run c = live-run-is

pub returns-clause-lines : goal.returns-clause-lines
returns-clause-lines c = live-run-has
