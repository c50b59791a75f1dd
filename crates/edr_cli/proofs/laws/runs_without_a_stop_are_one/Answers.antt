use Rattle.edr_cli.proofs.RunLaws.{powered_run}
use Rattle.edr_cli.proofs.laws.runs_without_a_stop_are_one.Goals as goal

pub returns : goal.returns
returns c = powered_run
