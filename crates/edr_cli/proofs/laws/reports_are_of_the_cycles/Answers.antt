use Rattle.edr_cli.proofs.RunLaws.{same_reports}
use Rattle.edr_cli.proofs.laws.reports_are_of_the_cycles.Goals as goal

pub returns : goal.returns
returns c = λ cycles i j a b form old new text run. same_reports form cycles i j old new a.0 b.0 text a.2 b.2 a.1 b.1 run
