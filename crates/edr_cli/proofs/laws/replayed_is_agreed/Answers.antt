use Rattle.edr_cli.proofs.AgreedLaws.{replayed_agreed}
use Rattle.edr_cli.proofs.laws.replayed_is_agreed.Goals as goal

pub returns : goal.returns
returns c = replayed_agreed
