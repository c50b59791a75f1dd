use Rattle.edr_codec.proofs.CrashLaws.{crash-read_back}
use Rattle.edr_codec.proofs.laws.crash_is_read_back.Goals as goal

pub returns : goal.returns
returns c = crash-read_back
