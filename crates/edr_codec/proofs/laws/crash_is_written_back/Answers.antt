use Rattle.std.proofs.Common.{sym}
use Rattle.edr_codec.proofs.CrashLemmas.{crash_at-is}
use Rattle.edr_codec.proofs.PieceLemmas.{small-bytes}
use Rattle.edr_codec.proofs.CrashLaws.{crash-written}
use Rattle.edr_codec.proofs.laws.crash_is_written_back.Goals as goal

pub returns : goal.returns
returns c = λ form bytes long small whole. (crash_at-is form bytes whole, sym (crash-written form bytes long (small-bytes bytes small) whole))
