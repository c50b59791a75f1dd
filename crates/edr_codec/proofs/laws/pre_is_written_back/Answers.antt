use Rattle.std.proofs.Common.{sym}
use Rattle.edr_codec.proofs.GrammarLaws.{pre_at-in_bounds}
use Rattle.edr_codec.proofs.PieceLemmas.{small-bytes}
use Rattle.edr_codec.proofs.PreLaws.{pre-written}
use Rattle.edr_codec.proofs.laws.pre_is_written_back.Goals as goal

pub returns : goal.returns
returns c = λ form is bytes long small whole. (pre_at-in_bounds form bytes is whole, sym (pre-written form bytes is long (small-bytes bytes small) whole))
